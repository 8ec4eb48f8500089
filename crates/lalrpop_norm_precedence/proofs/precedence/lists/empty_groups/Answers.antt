use Rattle.std.proofs.Common.{arith}
use Rattle.lalrpop_norm_precedence.proofs.LevelListLemmas.{empty_step}
use Rattle.lalrpop_norm_precedence.proofs.precedence.lists.empty_groups.Goals as goal

pub loop-preserved : goal.loop-preserved
loop-preserved c =
    empty_step c.loop.groups.items c.push.new.self.items _ c.args.levels.now c.loop.index (omega arith) c.new.ensures.items c.in_ok-push.ensures.items c.loop.invariant
