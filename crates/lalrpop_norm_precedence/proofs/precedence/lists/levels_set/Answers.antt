use Rattle.std.proofs.Common.{arith}
use Rattle.lalrpop_norm_precedence.proofs.LevelListLemmas.{set_step}
use Rattle.lalrpop_norm_precedence.proofs.precedence.lists.levels_set.Goals as goal

pub loop-i-preserved : goal.loop-i-preserved
loop-i-preserved c =
    set_step c.args.levels.now c.loop-i.i _ c.loop-i.set.keys c.insert.new.self.keys (omega arith) (omega arith) c.loop-i.invariant c.in_ok-insert.ensures.keys
