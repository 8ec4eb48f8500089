use Rattle.std.proofs.Common.{◌<◌, subst}
use Rattle.lalrpop_norm_explain.proofs.Lowered.{filled}
use Rattle.lalrpop_norm_explain.proofs.Steps.{first_removed}
use Rattle.lalrpop_norm_explain.proofs.reading.first.Goals as goal

pub returns : goal.returns
returns c = first_removed c.args.trees.items c.remove.result (subst (λ n. 0 < n) c.args.trees.ok.0 (filled _ c.if-is_empty.ensures)) c.remove.ensures.value
