use Rattle.std.proofs.lemmas.Result.{IfOk-from_err}
use Rattle.lalrpop_norm_tree.proofs.items.Conversion.clone.Goals as goal

pub returns-in_err-attributes : goal.returns-in_err-attributes
returns-in_err-attributes c = IfOk-from_err _ _ c.from_residual.ensures.0

pub returns-in_err-from : goal.returns-in_err-from
returns-in_err-from c = IfOk-from_err _ _ c.from_residual-in_err-from.ensures.0

pub returns-in_err-to : goal.returns-in_err-to
returns-in_err-to c = IfOk-from_err _ _ c.from_residual-in_err-to.ensures.0
