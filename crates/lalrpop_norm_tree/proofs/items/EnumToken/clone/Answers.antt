use Rattle.std.proofs.Common.{refl}
use Rattle.std.proofs.lemmas.Result.{IfOk-from_err}
use Rattle.lalrpop_norm_tree.proofs.items.EnumToken.clone.Goals as goal

pub returns-in_err-conversions : goal.returns-in_err-conversions
returns-in_err-conversions c = IfOk-from_err _ _ c.from_residual-in_err-conversions.ensures.0

pub returns-in_err-type_name : goal.returns-in_err-type_name
returns-in_err-type_name c = IfOk-from_err _ _ c.from_residual.ensures.0

pub returns : goal.returns
returns c = rw (c.in_ok-type_name.ensures.cases, c.in_ok-conversions.ensures, c.deref.ensures.value) refl
