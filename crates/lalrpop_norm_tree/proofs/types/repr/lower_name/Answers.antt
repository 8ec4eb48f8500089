use Rattle.std.proofs.Common.{refl, ◌∙◌}
use Rattle.std.proofs.lemmas.Result.{IfOk-from_err}
use Rattle.lalrpop_norm_tree_parts.proofs.ReprSeen.{applied_is}
use Rattle.lalrpop_norm_tree.proofs.types.repr.lower_name.Goals as goal

pub returns-in_err-id : goal.returns-in_err-id
returns-in_err-id c = IfOk-from_err _ _ c.from_residual.ensures.0

pub returns-in_err-ids : goal.returns-in_err-ids
returns-in_err-ids c = IfOk-from_err _ _ c.from_residual-in_err-ids.ensures.0

pub returns : goal.returns
returns c = applied_is _ ∙ rw (c.in_ok-ids.ensures.items, c.in_ok-id.ensures.cases, c.new.ensures.items) refl
