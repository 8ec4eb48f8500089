use Rattle.std.proofs.Common.{refl}
use Rattle.std.proofs.lemmas.Result.{IfOk-from_err}
use Rattle.lalrpop_norm_tree.proofs.items.Grammar.clone.Goals as goal

pub returns-in_err-attributes : goal.returns-in_err-attributes
returns-in_err-attributes c = IfOk-from_err _ _ c.from_residual-in_err-attributes.ensures.0

pub returns-in_err-items : goal.returns-in_err-items
returns-in_err-items c = IfOk-from_err _ _ c.from_residual-in_err-items.ensures.0

pub returns-in_err-module_attributes : goal.returns-in_err-module_attributes
returns-in_err-module_attributes c = IfOk-from_err _ _ c.from_residual-in_err-module_attributes.ensures.0

pub returns-in_err-parameters : goal.returns-in_err-parameters
returns-in_err-parameters c = IfOk-from_err _ _ c.from_residual-in_err-parameters.ensures.0

pub returns-in_err-prefix : goal.returns-in_err-prefix
returns-in_err-prefix c = IfOk-from_err _ _ c.from_residual.ensures.0

pub returns-in_err-type_parameters : goal.returns-in_err-type_parameters
returns-in_err-type_parameters c = IfOk-from_err _ _ c.from_residual-in_err-type_parameters.ensures.0

pub returns-in_err-where_clauses : goal.returns-in_err-where_clauses
returns-in_err-where_clauses c = IfOk-from_err _ _ c.from_residual-in_err-where_clauses.ensures.0

pub returns : goal.returns
returns c =
    rw (
      c.in_ok-prefix.ensures.cases,
      c.in_ok-type_parameters.ensures,
      c.in_ok-parameters.ensures,
      c.in_ok-where_clauses.ensures,
      c.deref.ensures.value,
      c.in_ok-items.ensures,
      c.deref-2.ensures.value,
      c.in_ok-attributes.ensures,
      c.in_ok-module_attributes.ensures,
    ) refl
