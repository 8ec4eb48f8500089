use Rattle.std.proofs.Common.{rules}
use Rattle.std.proofs.lemmas.Result.{MatchResult-from_err}
use Rattle.lalrpop_norm_tree.proofs.items.copy.AlternativeClone.clone.Goals as goal

pub returns-in_err-action : goal.returns-in_err-action
returns-in_err-action c = record { cases = MatchResult-from_err _ _ _ c.from_residual-in_err-action.ensures.0 (λ e. search rules) }

pub returns-in_err-attributes : goal.returns-in_err-attributes
returns-in_err-attributes c = record { cases = MatchResult-from_err _ _ _ c.from_residual-in_err-attributes.ensures.0 (λ e. search rules) }

pub returns-in_err-condition : goal.returns-in_err-condition
returns-in_err-condition c = record { cases = MatchResult-from_err _ _ _ c.from_residual-in_err-condition.ensures.0 (λ e. search rules) }

pub returns-in_err-expr : goal.returns-in_err-expr
returns-in_err-expr c = record { cases = MatchResult-from_err _ _ _ c.from_residual.ensures.0 (λ e. search rules) }
