use Rattle.std.proofs.Common.{◌∙◌}
use Rattle.lalrpop_norm_tree.specs.Symbols.{kind_view, symbol_view}
use Rattle.lalrpop_norm_tyinfer_steps.proofs.WrapperLemmas.{under_is, bound_under, selected_under}
use Rattle.lalrpop_norm_tyinfer_steps.proofs.values.under_wrappers.Goals as goal

pub returns-in-Some : goal.returns-in-Some
returns-in-Some c =
    under_is c.unwrapped.result.now (symbol_view c.in-Some.symbol.now) c.unwrapped.ensures
    ∙ bound_under (kind_view c.args.kind.now) _ (symbol_view c.in-Some.symbol.now) (rw c.in-Some.is at c.as_bound.ensures)

pub returns-in-Some-as_selected : goal.returns-in-Some-as_selected
returns-in-Some-as_selected c =
    under_is c.unwrapped-in-Some-as_selected.result.now (symbol_view c.in-Some-as_selected.symbol.now) c.unwrapped-in-Some-as_selected.ensures
    ∙ selected_under (kind_view c.args.kind.now) (symbol_view c.in-Some-as_selected.symbol.now) (rw c.in-Some-as_selected.is at c.as_selected.ensures)
