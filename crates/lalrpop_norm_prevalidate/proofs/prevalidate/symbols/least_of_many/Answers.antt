use Rattle.std.proofs.Common.{◌∙◌}
use Rattle.lalrpop_norm_tree.specs.Symbols.{parts_view}
use Rattle.lalrpop_norm_prevalidate.proofs.NameLemmas.{least_of_sorted}
use Rattle.lalrpop_norm_prevalidate.proofs.prevalidate.symbols.least_of_many.Goals as goal

pub returns-in-Some : goal.returns-in-Some
returns-in-Some c = c.second_named.ensures
    ∙ least_of_sorted (parts_view c.args.symbols.now) _ _ _ _ c.in_ok-names.ensures c.sort.ensures.permutation c.in_ok-sort.ensures.sorted c.deref.ensures.value c.in-Some.ensures

pub returns : goal.returns
returns c =
    least_of_sorted (parts_view c.args.symbols.now) _ _ _ _ c.in_ok-names.ensures c.sort.ensures.permutation c.in_ok-sort.ensures.sorted c.deref.ensures.value c.in-None.ensures
