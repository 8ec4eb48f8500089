use Rattle.std.proofs.Common.{◌≡◌, ℕ, List, map}
use Rattle.lalrpop_norm_tree.specs.Accessors.{or_else}
use Rattle.lalrpop_norm_macro_expand.specs.TracedRules.{list_view, first_list_of, list_under}
use Rattle.lalrpop_norm_macro_expand.proofs.macro_expand.rule_lists.by_name.Given as goal

abbrev pub invariant-loop-list : goal.invariant-loop-list
invariant-loop-list l =
    (n : List ℕ) → or_else (list_under l.named n) (first_list_of (map list_view l.list-iterator.rest.items) n) ≡ first_list_of (map list_view l.fn.macros.items) n
