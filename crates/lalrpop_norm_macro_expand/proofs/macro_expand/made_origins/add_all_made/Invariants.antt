use Rattle.std.proofs.Common.{◌≡◌, ◌++◌, drop}
use Rattle.std.specs.List.{flat_map}
use Rattle.lalrpop_norm_nodes.specs.Tables.{wholes_in}
use Rattle.lalrpop_norm_origins.specs.Origins.{origin_lists}
use Rattle.lalrpop_norm_macro_expand.specs.TracedRules.{list_under, made_list}
use Rattle.lalrpop_norm_macro_expand.proofs.macro_expand.made_origins.add_all_made.Given as goal

abbrev pub invariant-loop-symbol : goal.invariant-loop-symbol
invariant-loop-symbol l =
    origin_lists l.lists.items ++ flat_map (made_list (list_under l.macros) (wholes_in l.expanded.table)) (drop l.symbol-index l.symbol-items)
    ≡ origin_lists l.initial.lists.items ++ flat_map (made_list (list_under l.macros) (wholes_in l.expanded.table)) l.symbol-items
