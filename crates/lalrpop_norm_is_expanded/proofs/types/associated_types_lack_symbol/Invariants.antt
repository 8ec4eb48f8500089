use Rattle.std.proofs.Common.{◌≡◌, drop, map}
use Rattle.std.specs.List.{list_all}
use Rattle.lalrpop_norm_tree.specs.Items.{associated_type_view}
use Rattle.lalrpop_norm_is_expanded.specs.Types.{associated_lacks_symbol}
use Rattle.lalrpop_norm_is_expanded.proofs.types.associated_types_lack_symbol.Given as goal

abbrev pub invariant-loop-associated : goal.invariant-loop-associated
invariant-loop-associated l = list_all associated_lacks_symbol (map associated_type_view (drop l.associated-index l.types)) ≡ list_all associated_lacks_symbol (map associated_type_view l.types)
