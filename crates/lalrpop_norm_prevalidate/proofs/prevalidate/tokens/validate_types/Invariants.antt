use Rattle.std.proofs.Common.{◌≡◌, map, take, drop}
use Rattle.lalrpop_norm_tree.specs.Items.{associated_type_view}
use Rattle.lalrpop_norm_prevalidate.specs.GrammarFaults.{types_faults}
use Rattle.lalrpop_norm_prevalidate.specs.Walks.{types_along}
use Rattle.lalrpop_norm_prevalidate.proofs.prevalidate.tokens.validate_types.Given as goal

abbrev pub invariant-loop-i : goal.invariant-loop-i
invariant-loop-i l = types_along (map (λ t. t.type_name) (take l.i l.types)) (map associated_type_view (drop l.i l.types)) ≡ types_faults (map associated_type_view l.types)
