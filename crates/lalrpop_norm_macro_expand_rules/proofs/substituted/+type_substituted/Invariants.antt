use Rattle.std.proofs.Common.{◌≡◌, map, take}
use Rattle.lalrpop_norm_tree.specs.Types.{type_view}
use Rattle.lalrpop_norm_model.specs.MadeRules.{type_substituted}
use Rattle.lalrpop_norm_macro_expand_rules.specs.Bound.{bound_kind}
use Rattle.lalrpop_norm_macro_expand_rules.proofs.substituted.+type_substituted.Given as goal

abbrev pub invariant-types_substituted-loop-inner : goal.invariant-types_substituted-loop-inner
invariant-types_substituted-loop-inner l =
    map type_view l.all.items
    ≡ map (λ t. type_substituted (bound_kind l.bindings) (type_view t)) (take l.inner-index l.types)
