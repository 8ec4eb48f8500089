use Rattle.std.proofs.Common.{◌≡◌, ◌++◌, map, drop}
use Rattle.std.specs.List.{flat_map}
use Rattle.lalrpop_norm_tree.specs.Symbols.{parts_view}
use Rattle.lalrpop_norm_tree.specs.Items.{AlternativeData, alternative_view}
use Rattle.lalrpop_norm_model.specs.MadeRules.{argument_kind}
use Rattle.lalrpop_norm_macro_expand_rules.specs.Conditions.{value_faults}
use Rattle.lalrpop_norm_conditions.specs.Conditions.{comparison}
use Rattle.lalrpop_norm_macro_expand.specs.Kept.{kept_places}
use Rattle.lalrpop_norm_macro_expand.specs.Making.{kept_of}
use Rattle.lalrpop_norm_macro_expand.proofs.macro_expand.instance.instance_alternatives.Given as goal

abbrev pub invariant-loop-place : goal.invariant-loop-place
invariant-loop-place l = record {
  refuses : flat_map (λ (a : AlternativeData). value_faults (argument_kind l.bindings.names.now (parts_view l.bindings.symbols.now)) a.condition) (map alternative_view (drop l.place l.alternatives))
      ≡ flat_map (λ (a : AlternativeData). value_faults (argument_kind l.bindings.names.now (parts_view l.bindings.symbols.now)) a.condition) (map alternative_view l.alternatives);
  kept : map alternative_view l.kept.alternatives.items ++ flat_map (kept_of l.head.span l.bindings.names.now (parts_view l.bindings.symbols.now)) (map alternative_view (drop l.place l.alternatives))
      ≡ flat_map (kept_of l.head.span l.bindings.names.now (parts_view l.bindings.symbols.now)) (map alternative_view l.alternatives);
  places : l.kept.places.items ++ kept_places comparison l.bindings.names.now (parts_view l.bindings.symbols.now) l.place (map alternative_view (drop l.place l.alternatives))
      ≡ kept_places comparison l.bindings.names.now (parts_view l.bindings.symbols.now) 0 (map alternative_view l.alternatives);
}
