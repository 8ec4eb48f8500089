use Rattle.std.proofs.Common.{◌≡◌, ◌≤◌, ℕ, drop, take, map, slice_index_or}
use Rattle.std.specs.List.{flat_map}
use Rattle.lalrpop_norm_tree.specs.declared.items.Alternative.{Alternative}
use Rattle.lalrpop_norm_tree.specs.Items.{alternative_view}
use Rattle.lalrpop_norm_model.specs.Scopes.{resolved_alternative}
use Rattle.lalrpop_norm_resolve.specs.NameFaults.{alternative_name_faults}
use Rattle.lalrpop_norm_resolve.specs.NameTables.{sense_in}
use Rattle.lalrpop_norm_resolve.proofs.resolve.rules.resolve_alternatives.Given as goal

abbrev pub invariant-loop-alternative : goal.invariant-loop-alternative
invariant-loop-alternative l = record {
  rest : (k : ℕ) (d : Alternative) → l.alternative-index ≤ k → slice_index_or l.alternatives k d ≡ slice_index_or l.initial.alternatives k d;
  done : map alternative_view (take l.alternative-index l.alternatives) ≡ map (resolved_alternative (sense_in l.globals l.args)) (map alternative_view (take l.alternative-index l.initial.alternatives));
  sound : flat_map (alternative_name_faults (sense_in l.globals l.args)) (map alternative_view (drop l.alternative-index l.initial.alternatives)) ≡ flat_map (alternative_name_faults (sense_in l.globals l.args)) (map alternative_view l.initial.alternatives);
}
