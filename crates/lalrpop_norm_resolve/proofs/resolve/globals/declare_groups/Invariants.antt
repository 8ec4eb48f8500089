use Rattle.std.proofs.Common.{◌≡◌, map, drop}
use Rattle.std.specs.List.{flat_map}
use Rattle.lalrpop_norm_tree.specs.Items.{match_contents_view}
use Rattle.lalrpop_norm_model.specs.Scopes.{match_global}
use Rattle.lalrpop_norm_resolve.specs.NameTables.{rows_of, with_all, rows_faults}
use Rattle.lalrpop_norm_resolve.proofs.resolve.globals.declare_groups.Given as goal

abbrev pub invariant-loop-group : goal.invariant-loop-group
invariant-loop-group l = record {
  sound : rows_faults (rows_of l.globals) (flat_map (flat_map match_global) (map match_contents_view (drop l.group-index l.groups))) ≡ rows_faults (rows_of l.initial.globals) (flat_map (flat_map match_global) (map match_contents_view l.groups));
  done : with_all (rows_of l.globals) (flat_map (flat_map match_global) (map match_contents_view (drop l.group-index l.groups))) ≡ with_all (rows_of l.initial.globals) (flat_map (flat_map match_global) (map match_contents_view l.groups));
}
