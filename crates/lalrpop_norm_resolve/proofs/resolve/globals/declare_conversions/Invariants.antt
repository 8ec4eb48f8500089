use Rattle.std.proofs.Common.{◌≡◌, map, drop}
use Rattle.std.specs.List.{flat_map}
use Rattle.lalrpop_norm_tree.specs.Items.{conversion_view}
use Rattle.lalrpop_norm_resolve.specs.NameTables.{rows_of, with_all, rows_faults, conversion_global}
use Rattle.lalrpop_norm_resolve.proofs.resolve.globals.declare_conversions.Given as goal

abbrev pub invariant-loop-conversion : goal.invariant-loop-conversion
invariant-loop-conversion l = record {
  sound : rows_faults (rows_of l.globals) (flat_map conversion_global (map conversion_view (drop l.conversion-index l.conversions))) ≡ rows_faults (rows_of l.initial.globals) (flat_map conversion_global (map conversion_view l.conversions));
  done : with_all (rows_of l.globals) (flat_map conversion_global (map conversion_view (drop l.conversion-index l.conversions))) ≡ with_all (rows_of l.initial.globals) (flat_map conversion_global (map conversion_view l.conversions));
}
