use Rattle.std.proofs.Common.{◌≡◌, [], map, take, drop, ◌++◌}
use Rattle.std.specs.List.{flat_map}
use Rattle.lalrpop_norm_tree.specs.Items.{alternative_view}
use Rattle.lalrpop_norm_nodes.specs.Given.{whole_for, shown_for, AreGiven}
use Rattle.lalrpop_norm_nodes.specs.Tables.{wholes_in, IsCounted, TableMeets, refused_in}
use Rattle.lalrpop_norm_nodes.specs.Waits.{LeavesWaiting}
use Rattle.lalrpop_norm_macro_expand_rules.specs.Generated.{met_filled, shown_filled, read_filled}
use Rattle.lalrpop_norm_macro_expand_rules.proofs.reading.read_alternatives.Given as goal

abbrev pub invariant-loop-i : goal.invariant-loop-i
invariant-loop-i l = record {
  value : map alternative_view l.alternatives ≡ map (read_filled (shown_for l.environment)) (take l.i (map alternative_view l.initial.alternatives)) ++ drop l.i (map alternative_view l.initial.alternatives);
  refuses : refused_in l.initial.table (flat_map (met_filled (whole_for (wholes_in l.initial.table) l.environment)) (take l.i (map alternative_view l.initial.alternatives))) ≡ [];
  meets : TableMeets l.initial.table l.table (flat_map (met_filled (whole_for (wholes_in l.initial.table) l.environment)) (take l.i (map alternative_view l.initial.alternatives)));
  waits : LeavesWaiting l.initial.table l.table (flat_map (shown_filled (shown_for l.environment)) (take l.i (map alternative_view l.initial.alternatives)));
  counted : IsCounted l.table;
  given : AreGiven (wholes_in l.table) l.environment;
}
