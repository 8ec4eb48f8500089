use Rattle.std.proofs.Common.{◌≡◌, ◌+◌, map, length, take, drop, ◌++◌}
use Rattle.std.specs.List.{flat_map}
use Rattle.lalrpop_norm_tree.specs.Items.{item_view}
use Rattle.lalrpop_norm_nodes.specs.declared.table.Table.{Table}
use Rattle.lalrpop_norm_nodes.specs.Wholes.{Grows}
use Rattle.lalrpop_norm_nodes.specs.Tables.{wholes_in, IsNodeTable, IsCounted, TableMeets, refused_in}
use Rattle.lalrpop_norm_nodes.specs.Waits.{LeavesWaiting}
use Rattle.lalrpop_norm_macro_expand_rules.specs.Generated.{generated_in, met_in_generated, shown_in_generated, generated_read, AreReadable}
use Rattle.lalrpop_norm_macro_expand_rules.proofs.generated.read_generated.Given as goal

-- what is reached of the rules that are left is reached of all
abbrev pub invariant-loop-place : goal.invariant-loop-place
invariant-loop-place l = record {
  table : IsNodeTable l.table;
  counted : IsCounted l.table;
  grows : Grows (wholes_in l.initial.table) (wholes_in l.table);
  long : length l.place-iterator.iter.rest.items + l.place-iterator.count ≡ length l.rules;
  readable : AreReadable (wholes_in l.initial.table) l.place-iterator.iter.rest.items;
  refuses : refused_in l.initial.table (flat_map met_in_generated (generated_in (wholes_in l.initial.table) l.fn.fillings.items l.initial.rules))
      ≡ refused_in l.table (flat_map met_in_generated (generated_in (wholes_in l.initial.table) l.place-iterator.iter.rest.items (drop l.place-iterator.count l.rules)));
  meets : (d : Table) → TableMeets l.table d (flat_map met_in_generated (generated_in (wholes_in l.initial.table) l.place-iterator.iter.rest.items (drop l.place-iterator.count l.rules)))
      → TableMeets l.initial.table d (flat_map met_in_generated (generated_in (wholes_in l.initial.table) l.fn.fillings.items l.initial.rules));
  waits : (d : Table) → LeavesWaiting l.table d (flat_map shown_in_generated (generated_in (wholes_in l.initial.table) l.place-iterator.iter.rest.items (drop l.place-iterator.count l.rules)))
      → LeavesWaiting l.initial.table d (flat_map shown_in_generated (generated_in (wholes_in l.initial.table) l.fn.fillings.items l.initial.rules));
  value : map item_view (take l.place-iterator.count l.rules) ++ map generated_read (generated_in (wholes_in l.initial.table) l.place-iterator.iter.rest.items (drop l.place-iterator.count l.rules))
      ≡ map generated_read (generated_in (wholes_in l.initial.table) l.fn.fillings.items l.initial.rules);
}
