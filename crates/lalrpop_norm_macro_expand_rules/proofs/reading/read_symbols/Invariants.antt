use Rattle.std.proofs.Common.{◌≡◌, [], map, take, drop, ◌++◌}
use Rattle.std.specs.List.{flat_map}
use Rattle.lalrpop_norm_tree.specs.Symbols.{symbol_view}
use Rattle.lalrpop_norm_model.specs.PlainRules.{met}
use Rattle.lalrpop_norm_nodes.specs.Given.{read_whole, read_shown, AreGiven}
use Rattle.lalrpop_norm_nodes.specs.Tables.{wholes_in, IsCounted, TableMeets, refused_in}
use Rattle.lalrpop_norm_nodes.specs.Waits.{shown_met, LeavesWaiting}
use Rattle.lalrpop_norm_macro_expand_rules.proofs.reading.read_symbols.Given as goal

abbrev pub invariant-loop-i : goal.invariant-loop-i
invariant-loop-i l = record {
  value : map symbol_view l.symbols ≡ map (read_shown l.environment) (take l.i (map symbol_view l.initial.symbols)) ++ drop l.i (map symbol_view l.initial.symbols);
  refuses : refused_in l.initial.table (flat_map (λ p. met (read_whole (wholes_in l.initial.table) l.environment p)) (take l.i (map symbol_view l.initial.symbols))) ≡ [];
  meets : TableMeets l.initial.table l.table (flat_map (λ p. met (read_whole (wholes_in l.initial.table) l.environment p)) (take l.i (map symbol_view l.initial.symbols)));
  waits : LeavesWaiting l.initial.table l.table (flat_map (λ p. shown_met l.environment p) (take l.i (map symbol_view l.initial.symbols)));
  counted : IsCounted l.table;
  given : AreGiven (wholes_in l.table) l.environment;
}
