use Rattle.std.proofs.Common.{◌≡◌, ◌≤◌, ℕ, slice_index_or, [], map, take, drop, ◌++◌}
use Rattle.std.specs.List.{flat_map}
use Rattle.lalrpop_norm_tree.specs.declared.symbol.Symbol.{Symbol}
use Rattle.lalrpop_norm_tree.specs.Symbols.{symbol_view}
use Rattle.lalrpop_norm_model.specs.PlainRules.{met}
use Rattle.lalrpop_norm_nodes.specs.Waits.{shown_met, LeavesWaiting}
use Rattle.lalrpop_norm_nodes.specs.Wholes.{symbols, StandsFor}
use Rattle.lalrpop_norm_nodes.specs.Given.{read_whole, read_shown, AreGiven}
use Rattle.lalrpop_norm_nodes.specs.Readings.{bare_wholes}
use Rattle.lalrpop_norm_nodes.specs.Tables.{wholes_in, IsCounted, TableMeets, refused_in}
use Rattle.lalrpop_norm_nodes.proofs.read.+read.Given as goal

abbrev pub invariant-read_row-loop-i : goal.invariant-read_row-loop-i
invariant-read_row-loop-i l = record {
  rest : (k : ℕ) (d : Symbol) → l.i ≤ k → slice_index_or l.several k d ≡ slice_index_or l.fn.several k d;
  value : map symbol_view l.several ≡ map (read_shown l.fn.environment) (take l.i (map symbol_view l.fn.several)) ++ drop l.i (map symbol_view l.fn.several);
  refuses : refused_in l.fn.table (flat_map (λ p. met (read_whole (wholes_in l.fn.table) l.fn.environment p)) (take l.i (map symbol_view l.fn.several))) ≡ [];
  meets : TableMeets l.fn.table l.table (flat_map (λ p. met (read_whole (wholes_in l.fn.table) l.fn.environment p)) (take l.i (map symbol_view l.fn.several)));
  waits : LeavesWaiting l.fn.table l.table (flat_map (λ p. shown_met l.fn.environment p) (take l.i (map symbol_view l.fn.several)));
  counted : IsCounted l.table;
  given : AreGiven (wholes_in l.table) l.fn.environment;
  row : StandsFor (wholes_in l.table) l.row (symbols (bare_wholes (wholes_in l.fn.table) l.fn.environment (take l.i (map symbol_view l.fn.several))));
}
