use Rattle.std.proofs.Common.{◌≡◌, ◌++◌, map, length, Some, slice_get}
use Rattle.std.specs.Prelude.{reverse}
use Rattle.lalrpop_norm_model.specs.MadeRules.{kind_of}
use Rattle.lalrpop_norm_nodes.specs.Wholes.{one_symbol, symbols_at, AreSymbols}
use Rattle.lalrpop_norm_nodes.specs.Tables.{wholes_in}
use Rattle.lalrpop_norm_nodes.proofs.parts.given_in_row.Given as goal

abbrev pub invariant-loop-symbol : goal.invariant-loop-symbol
invariant-loop-symbol l = record {
  row : AreSymbols (wholes_in l.table) l.row;
  long : length (symbols_at (wholes_in l.table) l.row) ≡ length l.symbols.items;
  numbers : map (λ p. Some (one_symbol (kind_of p))) (symbols_at (wholes_in l.table) l.row) ++ map (λ g. slice_get (wholes_in l.table) g.number) (reverse l.given.items)
      ≡ map (λ p. Some (one_symbol (kind_of p))) (symbols_at (wholes_in l.table) l.fn.row);
  symbols : l.symbols.items ++ map (λ g. g.symbol) (reverse l.given.items) ≡ l.fn.symbols.items;
}

abbrev pub decreases-loop-symbol : goal.decreases-loop-symbol
decreases-loop-symbol l = length l.symbols.items
