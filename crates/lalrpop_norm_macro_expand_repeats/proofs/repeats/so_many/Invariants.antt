use Rattle.std.proofs.Common.{◌≡◌, map, replicate}
use Rattle.lalrpop_norm_tree.specs.Symbols.{symbol_view}
use Rattle.lalrpop_norm_macro_expand_repeats.proofs.repeats.so_many.Given as goal

abbrev pub invariant-loop-copy : goal.invariant-loop-copy
invariant-loop-copy l = map symbol_view l.symbols.items ≡ replicate l._copy (symbol_view l.symbol)
