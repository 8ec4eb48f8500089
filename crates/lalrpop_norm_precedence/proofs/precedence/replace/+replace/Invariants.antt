use Rattle.std.proofs.Common.{◌≡◌, ◌≤◌, ◌<◌, ℕ, map, take, drop, ◌++◌, slice_index_or}
use Rattle.lalrpop_norm_tree.specs.declared.symbol.Symbol.{Symbol}
use Rattle.lalrpop_norm_tree.specs.Symbols.{kind_view, symbol_view}
use Rattle.lalrpop_norm_precedence_steps.specs.declared.occurrences.Direction.TheVariants.{Forward, Backward}
use Rattle.lalrpop_norm_precedence_steps.specs.Substitutions.{met_kind}
use Rattle.lalrpop_norm_precedence.specs.Occurrences.{is_target, count_each, leveled_in_turn, once_met}
use Rattle.lalrpop_norm_precedence.proofs.precedence.replace.+replace.Given as goal

abbrev pub invariant-replace_symbols-forward : goal.invariant-replace_symbols-forward
invariant-replace_symbols-forward l = record {
  rest : (k : ℕ) (d : Symbol) → l.i ≤ k → slice_index_or l.symbols k d ≡ slice_index_or l.initial.symbols k d;
  value : map symbol_view (take l.i l.symbols)
      ++ leveled_in_turn (is_target l.fn.replacing.target.now.0) (met_kind (kind_view l.fn.replacing.first.now, kind_view l.fn.replacing.others.now) Forward l.left) 0 0 (map symbol_view (drop l.i l.symbols))
      ≡ leveled_in_turn (is_target l.fn.replacing.target.now.0) (met_kind (kind_view l.fn.replacing.first.now, kind_view l.fn.replacing.others.now) Forward l.fn.replacing.is_met) 0 0 (map symbol_view l.initial.symbols);
  left : once_met l.left (count_each (is_target l.fn.replacing.target.now.0) (map symbol_view (drop l.i l.symbols)))
      ≡ once_met l.fn.replacing.is_met (count_each (is_target l.fn.replacing.target.now.0) (map symbol_view l.initial.symbols));
}

abbrev pub invariant-replace_symbols-backward : goal.invariant-replace_symbols-backward
invariant-replace_symbols-backward l = record {
  rest : (k : ℕ) (d : Symbol) → k < l.i → slice_index_or l.symbols k d ≡ slice_index_or l.initial.symbols k d;
  value : leveled_in_turn (is_target l.fn.replacing.target.now.0) (met_kind (kind_view l.fn.replacing.first.now, kind_view l.fn.replacing.others.now) Backward l.left) 0 0 (map symbol_view (take l.i l.symbols))
      ++ map symbol_view (drop l.i l.symbols)
      ≡ leveled_in_turn (is_target l.fn.replacing.target.now.0) (met_kind (kind_view l.fn.replacing.first.now, kind_view l.fn.replacing.others.now) Backward l.fn.replacing.is_met) 0 0 (map symbol_view l.initial.symbols);
  left : once_met l.left (count_each (is_target l.fn.replacing.target.now.0) (map symbol_view (take l.i l.symbols)))
      ≡ once_met l.fn.replacing.is_met (count_each (is_target l.fn.replacing.target.now.0) (map symbol_view l.initial.symbols));
}
