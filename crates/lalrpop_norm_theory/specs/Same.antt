-- The test whether two ground symbols are equal (`same`), by cases on their shape.
use Rattle.std.specs.Prelude.{ℕ, Bool, true, false, not, nat_eq, bytes_eq, ◌&&◌, Option, Some, None}
use Rattle.lalrpop_norm_theory.specs.Symbols.{Terminal, quoted, regex, bare, error_terminal, ClosedPattern, ClosedPatterns}
use Rattle.lalrpop_norm_theory.specs.Symbols.{name_pattern, tuple_pattern, no_patterns, pattern_and, Wrapper, chosen, named}
use Rattle.lalrpop_norm_theory.specs.Symbols.{tuple, ClosedSymbol, ClosedSymbols, terminal, error, reference, call, group, star}
use Rattle.lalrpop_norm_theory.specs.Symbols.{plus, question, times, wrapped, lookahead, lookbehind, no_symbols, symbol_and}

-- the same kind, and the same text
abbrev pub same_closed_terminal : Terminal → Terminal → Bool
same_closed_terminal (quoted a) (quoted b) = bytes_eq a b
same_closed_terminal (regex a) (regex b) = bytes_eq a b
same_closed_terminal (bare a) (bare b) = bytes_eq a b
same_closed_terminal error_terminal error_terminal = true
same_closed_terminal _ _ = false

-- both true or both false
abbrev pub same_flag : Bool → Bool → Bool
same_flag true b = b
same_flag false b = not b

-- both without a bound, or within one bound
abbrev pub same_bound : Option ℕ → Option ℕ → Bool
same_bound None None = true
same_bound (Some a) (Some b) = nat_eq a b
same_bound _ _ = false

-- the same names, nested alike
abbrev mutual
  pub same_pattern : ClosedPattern → ClosedPattern → Bool
  same_pattern (name_pattern m a) (name_pattern n b) = same_flag m n && bytes_eq a b
  same_pattern (tuple_pattern p) (tuple_pattern q) = same_patterns p q
  same_pattern _ _ = false

  pub same_patterns : ClosedPatterns → ClosedPatterns → Bool
  same_patterns no_patterns no_patterns = true
  same_patterns (pattern_and p ps) (pattern_and q qs) = same_pattern p q && same_patterns ps qs
  same_patterns _ _ = false

-- the same kind, and the same pattern
abbrev pub same_wrapper : Wrapper → Wrapper → Bool
same_wrapper chosen chosen = true
same_wrapper (named m a) (named n b) = same_flag m n && bytes_eq a b
same_wrapper (tuple p) (tuple q) = same_patterns p q
same_wrapper _ _ = false

-- the same shape, and the same parts
abbrev mutual
  pub same_symbol : ClosedSymbol → ClosedSymbol → Bool
  same_symbol (terminal a) (terminal b) = same_closed_terminal a b
  same_symbol error error = true
  same_symbol (reference n b) (reference m c) = bytes_eq n m && same_bound b c
  same_symbol (call n x) (call m y) = bytes_eq n m && same_symbols x y
  same_symbol (group x) (group y) = same_symbols x y
  same_symbol (star x) (star y) = same_symbol x y
  same_symbol (plus x) (plus y) = same_symbol x y
  same_symbol (question x) (question y) = same_symbol x y
  same_symbol (times n x) (times m y) = nat_eq n m && same_symbol x y
  same_symbol (wrapped v x) (wrapped w y) = same_wrapper v w && same_symbol x y
  same_symbol lookahead lookahead = true
  same_symbol lookbehind lookbehind = true
  same_symbol _ _ = false

  pub same_symbols : ClosedSymbols → ClosedSymbols → Bool
  same_symbols no_symbols no_symbols = true
  same_symbols (symbol_and g gs) (symbol_and h hs) = same_symbol g h && same_symbols gs hs
  same_symbols _ _ = false
