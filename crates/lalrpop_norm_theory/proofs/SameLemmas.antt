-- The test of sameness is a test of equality.
use Rattle.std.proofs.Common.{◌≡◌, ℕ, List, refl, sym, ap, ap₂}
use Rattle.std.specs.Prelude.{Bool, true, false, bytes_eq, Option, Some, None}
use Rattle.std.proofs.lemmas.Bool.{eqb-true, eq-eqb, and_parts, and_from}
use Rattle.std.proofs.lemmas.Bool.Decides.{same_from_decides}
use Rattle.std.proofs.lemmas.Slice.Eq.{bytes_eq-Decides}
use Rattle.lalrpop_norm_theory.specs.Symbols.{Terminal, quoted, regex, bare, error_terminal, ClosedPattern, ClosedPatterns, name_pattern, tuple_pattern, no_patterns, pattern_and, Wrapper, chosen, named, tuple, ClosedSymbol, ClosedSymbols, terminal, error, reference, call, group, star, plus, question, times, wrapped, lookahead, lookbehind, no_symbols, symbol_and}
use Rattle.lalrpop_norm_theory.specs.Rounds.{IsTest}
use Rattle.lalrpop_norm_theory.specs.Same.{same_closed_terminal, same_flag, same_bound, same_pattern, same_patterns, same_wrapper, same_symbol, same_symbols}

pub text_sound : (a b : List ℕ) → bytes_eq a b ≡ true → a ≡ b
text_sound a b e = (bytes_eq-Decides a b).0 e

pub text_same : (a : List ℕ) → bytes_eq a a ≡ true
text_same a = (bytes_eq-Decides a a).1 refl

terminal_sound : (a b : Terminal) → same_closed_terminal a b ≡ true → a ≡ b
terminal_sound (quoted a) (quoted b) e = ap quoted (text_sound a b e)
terminal_sound (regex a) (regex b) e = ap regex (text_sound a b e)
terminal_sound (bare a) (bare b) e = ap bare (text_sound a b e)
terminal_sound error_terminal error_terminal e = refl
terminal_sound _ _ e = absurd (cc e)

terminal_same : (a : Terminal) → same_closed_terminal a a ≡ true
terminal_same (quoted a) = text_same a
terminal_same (regex a) = text_same a
terminal_same (bare a) = text_same a
terminal_same error_terminal = refl

pub flag_sound : (a b : Bool) → same_flag a b ≡ true → a ≡ b
flag_sound true true e = refl
flag_sound false false e = refl
flag_sound true false e = absurd (cc e)
flag_sound false true e = absurd (cc e)

pub flag_same : (a : Bool) → same_flag a a ≡ true
flag_same true = refl
flag_same false = refl

bound_sound : (b c : Option ℕ) → same_bound b c ≡ true → b ≡ c
bound_sound None None e = refl
bound_sound (Some a) (Some b) e = ap Some (eqb-true a b e)
bound_sound None (Some b) e = absurd (cc e)
bound_sound (Some a) None e = absurd (cc e)

bound_same : (b : Option ℕ) → same_bound b b ≡ true
bound_same None = refl
bound_same (Some a) = eq-eqb a a refl

mutual
  pattern_sound : (p q : ClosedPattern) → same_pattern p q ≡ true → p ≡ q
  pattern_sound (name_pattern m a) (name_pattern n b) e =
      let r = and_parts _ _ e in ap₂ name_pattern (flag_sound m n r.0) (text_sound a b r.1)
  pattern_sound (tuple_pattern p) (tuple_pattern q) e = ap tuple_pattern (patterns_sound p q e)
  pattern_sound _ _ e = absurd (cc e)

  patterns_sound : (p q : ClosedPatterns) → same_patterns p q ≡ true → p ≡ q
  patterns_sound no_patterns no_patterns e = refl
  patterns_sound (pattern_and p ps) (pattern_and q qs) e =
      let r = and_parts _ _ e in ap₂ pattern_and (pattern_sound p q r.0) (patterns_sound ps qs r.1)
  patterns_sound _ _ e = absurd (cc e)

mutual
  pattern_same : (p : ClosedPattern) → same_pattern p p ≡ true
  pattern_same (name_pattern m a) = and_from _ _ (flag_same m) (text_same a)
  pattern_same (tuple_pattern p) = patterns_same p

  patterns_same : (p : ClosedPatterns) → same_patterns p p ≡ true
  patterns_same no_patterns = refl
  patterns_same (pattern_and p ps) = and_from _ _ (pattern_same p) (patterns_same ps)

wrapper_sound : (v w : Wrapper) → same_wrapper v w ≡ true → v ≡ w
wrapper_sound chosen chosen e = refl
wrapper_sound (named m a) (named n b) e = let r = and_parts _ _ e in ap₂ named (flag_sound m n r.0) (text_sound a b r.1)
wrapper_sound (tuple p) (tuple q) e = ap tuple (patterns_sound p q e)
wrapper_sound _ _ e = absurd (cc e)

wrapper_same : (w : Wrapper) → same_wrapper w w ≡ true
wrapper_same chosen = refl
wrapper_same (named m a) = and_from _ _ (flag_same m) (text_same a)
wrapper_same (tuple p) = patterns_same p

mutual
  symbol_sound : (g h : ClosedSymbol) → same_symbol g h ≡ true → g ≡ h
  symbol_sound (terminal a) (terminal b) e = ap terminal (terminal_sound a b e)
  symbol_sound error error e = refl
  symbol_sound (reference n b) (reference m c) e =
      let r = and_parts _ _ e in ap₂ reference (text_sound n m r.0) (bound_sound b c r.1)
  symbol_sound (call n x) (call m y) e = let r = and_parts _ _ e in ap₂ call (text_sound n m r.0) (symbols_sound x y r.1)
  symbol_sound (group x) (group y) e = ap group (symbols_sound x y e)
  symbol_sound (star x) (star y) e = ap star (symbol_sound x y e)
  symbol_sound (plus x) (plus y) e = ap plus (symbol_sound x y e)
  symbol_sound (question x) (question y) e = ap question (symbol_sound x y e)
  symbol_sound (times n x) (times m y) e = let r = and_parts _ _ e in ap₂ times (eqb-true n m r.0) (symbol_sound x y r.1)
  symbol_sound (wrapped v x) (wrapped w y) e =
      let r = and_parts _ _ e in ap₂ wrapped (wrapper_sound v w r.0) (symbol_sound x y r.1)
  symbol_sound lookahead lookahead e = refl
  symbol_sound lookbehind lookbehind e = refl
  symbol_sound _ _ e = absurd (cc e)

  symbols_sound : (g h : ClosedSymbols) → same_symbols g h ≡ true → g ≡ h
  symbols_sound no_symbols no_symbols e = refl
  symbols_sound (symbol_and g gs) (symbol_and h hs) e =
      let r = and_parts _ _ e in ap₂ symbol_and (symbol_sound g h r.0) (symbols_sound gs hs r.1)
  symbols_sound _ _ e = absurd (cc e)

mutual
  symbol_same : (g : ClosedSymbol) → same_symbol g g ≡ true
  symbol_same (terminal a) = terminal_same a
  symbol_same error = refl
  symbol_same (reference n b) = and_from _ _ (text_same n) (bound_same b)
  symbol_same (call n x) = and_from _ _ (text_same n) (symbols_same x)
  symbol_same (group x) = symbols_same x
  symbol_same (star x) = symbol_same x
  symbol_same (plus x) = symbol_same x
  symbol_same (question x) = symbol_same x
  symbol_same (times n x) = and_from _ _ (eq-eqb n n refl) (symbol_same x)
  symbol_same (wrapped w x) = and_from _ _ (wrapper_same w) (symbol_same x)
  symbol_same lookahead = refl
  symbol_same lookbehind = refl

  symbols_same : (g : ClosedSymbols) → same_symbols g g ≡ true
  symbols_same no_symbols = refl
  symbols_same (symbol_and g gs) = and_from _ _ (symbol_same g) (symbols_same gs)

pub symbol_test : IsTest same_symbol
symbol_test = record { sound = symbol_sound; complete = symbol_same }

pub text_turned : (xs ys : List ℕ) → bytes_eq xs ys ≡ bytes_eq ys xs
text_turned xs ys =
    let other = bytes_eq-Decides ys xs in
    same_from_decides _ _ (bytes_eq-Decides xs ys) ((λ e. sym (other.0 e)), λ e. other.1 (sym e))
