-- What a search finds, and what the operators say of it.
use Rattle.std.proofs.Common.{◌≡◌, ◌↔◌, ℕ, Bool, true, false, not, Option, Some, None, is_some, option_map, refl, sym, ap, arith, length, true≢false}
use Rattle.std.proofs.lemmas.Option.{none-some, same_Some}
use Rattle.std.proofs.lemmas.Slice.Eq.{bytes_eq-Decides}
use Rattle.std.specs.Prelude.{IsCharBoundary}
use Rattle.regex_hir.proofs.AttemptLemmas.{cond_some}
use Rattle.regex_hir.proofs.FindLemmas.{IsFirst-of_first_between}
use Rattle.regex_hir.specs.Text.{is_boundary}
use Rattle.regex.specs.Patterns.{Re, Match, Matches, find_str}
use Rattle.regex.proofs.ForCallers.{find_str_sound, find_str_complete}
use Rattle.regex.proofs.Utf8Lemmas.{IsCharBoundary-of_test}
use Rattle.lalrpop_norm_theory.specs.Symbols.{Name, quoted, regex, bare, error_terminal, ClosedSymbol, terminal, error, reference, call, group, star, plus, question, times, wrapped, lookahead, lookbehind}
use Rattle.lalrpop_norm_conditions.specs.Patterns.{reading, occurs, is_found, MatchesSomewhere}
use Rattle.lalrpop_norm_conditions.specs.Conditions.{literal_in, comparison}
use Rattle.lalrpop_norm_conditions.specs.Laws.{Says, ValuesAreOfLiterals}

-- a match starts between characters
starts_cleanly : (re : Re) (text : Name) (m : Match) → find_str re text 0 ≡ Some m → IsCharBoundary text m.start
unfolding find_str
starts_cleanly re text m e =
    let first = IsFirst-of_first_between _ 0 (length text) m e in
    IsCharBoundary-of_test text m.start first.to (cond_some (is_boundary text m.start) _ m.trace first.here).0

matches_of : (re : Re) (text : Name) (o : Option Match) → find_str re text 0 ≡ o → is_some o ≡ true →
    (i : ℕ) × (j : ℕ) × IsCharBoundary text i × Matches text re i j
matches_of re text None e h = absurd (true≢false (sym h))
matches_of re text (Some m) e h = (m.start, m.trace.end, starts_cleanly re text m e, (find_str_sound re text 0 m e).1)

found_of : (re : Re) (text : Name) → (i : ℕ) × (j : ℕ) × IsCharBoundary text i × Matches text re i j → is_some (find_str re text 0) ≡ true
found_of re text m = find_str_complete re text 0 m.0 m.1 (omega arith) m.2 m.3

somewhere : (o : Option Re) (text : Name) → occurs o text ≡ true →
    (re : Re) × (o ≡ Some re) × ((i : ℕ) × (j : ℕ) × IsCharBoundary text i × Matches text re i j)
somewhere None text h = absurd (true≢false (sym h))
somewhere (Some re) text h = (re, refl, matches_of re text _ refl h)

occurs_of : (o : Option Re) (text : Name) (re : Re) → o ≡ Some re →
    (i : ℕ) × (j : ℕ) × IsCharBoundary text i × Matches text re i j → occurs o text ≡ true
occurs_of o text re e m = rw e (found_of re text m)

-- a pattern is found in a text if and only if it matches somewhere
pub found_is_matched : (pattern text : Name) → (is_found pattern text ≡ true) ↔ MatchesSomewhere pattern text
unfolding is_found
found_is_matched pattern text = (somewhere (reading pattern) text, λ m. occurs_of (reading pattern) text m.0 m.1 m.2)

-- the other answer to a test says the contrary
turned : (b : Bool) (P : Type 0) → (b ≡ true) ↔ P → (not b ≡ true) ↔ (¬ P)
turned true P h = (λ e. absurd (true≢false (sym e)), λ no. absurd (no (h.0 refl)))
turned false P h = (λ _ p. true≢false (sym (h.1 p)), λ _. refl)

pub operators_say : (literal right : Name) → Says literal right
operators_say literal right = record {
  equals = bytes_eq-Decides literal right;
  not_equals = turned _ _ (bytes_eq-Decides literal right);
  found = found_is_matched right literal;
  not_found = turned _ _ (found_is_matched right literal);
}

-- only a quoted literal has a text, its own
literal_of : (left : ClosedSymbol) (text : Name) → literal_in left ≡ Some text → left ≡ terminal (quoted text)
literal_of (terminal (quoted t)) text e = ap (λ x. terminal (quoted x)) (same_Some t text e)
literal_of (terminal (regex t)) text e = absurd (none-some text e)
literal_of (terminal (bare t)) text e = absurd (none-some text e)
literal_of (terminal error_terminal) text e = absurd (none-some text e)
literal_of error text e = absurd (none-some text e)
literal_of (reference n b) text e = absurd (none-some text e)
literal_of (call n args) text e = absurd (none-some text e)
literal_of (group parts) text e = absurd (none-some text e)
literal_of (star x) text e = absurd (none-some text e)
literal_of (plus x) text e = absurd (none-some text e)
literal_of (question x) text e = absurd (none-some text e)
literal_of (times n x) text e = absurd (none-some text e)
literal_of (wrapped w x) text e = absurd (none-some text e)
literal_of lookahead text e = absurd (none-some text e)
literal_of lookbehind text e = absurd (none-some text e)

value_of : (o : Option Name) (f : Name → Bool) (value : Bool) → option_map f o ≡ Some value → (text : Name) × (o ≡ Some text) × (f text ≡ value)
value_of None f value e = absurd (none-some value e)
value_of (Some text) f value e = (text, refl, same_Some (f text) value e)

pub values_are_of_literals : ValuesAreOfLiterals
values_are_of_literals op left right value = (
  λ e. let found = value_of (literal_in left) (λ literal. comparison op literal right) value e in
      (found.0, literal_of left found.0 found.1, found.2),
  λ h. rw (h.1, h.2) refl,
)
