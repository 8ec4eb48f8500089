-- The premises of the whole way can be satisfied: `pub D = "a"* @L;`, with its symbols named by their texts.
use Rattle.std.proofs.Common.{◌≡◌, ◌<◌, inl, inr, ℕ, zero, suc, [], ◌∷◌, ◌++◌, map, refl, sym, subst, arith}
use Rattle.std.specs.Prelude.{bytes_eq, true, false, Some}
use Rattle.std.proofs.lemmas.Bool.{cases_Bool}
use Rattle.lalrpop_norm_theory.specs.Symbols.{Name, ClosedSymbol, ClosedSymbols, reference, star, plus, lookahead, no_symbols, symbol_and, only}
use Rattle.lalrpop_norm_theory.specs.Meaning.{HasCounts, HasLevels}
use Rattle.lalrpop_norm_theory.specs.Rounds.{In, IsDistinct}
use Rattle.lalrpop_norm_theory.specs.Met.{expanded_symbols, AreResolvedIn, IsResolved, IsResolvedIn}
use Rattle.lalrpop_norm_theory.proofs.SameLemmas.{text_same}
use Rattle.lalrpop_norm_theory.proofs.ExampleGrammar.{none_some}
use Rattle.lalrpop_norm_theory.proofs.RoundExamples.{letter, literal, first_alternative, body, macro_parts, repeated, rule_d}

abbrev parts_of_d : ClosedSymbols
parts_of_d = symbol_and (star (literal 97)) (only lookahead)

alternative_counted : (p : ClosedSymbols) (k : ℕ) (parts : ClosedSymbols) → first_alternative p k ≡ Some parts → k < 1
alternative_counted p zero parts e = omega arith
alternative_counted p (suc k) parts e = absurd (none_some e)

call_counted : (n : Name) (args : ClosedSymbols) (k : ℕ) (parts : ClosedSymbols) → macro_parts n args k ≡ Some parts → k < 1
call_counted n no_symbols k parts e = absurd (none_some e)
call_counted n (symbol_and x no_symbols) k parts e = alternative_counted (body n x) k parts e
call_counted n (symbol_and x (symbol_and y gs)) k parts e = absurd (none_some e)

counts : HasCounts repeated
counts = record {
  of_rules = λ n b k parts e. alternative_counted parts_of_d k parts e;
  of_calls = λ n args k parts e. call_counted n args k parts e;
}

levels : HasLevels repeated
levels = record {
  deeper = λ n b c e. absurd (none_some e);
  own = λ n b k parts e. e;
  chained = λ n b c k parts e i. absurd (none_some e);
  apart = λ n b c k parts e i. absurd (none_some e);
  split = λ n b k parts e. inl e;
}

body_resolved : (n : Name) (x : ClosedSymbol) → IsResolvedIn rule_d x → AreResolvedIn rule_d (body n x)
body_resolved n x r = elim (cases_Bool (bytes_eq n (letter 65))) [
  | inl e ↦ rw e (tt, (((tt, (r, tt)), tt), tt))
  | inr e ↦ rw e (elim (cases_Bool (bytes_eq n (letter 66))) [
    | inl f ↦ rw f (tt, (((tt, (r, tt)), tt), tt))
    | inr f ↦ rw f (tt, (r, tt))
  ])
]

alternative_resolved : (p : ClosedSymbols) → AreResolvedIn rule_d p → (k : ℕ) (parts : ClosedSymbols) → first_alternative p k ≡ Some parts →
    AreResolvedIn rule_d parts
alternative_resolved p r zero parts e = let same : p ≡ parts = cc e in subst (AreResolvedIn rule_d) same r
alternative_resolved p r (suc k) parts e = absurd (none_some e)

call_resolved : (n : Name) (args : ClosedSymbols) (k : ℕ) (parts : ClosedSymbols) → AreResolvedIn rule_d args →
    macro_parts n args k ≡ Some parts → AreResolvedIn rule_d parts
call_resolved n no_symbols k parts r e = absurd (none_some e)
call_resolved n (symbol_and x no_symbols) k parts r e = alternative_resolved (body n x) (body_resolved n x r.0) k parts e
call_resolved n (symbol_and x (symbol_and y gs)) k parts r e = absurd (none_some e)

resolved : IsResolved repeated rule_d
resolved = record {
  rules = λ n b k parts r e. alternative_resolved parts_of_d (tt, (tt, tt)) k parts e;
  levels = λ n b c r e. absurd (none_some e);
  macros = λ n args k parts r e. call_resolved n args k parts r e;
}

rule_resolved : (g : ClosedSymbol) → In g rule_d → IsResolvedIn rule_d g
rule_resolved g (inl e) = subst (IsResolvedIn rule_d) (sym e) (inl refl)
rule_resolved g (inr i) = absurd i

-- the texts D, "a"*, "a"+ and @L
abbrev name : ClosedSymbol → Name
name (star x) = 34 ∷ 97 ∷ 34 ∷ 42 ∷ []
name (plus x) = 34 ∷ 97 ∷ 34 ∷ 43 ∷ []
name lookahead = 64 ∷ 76 ∷ []
name (reference n b) = n
name g = []

rule_apart : In (letter 68) (map name (lookahead ∷ star (literal 97) ∷ plus (literal 97) ∷ [])) → ⊥
rule_apart (inl e) = cc e
rule_apart (inr (inl e)) = cc e
rule_apart (inr (inr (inl e))) = cc e
rule_apart (inr (inr (inr i))) = i

lookahead_apart : In (name lookahead) (map name (star (literal 97) ∷ plus (literal 97) ∷ [])) → ⊥
lookahead_apart (inl e) = cc e
lookahead_apart (inr (inl e)) = cc e
lookahead_apart (inr (inr i)) = i

texts_differ : (a b : Name) → bytes_eq a b ≡ false → a ≡ b → ⊥
texts_differ a b f e = let t : bytes_eq a b ≡ true = rw e (text_same b) in cc (f, t)

star_apart : In (name (star (literal 97))) (map name (plus (literal 97) ∷ [])) → ⊥
star_apart (inl e) = texts_differ _ _ refl e
star_apart (inr i) = i

names_apart : IsDistinct (map name (rule_d ++ expanded_symbols repeated rule_d 2))
names_apart = (rule_apart, (lookahead_apart, (star_apart, (λ i. i, tt))))
