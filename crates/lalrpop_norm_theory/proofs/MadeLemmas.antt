-- Each rule of an expansion is made once, and parts are reached no later than the whole.
use Rattle.std.proofs.Common.{◌≡◌, ◌⊎◌, ◌<◌, inl, inr, ℕ, zero, suc, List, [], ◌∷◌, ◌++◌, Bool, reverse, refl, subst, arith}
use Rattle.std.specs.Prelude.{flat_map}
use Rattle.std.proofs.lemmas.Bool.{cases_Bool}
use mathlib.Core.List.{reverse-cons}
use Rattle.lalrpop_norm_theory.specs.Symbols.{ClosedSymbol, ClosedSymbols, terminal, error, reference, call, group, star, plus, question, times, wrapped, lookahead, lookbehind, no_symbols, symbol_and}
use Rattle.lalrpop_norm_theory.specs.Meaning.{Meaning}
use Rattle.lalrpop_norm_theory.specs.Clauses.{Clause, clauses}
use Rattle.lalrpop_norm_theory.specs.Rounds.{In, is_in, fresh_of, rounds, all_rules_made, IsDistinct, NewIn, IsTest}
use Rattle.lalrpop_norm_theory.specs.Same.{same_symbol}
use Rattle.lalrpop_norm_theory.specs.Met.{meets, meets_all, rule_meets}
use Rattle.lalrpop_norm_theory.specs.Laws.{RulesAreMadeOnce, PartsAreMetNoLater}
use Rattle.lalrpop_norm_theory.proofs.RoundsLemmas.{in_left, in_right, in_cases, in_reverse, of_reverse, in_flat, of_flat, fresh_met, fresh_is_new}
use Rattle.lalrpop_norm_theory.proofs.SameLemmas.{symbol_test}

fresh_distinct : {A : Type 0} (same : A → A → Bool) → IsTest same → (seen met : List A) → IsDistinct (fresh_of same seen met)
fresh_distinct same T seen [] = tt
fresh_distinct same T seen (x ∷ met) = elim (cases_Bool (is_in same x seen)) [
  | inl e ↦ rw e (fresh_distinct same T seen met)
  | inr e ↦ rw e (λ i. (fresh_met same T x (x ∷ seen) met i).1 (inl refl), fresh_distinct same T (x ∷ seen) met)
]

pub distinct_append : {A : Type 0} (xs ys : List A) → IsDistinct xs → IsDistinct ys → ((x : A) → In x xs → In x ys → ⊥) → IsDistinct (xs ++ ys)
distinct_append [] ys d e apart = e
distinct_append (x ∷ xs) ys d e apart = (
  λ i. elim (in_cases x xs ys i) [ inl j ↦ d.0 j | inr j ↦ apart x (inl refl) j ],
  distinct_append xs ys d.1 e (λ z j k. apart z (inr j) k),
)

pub distinct_reverse : {A : Type 0} (xs : List A) → IsDistinct xs → IsDistinct (reverse xs)
distinct_reverse [] d = d
distinct_reverse {A} (x ∷ xs) d =
    rw (reverse-cons x xs) (distinct_append (reverse xs) (x ∷ []) (distinct_reverse xs d.1) (λ i. i, tt) apart)
  where
    apart : (z : A) → In z (reverse xs) → In z (x ∷ []) → ⊥
    apart z i (inl e) = d.0 (subst (λ (w : A). In w xs) e (of_reverse z xs i))
    apart z i (inr j) = j

made_new : {A : Type 0} (same : A → A → Bool) → IsTest same → (meets : A → List A) (start : List A) (count : ℕ) (x : A) →
    In x (all_rules_made same meets start count) → (k : ℕ) × (k < count) × NewIn meets start k x
made_new same T meets start zero x i = absurd i
made_new same T meets start (suc count) x i = elim (in_cases x (all_rules_made same meets start count) _ i) [
  | inl j ↦ (let (k, l, n) = made_new same T meets start count x j in (k, omega arith, n))
  | inr j ↦ (count, omega arith, (fresh_is_new same T meets start count x).0 (of_reverse x (rounds same meets start count).fresh j))
]

new_made : {A : Type 0} (same : A → A → Bool) → IsTest same → (meets : A → List A) (start : List A) (count k : ℕ) (x : A) →
    k < count → NewIn meets start k x → In x (all_rules_made same meets start count)
new_made same T meets start zero k x l n = absurd (omega arith)
new_made {A} same T meets start (suc count) k x l n = elim (last) [
  | inl e ↦ in_right x (all_rules_made same meets start count) _
      (in_reverse x (rounds same meets start count).fresh
      ((fresh_is_new same T meets start count x).1 (subst (λ j. NewIn meets start j x) e n)))
  | inr m ↦ in_left x (all_rules_made same meets start count) _ (new_made same T meets start count k x m n)
]
  where
    last : (k ≡ count) ⊎ (k < count)
    last = grind arith

made_distinct : {A : Type 0} (same : A → A → Bool) → IsTest same → (meets : A → List A) (start : List A) (count : ℕ) →
    IsDistinct (all_rules_made same meets start count)
made_distinct same T meets start zero = tt
made_distinct {A} same T meets start (suc count) =
    distinct_append (all_rules_made same meets start count) _ (made_distinct same T meets start count)
    (distinct_reverse (rounds same meets start count).fresh (fresh count)) apart
  where
    fresh : (k : ℕ) → IsDistinct (rounds same meets start k).fresh
    fresh zero = fresh_distinct same T [] start
    fresh (suc k) = fresh_distinct same T _ _

    apart : (x : A) → In x (all_rules_made same meets start count) → In x (reverse (rounds same meets start count).fresh) → ⊥
    apart x i j =
        let (k, l, n) = made_new same T meets start count x i in
        ((fresh_is_new same T meets start count x).0 (of_reverse x (rounds same meets start count).fresh j)).1 k l n.0

pub rules_made_once : RulesAreMadeOnce
rules_made_once M declared count = (
  made_distinct same T (rule_meets M) start count,
  λ x. (λ i. made_new same T (rule_meets M) start count x i, λ r. new_made same T (rule_meets M) start count r.0 x r.1 r.2),
)
  where
    same : ClosedSymbol → ClosedSymbol → Bool
    same = same_symbol

    T : IsTest same_symbol
    T = symbol_test

    start : List ClosedSymbol
    start = flat_map (rule_meets M) declared

-- what the symbol itself reaches
itself : (g h x : ClosedSymbol) → In h (g ∷ []) → In x (meets h) → In x (meets g)
itself g h x (inl e) i = subst (λ (y : ClosedSymbol). In x (meets y)) e i
itself g h x (inr j) i = absurd j

mutual
  -- what is reached by what a symbol reaches is reached by the symbol
  meets_parts : (g h x : ClosedSymbol) → In h (meets g) → In x (meets h) → In x (meets g)
  meets_parts (terminal a) h x j i = absurd j
  meets_parts error h x j i = absurd j
  meets_parts (reference n b) h x j i = absurd j
  meets_parts (wrapped w g) h x j i = meets_parts g h x j i
  meets_parts (call n args) h x j i = elim (in_cases h (meets_all args) _ j) [
    | inl r ↦ in_left x (meets_all args) _ (all_meet_parts args h x r i)
    | inr r ↦ itself (call n args) h x r i
  ]
  meets_parts (group gs) h x j i = elim (in_cases h (meets_all gs) _ j) [
    | inl r ↦ in_left x (meets_all gs) _ (all_meet_parts gs h x r i)
    | inr r ↦ itself (group gs) h x r i
  ]
  meets_parts (star y) h x j i = elim (in_cases h (meets y) _ j) [
    | inl r ↦ in_left x (meets y) _ (meets_parts y h x r i)
    | inr r ↦ itself (star y) h x r i
  ]
  meets_parts (plus y) h x j i = elim (in_cases h (meets y) _ j) [
    | inl r ↦ in_left x (meets y) _ (meets_parts y h x r i)
    | inr r ↦ itself (plus y) h x r i
  ]
  meets_parts (question y) h x j i = elim (in_cases h (meets y) _ j) [
    | inl r ↦ in_left x (meets y) _ (meets_parts y h x r i)
    | inr r ↦ itself (question y) h x r i
  ]
  meets_parts (times n y) h x j i = elim (in_cases h (meets y) _ j) [
    | inl r ↦ in_left x (meets y) _ (meets_parts y h x r i)
    | inr r ↦ itself (times n y) h x r i
  ]
  meets_parts lookahead h x j i = itself lookahead h x j i
  meets_parts lookbehind h x j i = itself lookbehind h x j i

  all_meet_parts : (gs : ClosedSymbols) (h x : ClosedSymbol) → In h (meets_all gs) → In x (meets h) → In x (meets_all gs)
  all_meet_parts no_symbols h x j i = absurd j
  all_meet_parts (symbol_and g gs) h x j i = elim (in_cases h (meets g) _ j) [
    | inl r ↦ in_left x (meets g) _ (meets_parts g h x r i)
    | inr r ↦ in_right x (meets g) _ (all_meet_parts gs h x r i)
  ]

rule_meets_parts : (M : Meaning) (y g h : ClosedSymbol) → In g (rule_meets M y) → In h (meets g) → In h (rule_meets M y)
rule_meets_parts M y g h j i =
    let (c, there, r) = of_flat (λ (c : Clause). meets_all c.parts) g (clauses M y) j in
    in_flat (λ (c : Clause). meets_all c.parts) h c (clauses M y) there (all_meet_parts c.parts g h r i)

pub parts_met_no_later : PartsAreMetNoLater
parts_met_no_later M declared zero g h j i =
    let (y, there, r) = of_flat (rule_meets M) g declared j in in_flat (rule_meets M) h y declared there (rule_meets_parts M y g h r i)
parts_met_no_later M declared (suc k) g h (y, c, j) i = (y, c, rule_meets_parts M y g h j i)
