-- Indices in the worklist's queue, in rising order.
use Rattle.std.proofs.Common.{◌≡◌, ◌==◌, ◌||◌, ◌<◌, ◌≤◌, ◌⊎◌, inl, inr, ℕ, suc, Bool, true, false, true≢false, List, [], ◌∷◌, length, drop, get_or, refl, sym, ap, ◌∙◌, subst, add-one, arith, nat_cmp, min}
use Rattle.std.specs.Prelude.{if◌then◌else◌}
use Rattle.std.specs.Cmp.{unsigned_tied}
use Rattle.std.specs.List.Sorted.{IsStrictlyIncreasing}
use Rattle.std.specs.Ordering.{is_eq, is_gt}
use Rattle.std.specs.List.{list_any}
use Rattle.std.specs.BTreeMap.{is_at}
use Rattle.std.specs.BTreeSet.{contains}
use Rattle.std.proofs.lemmas.Bool.Decides.{eqb_tells}
use Rattle.std.proofs.lemmas.Map.Keys.{le_from_not_gt}
use Rattle.lalrpop_norm_theory.proofs.BoolLemmas.{or_cases, or_left, or_right}
use Rattle.lalrpop_norm_tyinfer_steps.specs.declared.waiting.Waiting.{Waiting}
use Rattle.lalrpop_norm_tyinfer_steps.specs.Waiting.{has, is_queued, IsLeast}

same_place : (k : ℕ) → is_eq (nat_cmp k k) ≡ true
same_place k = unsigned_tied k k ∙ elim (eqb_tells k k) [ inl w ↦ w.0 | inr w ↦ absurd (w.1 refl) ]

other_place : (k p : ℕ) → (k ≡ p → ⊥) → is_eq (nat_cmp k p) ≡ false
other_place k p apart = unsigned_tied k p ∙ elim (eqb_tells k p) [ inl w ↦ absurd (apart w.1) | inr w ↦ w.0 ]

rising_tail : (x : ℕ) (xs : List ℕ) → IsStrictlyIncreasing (x ∷ xs) → IsStrictlyIncreasing xs
rising_tail x xs r = λ k low. let h = rw add-one at (r (suc k) (omega (arith, low))) in rw add-one h

-- those behind the first are greater
behind : (p : ℕ) (ks : List ℕ) → IsStrictlyIncreasing (p ∷ ks) → (k : ℕ) → is_queued ks k ≡ true → p < k
behind p [] r k e = absurd (cc e)
behind p (y ∷ ys) r k e =
    let low : p < y = r 0 (omega arith) in
    elim (eqb_tells k y) [
      | inl w ↦ rw w.1 low
      | inr w ↦
          let further = behind y ys (rising_tail p (y ∷ ys) r) k (rw (other_place k y w.1) at e) in
          omega (arith, low, further)
    ]

pub false_where : (b : Bool) → (b ≡ true → ⊥) → b ≡ false
false_where true never = absurd (never refl)
false_where false never = refl

-- where an index is not there, all stay
pub none_leaves : (has : ℕ → Bool) (p : ℕ) → has p ≡ false → (k : ℕ) → has k ≡ (if p == k then false else has k)
none_leaves has p none k = elim (eqb_tells p k) [
  | inl w ↦ rw w.0 (ap has (sym w.1) ∙ none)
  | inr w ↦ rw w.0 refl
]

first_is : (xs : List ℕ) (first : ℕ) → 0 < length xs → first ≡ get_or xs 0 first → first ∷ drop 1 xs ≡ xs
first_is [] first some is = absurd (omega arith)
first_is (x ∷ xs) first some is = ap (λ y. y ∷ xs) is

module _ (xs : List ℕ) (rising : IsStrictlyIncreasing xs) (first : ℕ) (some : 0 < length xs) (is : first ≡ get_or xs 0 first) where
  rises : IsStrictlyIncreasing (first ∷ drop 1 xs)
  rises = subst IsStrictlyIncreasing (sym (first_is xs first some is)) rising

  pub first_queued : is_queued xs first ≡ true
  first_queued = subst (λ ks. is_queued ks first ≡ true) (first_is xs first some is) (or_left _ _ (same_place first))

  -- the first is the least
  pub first_least : (k : ℕ) → is_queued xs k ≡ true → first ≤ k
  first_least k there =
      let e = subst (λ ks. is_queued ks k ≡ true) (sym (first_is xs first some is)) there in
      elim (eqb_tells k first) [
        | inl w ↦ omega (arith, w.1)
        | inr w ↦ let low = behind first (drop 1 xs) rises k (rw (other_place k first w.1) at e) in omega (arith, low)
      ]

  -- where it is taken, the others stay
  pub first_leaves : (k : ℕ) → is_queued (drop 1 xs) k ≡ (if first == k then false else is_queued xs k)
  first_leaves k = elim (eqb_tells first k) [
    | inl w ↦ rw w.0 (false_where _ (λ e. let low = behind first (drop 1 xs) rises k e in absurd (omega (arith, low, w.1))))
    | inr w ↦ rw w.0
        (subst (λ ks. is_queued (drop 1 xs) k ≡ is_queued ks k) (first_is xs first some is)
        (sym (ap (λ b. b || is_queued (drop 1 xs) k) (other_place k first (λ e. w.1 (sym e))))))
  ]

  pub others_rise : IsStrictlyIncreasing (drop 1 xs)
  others_rise = rising_tail first (drop 1 xs) rises

-- ---- the least of all

some_where_found : (test : ℕ → Bool) (ks : List ℕ) → list_any test ks ≡ true → 0 < length ks
some_where_found test [] e = absurd (cc e)
some_where_found test (k ∷ ks) e = omega arith

before_or_behind : (k n : ℕ) → (k ≤ n) ⊎ (n < k)
before_or_behind k n = grind arith

module _ (p : Waiting) (first : ℕ) (some : 0 < length p.queue.items) (is : first ≡ get_or p.queue.items 0 first) where
  least_at : (place : ℕ) → has p place ≡ true → place ≤ first → ((k : ℕ) → contains nat_cmp p.others k ≡ true → place ≤ k) → IsLeast p place
  least_at place there low others = record {
    there = there;
    least = λ k e. elim (or_cases _ _ e) [
      | inl q ↦ let high = first_least p.queue.items p.rising first some is k q in omega (arith, low, high)
      | inr o ↦ others k o
    ];
  }

  first_there : has p first ≡ true
  first_there = or_left _ _ (first_queued p.queue.items p.rising first some is)

  pub queue_least : (0 < length p.others.keys → false ≡ true) → IsLeast p first
  queue_least none = least_at first first_there (omega arith) (λ k e. absurd (true≢false (sym (none (some_where_found (is_at (nat_cmp k)) p.others.keys e)))))

  pub both_least : (other : ℕ) → contains nat_cmp p.others other ≡ true → ((k : ℕ) → contains nat_cmp p.others k ≡ true → is_gt (nat_cmp other k) ≡ false) → IsLeast p (min first other)
  both_least other member least = elim (before_or_behind first other) [
    | inl low ↦
        let same : min first other ≡ first = omega arith in
        rw same (least_at first first_there (omega arith) (λ k e. let high = le_from_not_gt other k (least k e) in omega (arith, low, high)))
    | inr low ↦
        let same : min first other ≡ other = omega arith in
        rw same (least_at other (or_right _ _ member) (omega arith) (λ k e. le_from_not_gt other k (least k e)))
  ]
