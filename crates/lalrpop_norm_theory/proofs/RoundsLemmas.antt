-- The worklist's new things of a round are those whose shortest chain has the round's length.
use Rattle.std.proofs.Common.{◌≡◌, ◌⊎◌, ◌↔◌, ◌≢◌, inl, inr, ◌<◌, ◌+◌, ℕ, zero, suc, List, [], ◌∷◌, ◌++◌, Bool, true, false, reverse, refl, sym, ap, ◌∙◌, subst, arith, append-nil}
use Rattle.std.specs.Prelude.{flat_map, ◌||◌, if◌then◌else◌}
use Rattle.std.proofs.lemmas.Bool.{cases_Bool}
use Rattle.std.proofs.lemmas.List.{reverse-reverse}
use mathlib.Core.List.{reverse-cons}
use Rattle.lalrpop_norm_theory.specs.Rounds.{In, is_in, fresh_of, Round, rounds, Chain, NewIn, IsTest}
use Rattle.lalrpop_norm_theory.proofs.BoolLemmas.{or_swap, or_cases, or_left, or_right}

pub in_left : {A : Type 0} (x : A) (xs ys : List A) → In x xs → In x (xs ++ ys)
in_left x [] ys h = absurd h
in_left x (y ∷ xs) ys (inl e) = inl e
in_left x (y ∷ xs) ys (inr h) = inr (in_left x xs ys h)

pub in_right : {A : Type 0} (x : A) (xs ys : List A) → In x ys → In x (xs ++ ys)
in_right x [] ys h = h
in_right x (y ∷ xs) ys h = inr (in_right x xs ys h)

pub in_cases : {A : Type 0} (x : A) (xs ys : List A) → In x (xs ++ ys) → In x xs ⊎ In x ys
in_cases x [] ys h = inr h
in_cases x (y ∷ xs) ys (inl e) = inl (inl e)
in_cases x (y ∷ xs) ys (inr h) = elim (in_cases x xs ys h) [ inl i ↦ inl (inr i) | inr i ↦ inr i ]

-- what is_in says
pub is_in_sound : {A : Type 0} (same : A → A → Bool) → IsTest same → (x : A) (xs : List A) → is_in same x xs ≡ true → In x xs
is_in_sound same T x [] h = absurd (cc h)
is_in_sound same T x (y ∷ ys) h = elim (or_cases (same x y) (is_in same x ys) h) [
  | inl e ↦ inl (T.sound x y e)
  | inr e ↦ inr (is_in_sound same T x ys e)
]

pub is_in_complete : {A : Type 0} (same : A → A → Bool) → IsTest same → (x : A) (xs : List A) → In x xs → is_in same x xs ≡ true
is_in_complete same T x [] h = absurd h
is_in_complete same T x (y ∷ ys) (inl e) = or_left (same x y) (is_in same x ys) (subst (λ z. same x z ≡ true) e (T.complete x))
is_in_complete same T x (y ∷ ys) (inr h) = or_right (same x y) (is_in same x ys) (is_in_complete same T x ys h)

pub is_in_cases : {A : Type 0} (same : A → A → Bool) → IsTest same → (x : A) (xs : List A) → In x xs ⊎ (In x xs → ⊥)
is_in_cases same T x xs = elim (cases_Bool (is_in same x xs)) [
  | inl e ↦ inl (is_in_sound same T x xs e)
  | inr e ↦ inr (λ i. let e' : is_in same x xs ≡ true = is_in_complete same T x xs i in cc (e, e'))
]

kept_met : {A : Type 0} (z x : A) (seen xs old new : List A) (b : Bool) →
    (b ≡ false → In x seen → ⊥) →
    (In z old → In z xs × (In z seen → ⊥)) → (In z new → In z xs × (In z (x ∷ seen) → ⊥)) →
    In z (if b then old else x ∷ new) → In z (x ∷ xs) × (In z seen → ⊥)
kept_met z x seen xs old new true n f g h = let r = f h in (inr r.0, r.1)
kept_met {A} z x seen xs old new false n f g (inl e) = (inl e, λ i. n refl (subst (λ (y : A). In y seen) e i))
kept_met z x seen xs old new false n f g (inr h) = let r = g h in (inr r.0, λ i. r.1 (inr i))

-- the fresh ones are those reached and not seen
pub fresh_met : {A : Type 0} (same : A → A → Bool) → IsTest same → (z : A) (seen xs : List A) →
    In z (fresh_of same seen xs) → In z xs × (In z seen → ⊥)
fresh_met same T z seen [] h = absurd h
fresh_met same T z seen (x ∷ xs) h =
    kept_met z x seen xs _ _ (is_in same x seen)
    (λ e i. let e' : is_in same x seen ≡ true = is_in_complete same T x seen i in cc (e, e'))
    (λ i. fresh_met same T z seen xs i) (λ i. fresh_met same T z (x ∷ seen) xs i) h

met_kept : {A : Type 0} (z x : A) (seen xs old new : List A) (b : Bool) → (b ≡ true → In x seen) →
    (z ≡ x) ⊎ (z ≡ x → ⊥) →
    (In z xs → In z old) → (In z xs → (In z (x ∷ seen) → ⊥) → In z new) →
    In z (x ∷ xs) → (In z seen → ⊥) → In z (if b then old else x ∷ new)
met_kept {A} z x seen xs old new true s d f g (inl e) n = absurd (n (subst (λ (y : A). In y seen) (sym e) (s refl)))
met_kept z x seen xs old new true s d f g (inr h) n = f h
met_kept z x seen xs old new false s d f g (inl e) n = inl e
met_kept z x seen xs old new false s (inl e) f g (inr h) n = inl e
met_kept z x seen xs old new false s (inr other) f g (inr h) n =
    inr (g h (elim [ inl e ↦ other e | inr i ↦ n i ]))

same_cases : {A : Type 0} (same : A → A → Bool) → IsTest same → (x y : A) → (x ≡ y) ⊎ (x ≡ y → ⊥)
same_cases {A} same T x y = elim (cases_Bool (same x y)) [
  | inl e ↦ inl (T.sound x y e)
  | inr e ↦ inr (λ i. let e' : same x y ≡ true = subst (λ (z : A). same x z ≡ true) i (T.complete x) in cc (e, e'))
]

pub met_fresh : {A : Type 0} (same : A → A → Bool) → IsTest same → (z : A) (seen xs : List A) →
    In z xs → (In z seen → ⊥) → In z (fresh_of same seen xs)
met_fresh same T z seen [] h n = absurd h
met_fresh same T z seen (x ∷ xs) h n =
    met_kept z x seen xs _ _ (is_in same x seen) (λ e. is_in_sound same T x seen e) (same_cases same T z x)
    (λ i. met_fresh same T z seen xs i n) (λ i m. met_fresh same T z (x ∷ seen) xs i m) h n

pub in_reverse : {A : Type 0} (x : A) (xs : List A) → In x xs → In x (reverse xs)
in_reverse x [] h = h
in_reverse x (y ∷ ys) (inl e) = rw (reverse-cons y ys) (in_right x (reverse ys) (y ∷ []) (inl e))
in_reverse x (y ∷ ys) (inr h) = rw (reverse-cons y ys) (in_left x (reverse ys) (y ∷ []) (in_reverse x ys h))

pub of_reverse : {A : Type 0} (x : A) (xs : List A) → In x (reverse xs) → In x xs
of_reverse {A} x xs h = subst (λ (ys : List A). In x ys) (reverse-reverse xs) (in_reverse x (reverse xs) h)

pub in_flat : {A B : Type 0} (f : B → List A) (x : A) (y : B) (ys : List B) → In y ys → In x (f y) → In x (flat_map f ys)
in_flat f x y [] h i = absurd h
in_flat {A} {B} f x y (z ∷ ys) (inl e) i = in_left x (f z) (flat_map f ys) (subst (λ (w : B). In x (f w)) e i)
in_flat f x y (z ∷ ys) (inr h) i = in_right x (f z) (flat_map f ys) (in_flat f x y ys h i)

pub of_flat : {A B : Type 0} (f : B → List A) (x : A) (ys : List B) → In x (flat_map f ys) → (y : B) × In y ys × In x (f y)
of_flat f x [] h = absurd h
of_flat f x (z ∷ ys) h = elim (in_cases x (f z) (flat_map f ys) h) [
  | inl i ↦ (z, inl refl, i)
  | inr i ↦ let r = of_flat f x ys i in (r.0, inr r.1, r.2)
]

-- what is known after round k + 1
pub record After {A : Type 0} (meets : A → List A) (start : List A) (k : ℕ) (r : Round A) : Type 0 where
  -- the fresh ones have a chain of that length
  pub fresh_chain : (x : A) → In x r.fresh → Chain meets start k x
  -- and were not seen
  pub fresh_new : (x : A) → In x r.fresh → In x r.seen → ⊥
  -- what was seen has a shorter chain
  pub seen_chain : (x : A) → In x r.seen → (j : ℕ) × (j < k) × Chain meets start j x
  -- what has a chain of at most that length was seen or is fresh
  pub all_found : (x : A) (j : ℕ) → j < k + 1 → Chain meets start j x → In x (r.seen ++ r.fresh)
  -- and what has a shorter chain was seen
  pub all_seen : (x : A) (j : ℕ) → j < k → Chain meets start j x → In x r.seen

step_found : {A : Type 0} (same : A → A → Bool) → IsTest same → (meets : A → List A) (start : List A) (k : ℕ) (r : Round A) →
    After meets start k r → (x : A) → Chain meets start (suc k) x →
    In x ((r.seen ++ r.fresh) ++ fresh_of same (r.seen ++ r.fresh) (flat_map meets (reverse r.fresh)))
step_found {A} same T meets start k r ih x (y, c, i) =
    elim (is_in_cases same T x (r.seen ++ r.fresh)) [
      | inl old ↦ in_left x (r.seen ++ r.fresh) _ old
      | inr n ↦ in_right x (r.seen ++ r.fresh) _ (met_fresh same T x (r.seen ++ r.fresh) _ (met (ends n)) n)
    ]
  where
    met : In y r.fresh → In x (flat_map meets (reverse r.fresh))
    met h = in_flat meets x y (reverse r.fresh) (in_reverse y r.fresh h) i

    ends : (In x (r.seen ++ r.fresh) → ⊥) → In y r.fresh
    ends n = elim (in_cases y r.seen r.fresh (ih.all_found y k (omega arith) c)) [
      | inl h ↦
          let (j, less, d) = ih.seen_chain y h in
          absurd (n (ih.all_found x (suc j) (let b : j < k = less in omega arith) (y, d, i)))
      | inr h ↦ h
    ]

-- the worklist's round k + 1 adds what has a chain of k + 1 rules and no shorter one
pub after_rounds : {A : Type 0} (same : A → A → Bool) → IsTest same → (meets : A → List A) (start : List A) (k : ℕ) →
    After meets start k (rounds same meets start k)
after_rounds {A} same T meets start zero = record {
  fresh_chain = λ x h. (fresh_met same T x [] start h).0;
  fresh_new = λ x h i. i;
  seen_chain = λ x h. absurd h;
  all_found = λ x j l c. first j x l c;
  all_seen = λ x j l c. absurd (omega arith);
}
  where
    first : (j : ℕ) (x : A) → j < 0 + 1 → Chain meets start j x → In x (fresh_of same [] start)
    first zero x l c = met_fresh same T x [] start c (λ i. i)
    first (suc j) x l c = absurd (omega arith)
after_rounds {A} same T meets start (suc k) =
    let r : Round A = rounds same meets start k in
    let ih : After meets start k r = after_rounds same T meets start k in
    record {
      fresh_chain = λ x h.
          let (y, i, m) = of_flat meets x (reverse r.fresh) (fresh_met same T x (r.seen ++ r.fresh) _ h).0 in
          (y, ih.fresh_chain y (of_reverse y r.fresh i), m);
      fresh_new = λ x h. (fresh_met same T x (r.seen ++ r.fresh) _ h).1;
      seen_chain = λ x h. elim (in_cases x r.seen r.fresh h) [
        | inl i ↦ (let (j, l, c) = ih.seen_chain x i in (j, omega arith, c))
        | inr i ↦ (k, omega arith, ih.fresh_chain x i)
      ];
      all_found = λ x j l c. elim (eq_cases j (suc k)) [
        | inl e ↦ step_found same T meets start k r ih x (subst (λ i. Chain meets start i x) e c)
        | inr n ↦ in_left x (r.seen ++ r.fresh) _ (ih.all_found x j (omega arith) c)
      ];
      all_seen = λ x j l c. ih.all_found x j (omega arith) c;
    }
  where
    eq_cases : (j n : ℕ) → (j ≡ n) ⊎ (j ≢ n)
    eq_cases j n = grind arith

-- what is fresh in the worklist's round is what is new in that round
pub fresh_is_new : {A : Type 0} (same : A → A → Bool) → IsTest same → (meets : A → List A) (start : List A) (k : ℕ) (x : A) →
    In x (rounds same meets start k).fresh ↔ NewIn meets start k x
fresh_is_new {A} same T meets start k x = (there, back)
  where
    known : After meets start k (rounds same meets start k)
    known = after_rounds same T meets start k

    there : In x (rounds same meets start k).fresh → NewIn meets start k x
    there h = (known.fresh_chain x h, λ j l c. known.fresh_new x h (known.all_seen x j l c))

    back : NewIn meets start k x → In x (rounds same meets start k).fresh
    back (c, shortest) = elim (in_cases x _ _ (known.all_found x k (omega arith) c)) [
      | inl i ↦ (let (j, l, d) = known.seen_chain x i in absurd (shortest j l d))
      | inr i ↦ i
    ]

-- where a round adds nothing, what was seen has all that its rules reach
pub closed : {A : Type 0} (same : A → A → Bool) → IsTest same → (meets : A → List A) (start : List A) (k : ℕ) →
    (rounds same meets start k).fresh ≡ [] → (x y : A) → In x (rounds same meets start k).seen → In y (meets x) →
    In y (rounds same meets start k).seen
closed {A} same T meets start k none x y h i =
    let known : After meets start k (rounds same meets start k) = after_rounds same T meets start k in
    let (j, l, c) = known.seen_chain x h in
    elim (in_cases y _ _ (known.all_found y (suc j) (let b : j < k = l in omega arith) (x, c, i))) [
      | inl s ↦ s
      | inr f ↦ absurd (subst (λ (ys : List A). In y ys) none f)
    ]

-- only what was seen counts, and not in which order
pub fresh_same : {A : Type 0} (same : A → A → Bool) (s r xs : List A) → ((x : A) → is_in same x s ≡ is_in same x r) →
    fresh_of same s xs ≡ fresh_of same r xs
fresh_same same s r [] h = refl
fresh_same same s r (x ∷ xs) h =
    rw (h x, fresh_same same s r xs h, fresh_same same (x ∷ s) (x ∷ r) xs (λ z. ap (λ b. same z x || b) (h z))) refl

in_append : {A : Type 0} (same : A → A → Bool) (x : A) (s r : List A) → is_in same x (s ++ r) ≡ (is_in same x s || is_in same x r)
in_append same x [] r = refl
in_append same x (y ∷ s) r = rw (in_append same x s r) (assoc (same x y) (is_in same x s) (is_in same x r))
  where
    assoc : (a b c : Bool) → (a || (b || c)) ≡ ((a || b) || c)
    assoc true b c = refl
    assoc false b c = refl

-- a round reads its rules one after another: what the first ones added is seen by the others
pub fresh_append : {A : Type 0} (same : A → A → Bool) (s xs ys : List A) →
    fresh_of same s (xs ++ ys) ≡ fresh_of same s xs ++ fresh_of same (s ++ fresh_of same s xs) ys
fresh_append {A} same s [] ys = ap (λ r. fresh_of same r ys) (sym (append-nil s))
fresh_append {A} same s (x ∷ xs) ys = elim (cases_Bool (is_in same x s)) [
  | inl e ↦ rw e (fresh_append same s xs ys)
  | inr e ↦ rw e (ap (λ r. x ∷ r) (fresh_append same (x ∷ s) xs ys ∙
      ap (λ r. fresh_of same (x ∷ s) xs ++ r)
      (fresh_same same _ _ ys (λ z. moved z))))
]
  where
    new : List A
    new = fresh_of same (x ∷ s) xs

    moved : (z : A) → is_in same z ((x ∷ s) ++ new) ≡ is_in same z (s ++ x ∷ new)
    moved z = rw (in_append same z s new, in_append same z s (x ∷ new)) (or_swap (same z x) (is_in same z s) (is_in same z new))

-- what is new is one of what was reached
pub fresh_listed : {A : Type 0} (same : A → A → Bool) (seen xs : List A) (x : A) → In x (fresh_of same seen xs) → In x xs
fresh_listed same seen [] x h = absurd h
fresh_listed {A} same seen (y ∷ xs) x h = by (is_in same y seen) (fresh_listed same seen xs x) (fresh_listed same (y ∷ seen) xs x) h
  where
    by : (b : Bool) → (In x (fresh_of same seen xs) → In x xs) → (In x (fresh_of same (y ∷ seen) xs) → In x xs) →
        In x (if b then fresh_of same seen xs else y ∷ fresh_of same (y ∷ seen) xs) → In x (y ∷ xs)
    by true f g i = inr (f i)
    by false f g (inl e) = inl e
    by false f g (inr i) = inr (g i)
