-- Levels of a rule: which there are, and which one is below another.
use Rattle.std.proofs.Common.{◌≡◌, ◌⊎◌, inl, inr, ℕ, zero, suc, ◌<◌, ◌≤◌, List, [], ◌∷◌, map, Option, Some, None, Bool, true, false, Ordering, Less, Equal, Greater, nat_cmp, refl, sym, ap, ◌∙◌, subst, arith}
use Rattle.std.specs.Prelude.{slice_get, nat_lt, unwrap_or, if◌then◌else◌}
use Rattle.std.specs.Ordering.{match_ordering, MatchOrdering}
use Rattle.std.specs.BTreeSet.{insert_key}
use Rattle.std.proofs.lemmas.Bool.{cases_Bool, ltb-true, ltb-false}
use Rattle.std.proofs.lemmas.Cmp.{ranked}
use Rattle.lalrpop_norm_theory.specs.Rounds.{In}
use Rattle.lalrpop_norm_model.specs.Enabled.{present}
use Rattle.lalrpop_norm_model.specs.Levels.{Leveled, rising, levels_of, greater, greatest, below, previous_level}
use Rattle.lalrpop_norm_model.specs.Stated.{IsRising, HasLevel, IsBelow, IsHighest}
use Rattle.lalrpop_norm_model.specs.Laws.{LevelsAreListed, PreviousIsBelow, HighestIsGreatest}

-- ---- lists

pub in_map : {A B : Type 0} (f : A → B) (x : A) (xs : List A) → In x xs → In (f x) (map f xs)
in_map f x [] h = absurd h
in_map f x (y ∷ xs) (inl e) = inl (ap f e)
in_map f x (y ∷ xs) (inr h) = inr (in_map f x xs h)

pub of_map : {A B : Type 0} (f : A → B) (z : B) (xs : List A) → In z (map f xs) → (x : A) × In x xs × (z ≡ f x)
of_map f z [] h = absurd h
of_map f z (y ∷ xs) (inl e) = (y, inl refl, e)
of_map f z (y ∷ xs) (inr h) = let r = of_map f z xs h in (r.0, inr r.1, r.2)

pub at_in : {A : Type 0} (xs : List A) (k : ℕ) (x : A) → slice_get xs k ≡ Some x → In x xs
at_in [] k x e = absurd (grind arith)
at_in (y ∷ xs) zero x e = inl (sym (cc e))
at_in (y ∷ xs) (suc k) x e = inr (at_in xs k x e)

pub in_present : {A : Type 0} (x : A) (xs : List (Option A)) → In (Some x) xs → In x (present xs)
in_present x [] h = absurd h
in_present x (None ∷ xs) (inl e) = absurd (grind arith)
in_present x (None ∷ xs) (inr h) = in_present x xs h
in_present x (Some y ∷ xs) (inl e) = inl (cc e)
in_present x (Some y ∷ xs) (inr h) = inr (in_present x xs h)

pub of_present : {A : Type 0} (x : A) (xs : List (Option A)) → In x (present xs) → In (Some x) xs
of_present x [] h = absurd h
of_present x (None ∷ xs) h = inr (of_present x xs h)
of_present x (Some y ∷ xs) (inl e) = inl (ap Some e)
of_present x (Some y ∷ xs) (inr h) = inr (of_present x xs h)

-- ---- a number put in its place

insert_new_at : (k x : ℕ) (xs : List ℕ) (o : Ordering) → MatchOrdering o (k < x) (k ≡ x) (x < k) → In k (insert_key nat_cmp xs k) →
    In k (match_ordering o (k ∷ x ∷ xs) (x ∷ xs) (x ∷ insert_key nat_cmp xs k))
insert_new_at k x xs Less m h = inl refl
insert_new_at k x xs Equal m h = inl m
insert_new_at k x xs Greater m h = inr h

insert_new : (k : ℕ) (xs : List ℕ) → In k (insert_key nat_cmp xs k)
insert_new k [] = inl refl
insert_new k (x ∷ xs) = insert_new_at k x xs (nat_cmp k x) (ranked k x (nat_cmp k x) refl) (insert_new k xs)

insert_keeps_at : (z k x : ℕ) (xs : List ℕ) (o : Ordering) → (In z xs → In z (insert_key nat_cmp xs k)) → In z (x ∷ xs) →
    In z (match_ordering o (k ∷ x ∷ xs) (x ∷ xs) (x ∷ insert_key nat_cmp xs k))
insert_keeps_at z k x xs Less f h = inr h
insert_keeps_at z k x xs Equal f h = h
insert_keeps_at z k x xs Greater f (inl e) = inl e
insert_keeps_at z k x xs Greater f (inr h) = inr (f h)

insert_keeps : (z k : ℕ) (xs : List ℕ) → In z xs → In z (insert_key nat_cmp xs k)
insert_keeps z k [] h = absurd h
insert_keeps z k (x ∷ xs) h = insert_keeps_at z k x xs (nat_cmp k x) (insert_keeps z k xs) h

insert_from_at : (z k x : ℕ) (xs : List ℕ) (o : Ordering) → (In z (insert_key nat_cmp xs k) → (z ≡ k) ⊎ In z xs) →
    In z (match_ordering o (k ∷ x ∷ xs) (x ∷ xs) (x ∷ insert_key nat_cmp xs k)) → (z ≡ k) ⊎ In z (x ∷ xs)
insert_from_at z k x xs Less f (inl e) = inl e
insert_from_at z k x xs Less f (inr h) = inr h
insert_from_at z k x xs Equal f h = inr h
insert_from_at z k x xs Greater f (inl e) = inr (inl e)
insert_from_at z k x xs Greater f (inr h) = elim (f h) [ inl e ↦ inl e | inr i ↦ inr (inr i) ]

insert_from : (z k : ℕ) (xs : List ℕ) → In z (insert_key nat_cmp xs k) → (z ≡ k) ⊎ In z xs
insert_from z k [] h = h
insert_from z k (x ∷ xs) h = insert_from_at z k x xs (nat_cmp k x) (insert_from z k xs) h

-- ---- levels, rising

pub in_rising : (l : ℕ) (ls : List ℕ) → In l ls → In l (rising ls)
in_rising l [] h = h
in_rising l (m ∷ ls) (inl e) = subst (λ (k : ℕ). In k (insert_key nat_cmp (rising ls) m)) (sym e) (insert_new m (rising ls))
in_rising l (m ∷ ls) (inr h) = insert_keeps l m (rising ls) (in_rising l ls h)

pub of_rising : (l : ℕ) (ls : List ℕ) → In l (rising ls) → In l ls
of_rising l [] h = h
of_rising l (m ∷ ls) h = elim (insert_from l m (rising ls) h) [ inl e ↦ inl e | inr i ↦ inr (of_rising l ls i) ]

-- the level of an index is one of the rule's
pub place_has_level : (ps : List (Option Leveled)) (a : Leveled) → In (Some a) ps → In a.level (levels_of ps)
place_has_level ps a h = in_rising a.level _ (in_map (λ (b : Leveled). b.level) a (present ps) (in_present a ps h))

-- ---- the greatest

-- m is in the list, and none is greater
abbrev pub IsGreatest : ℕ → List ℕ → Type 0
IsGreatest m ls = In m ls × ((n : ℕ) → In n ls → n ≤ m)

greater_at : (l m : ℕ) (ls : List ℕ) (b : Bool) → nat_lt l m ≡ b → IsGreatest m ls → IsGreatest (if b then m else l) (l ∷ ls)
greater_at l m ls true e h = (inr h.0, all)
  where
    all : (n : ℕ) → In n (l ∷ ls) → n ≤ m
    all n (inl i) = let less : l < m = ltb-true l m e in omega arith
    all n (inr i) = h.1 n i
greater_at l m ls false e h = (inl refl, all)
  where
    all : (n : ℕ) → In n (l ∷ ls) → n ≤ l
    all n (inl i) = omega arith
    all n (inr i) = let most : n ≤ m = h.1 n i in let less : m ≤ l = ltb-false l m e in omega arith

-- nothing is in a list without a greatest
pub no_greatest : (ls : List ℕ) (n : ℕ) → greatest ls ≡ None → In n ls → ⊥
no_greatest [] n e h = h
no_greatest (l ∷ ls) n e h = grind arith

greatest_of : (l : ℕ) (ls : List ℕ) (o : Option ℕ) → greatest ls ≡ o → ((m : ℕ) → o ≡ Some m → IsGreatest m ls) → IsGreatest (greater l o) (l ∷ ls)
greatest_of l ls None e f = (inl refl, all)
  where
    all : (n : ℕ) → In n (l ∷ ls) → n ≤ l
    all n (inl i) = omega arith
    all n (inr i) = absurd (no_greatest ls n e i)
greatest_of l ls (Some m) e f = greater_at l m ls (nat_lt l m) refl (f m refl)

pub greatest_is : (ls : List ℕ) (m : ℕ) → greatest ls ≡ Some m → IsGreatest m ls
greatest_is [] m e = absurd (grind arith)
greatest_is (l ∷ ls) m e =
    let same : greater l (greatest ls) ≡ m = cc e in
    subst (λ (k : ℕ). IsGreatest k (l ∷ ls)) same (greatest_of l ls (greatest ls) refl (λ k i. greatest_is ls k i))

pub has_greatest : (ls : List ℕ) (n : ℕ) → In n ls → (m : ℕ) × (greatest ls ≡ Some m)
has_greatest [] n h = absurd h
has_greatest (l ∷ ls) n h = (greater l (greatest ls), refl)

-- ---- the level below

below_kept : (n l m : ℕ) (ms : List ℕ) (b : Bool) → nat_lt m l ≡ b → (In n (below l ms) → In n ms × (n < l)) →
    In n (if b then m ∷ below l ms else below l ms) → In n (m ∷ ms) × (n < l)
below_kept n l m ms true e f (inl i) = let less : m < l = ltb-true m l e in (inl i, omega arith)
below_kept n l m ms true e f (inr h) = let r = f h in (inr r.0, r.1)
below_kept n l m ms false e f h = let r = f h in (inr r.0, r.1)

pub of_below : (n l : ℕ) (ls : List ℕ) → In n (below l ls) → In n ls × (n < l)
of_below n l [] h = absurd h
of_below n l (m ∷ ms) h = below_kept n l m ms (nat_lt m l) refl (of_below n l ms) h

kept_below : (n l m : ℕ) (ms : List ℕ) (b : Bool) → nat_lt m l ≡ b → (In n ms → In n (below l ms)) → n < l →
    In n (m ∷ ms) → In n (if b then m ∷ below l ms else below l ms)
kept_below n l m ms true e f lt (inl i) = inl i
kept_below n l m ms true e f lt (inr h) = inr (f h)
kept_below n l m ms false e f lt (inl i) = let most : l ≤ m = ltb-false m l e in absurd (omega arith)
kept_below n l m ms false e f lt (inr h) = f h

pub in_below : (n l : ℕ) (ls : List ℕ) → In n ls → n < l → In n (below l ls)
in_below n l [] h lt = absurd h
in_below n l (m ∷ ms) h lt = kept_below n l m ms (nat_lt m l) refl (λ i. in_below n l ms i lt) lt h

-- the level below is one of the rule's, lower, and no other lower one is above it
pub previous_is : (ps : List (Option Leveled)) (l m : ℕ) → previous_level ps l ≡ Some m →
    In m (levels_of ps) × (m < l) × ((n : ℕ) → In n (levels_of ps) → n < l → n ≤ m)
previous_is ps l m e =
    let g = greatest_is (below l (levels_of ps)) m e in
    let r = of_below m l (levels_of ps) g.0 in
    (r.0, r.1, λ n i lt. g.1 n (in_below n l (levels_of ps) i lt))

-- where there is a lower level, there is a level below
pub has_previous : (ps : List (Option Leveled)) (l n : ℕ) → In n (levels_of ps) → n < l → (m : ℕ) × (previous_level ps l ≡ Some m)
has_previous ps l n h lt = has_greatest (below l (levels_of ps)) n (in_below n l (levels_of ps) h lt)

-- ---- levels in the subject's words

insert_rising_at : (k x : ℕ) (xs : List ℕ) (o : Ordering) → MatchOrdering o (k < x) (k ≡ x) (x < k) → IsRising (x ∷ xs) → IsRising (insert_key nat_cmp xs k) →
    IsRising (match_ordering o (k ∷ x ∷ xs) (x ∷ xs) (x ∷ insert_key nat_cmp xs k))
insert_rising_at k x xs Less m r i = (first, r)
  where
    first : (n : ℕ) → In n (x ∷ xs) → k < n
    first n (inl e) = omega arith
    first n (inr h) = let after : x < n = r.0 n h in omega arith
insert_rising_at k x xs Equal m r i = r
insert_rising_at k x xs Greater m r i = (first, i)
  where
    first : (n : ℕ) → In n (insert_key nat_cmp xs k) → x < n
    first n h = elim (insert_from n k xs h) [ inl e ↦ (omega arith) | inr j ↦ r.0 n j ]

insert_rising : (k : ℕ) (xs : List ℕ) → IsRising xs → IsRising (insert_key nat_cmp xs k)
insert_rising k [] r = ((λ n h. absurd h), tt)
insert_rising k (x ∷ xs) r = insert_rising_at k x xs (nat_cmp k x) (ranked k x (nat_cmp k x) refl) r (insert_rising k xs r.1)

pub rising_rises : (ls : List ℕ) → IsRising (rising ls)
rising_rises [] = tt
rising_rises (l ∷ ls) = insert_rising l (rising ls) (rising_rises ls)

pub level_had : (ps : List (Option Leveled)) (l : ℕ) → In l (levels_of ps) → HasLevel ps l
level_had ps l h =
    let (a, i, e) = of_map (λ (b : Leveled). b.level) l (present ps) (of_rising l _ h) in (a, of_present a ps i, sym e)

pub had_level : (ps : List (Option Leveled)) (l : ℕ) → HasLevel ps l → In l (levels_of ps)
had_level ps l (a, i, e) = subst (λ (k : ℕ). In k (levels_of ps)) e (place_has_level ps a i)

pub levels_are_listed : LevelsAreListed
levels_are_listed ps = (rising_rises (map (λ (a : Leveled). a.level) (present ps)), λ l. (level_had ps l, had_level ps l))

pub previous_is_below : PreviousIsBelow
previous_is_below ps l m = (is_below, from_below)
  where
    is_below : previous_level ps l ≡ Some m → IsBelow ps l m
    is_below e =
        let p = previous_is ps l m e in
        (level_had ps m p.0, p.1, λ n h after lt. let most : n ≤ m = p.2 n (had_level ps n h) lt in omega arith)

    from_below : IsBelow ps l m → previous_level ps l ≡ Some m
    from_below (h, less, none) =
        let (k, e) = has_previous ps l m (had_level ps m h) less in
        let p = previous_is ps l k e in
        let most : m ≤ k = p.2 m (had_level ps m h) less in
        let same : k ≡ m = elim (cases_Bool (nat_lt m k)) [
          | inl t ↦ absurd (none k (level_had ps k p.0) (ltb-true m k t) p.1)
          | inr t ↦ (let least : k ≤ m = ltb-false m k t in omega arith)
        ] in
        e ∙ ap Some same

pub highest_is_greatest : HighestIsGreatest
highest_is_greatest ps l h = by (greatest (levels_of ps)) refl
  where
    by : (o : Option ℕ) → greatest (levels_of ps) ≡ o → IsHighest ps (unwrap_or o 0)
    by None e = absurd (no_greatest (levels_of ps) l e (had_level ps l h))
    by (Some m) e =
        let g = greatest_is (levels_of ps) m e in
        (level_had ps m g.0, λ n i. g.1 n (had_level ps n i))
