-- Rounds of a worklist: what each round adds, in which order, and the distance of each thing. Generic in what is listed.
use Rattle.std.specs.Prelude.{◌≡◌, ◌⊎◌, ◌<◌, ℕ, zero, suc, List, [], ◌∷◌, ◌++◌, Bool, true, false}
use Rattle.std.specs.Prelude.{◌||◌, if◌then◌else◌, reverse, flat_map, slice_get, Some}

-- x is one of the list
abbrev pub In : {A : Type 0} → A → List A → Type 0
In x [] = ⊥
In x (y ∷ ys) = (x ≡ y) ⊎ In x ys

-- membership as a test, by a test of two
abbrev pub is_in : {A : Type 0} → (A → A → Bool) → A → List A → Bool
is_in same x [] = false
is_in same x (y ∷ ys) = same x y || is_in same x ys

-- of what is reached, in order, the first occurrence of each that was not seen
abbrev pub fresh_of : {A : Type 0} → (A → A → Bool) → List A → List A → List A
fresh_of same seen [] = []
fresh_of same seen (x ∷ xs) =
    if is_in same x seen then fresh_of same seen xs else x ∷ fresh_of same (x ∷ seen) xs

-- after some rounds: what was new before the last of them, and what is new in the last, in the order in which it is first reached
pub record Round (A : Type 0) : Type 0 where
  pub seen : List A
  pub fresh : List A

-- the rules of a round's new things are in the reverse of the order in which these are first reached; the next round reads them
-- in that order
abbrev pub rules_made : {A : Type 0} → Round A → List A
rules_made r = reverse r.fresh

-- the round after: it reaches what the generated rules reach, and keeps what was not seen
abbrev pub next_round : {A : Type 0} → (A → A → Bool) → (A → List A) → Round A → Round A
next_round same meets r = record {
  seen = r.seen ++ r.fresh;
  fresh = fresh_of same (r.seen ++ r.fresh) (flat_map meets (rules_made r));
}

-- the state after round k + 1: round 1 reaches `start`
abbrev pub rounds : {A : Type 0} → (A → A → Bool) → (A → List A) → List A → ℕ → Round A
rounds same meets start zero = record { seen = []; fresh = fresh_of same [] start }
rounds same meets start (suc k) = next_round same meets (rounds same meets start k)

-- the rules generated in the first `count` rounds, in order
abbrev pub all_rules_made : {A : Type 0} → (A → A → Bool) → (A → List A) → List A → ℕ → List A
all_rules_made same meets start zero = []
all_rules_made same meets start (suc k) = all_rules_made same meets start k ++ rules_made (rounds same meets start k)

-- each thing is in the list once
abbrev pub IsDistinct : {A : Type 0} → List A → Type 0
IsDistinct [] = Unit {0}
IsDistinct (x ∷ xs) = (In x xs → ⊥) × IsDistinct xs

-- a chain of k + 1 rules leads to x: the first reaches the first link, the rule of each link the next one, the last one x
abbrev pub Chain : {A : Type 0} → (A → List A) → List A → ℕ → A → Type 0
Chain meets start zero x = In x start
Chain {A} meets start (suc k) x = (y : A) × Chain meets start k y × In x (meets y)

-- x is new in round k + 1: its shortest chain has that length
abbrev pub NewIn : {A : Type 0} → (A → List A) → List A → ℕ → A → Type 0
NewIn meets start k x = Chain meets start k x × ((j : ℕ) → j < k → Chain meets start j x → ⊥)

-- x is first reached at index j
abbrev pub IsFirstAt : {A : Type 0} → A → List A → ℕ → Type 0
IsFirstAt x xs j = (slice_get xs j ≡ Some x) × ((i : ℕ) → i < j → slice_get xs i ≡ Some x → ⊥)

-- what is earlier in the first list is first reached earlier in the second
abbrev pub IsInOrderOf : {A : Type 0} → List A → List A → Type 0
IsInOrderOf {A} fresh met = (p q i j : ℕ) (x y : A) → slice_get fresh p ≡ Some x → slice_get fresh q ≡ Some y →
    IsFirstAt x met i → IsFirstAt y met j → p < q → i < j

-- a test of equality
pub record IsTest {A : Type 0} (same : A → A → Bool) : Type 0 where
  pub sound : (x y : A) → same x y ≡ true → x ≡ y
  pub complete : (x : A) → same x x ≡ true
