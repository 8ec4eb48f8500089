-- Typing clauses that are blocked until a name has a type, by numbers only.
use Rattle.std.specs.Prelude.{◌≡◌, ◌<◌, ◌≤◌, ◌⊎◌, ◌==◌, ◌||◌, ◌++◌, ◌∷◌, ℕ, Bool, true, false, List, [], length, Option, Some, None}
use Rattle.std.specs.Prelude.{slice_get, slice_index_or, option_map, unwrap_or}
use Rattle.lalrpop_norm_theory.specs.Rounds.{In}
use Rattle.lalrpop_norm_tyinfer_steps.specs.declared.needs.Need.{Need}
use Rattle.lalrpop_norm_tyinfer_steps.specs.declared.stops.Stop.{Stop}
use Rattle.lalrpop_norm_tyinfer_steps.specs.declared.stops.Stops.{Stops}

-- whether a number has a type
abbrev pub typed_at : Stops → ℕ → Bool
typed_at w q = slice_index_or w.typed.items q false

-- a name of no rule has none
abbrev pub is_typed : Stops → Option ℕ → Bool
is_typed w None = false
is_typed w (Some q) = typed_at w q

-- the clauses that stopped at a number
abbrev pub stopped_at : Stops → ℕ → List Stop
stopped_at w q = unwrap_or (option_map (λ v. v.items) (slice_get w.stopped.items q)) []

-- all numbers from an index on have types, or all before it
abbrev pub AreTypedFrom : Stops → List (Option ℕ) → ℕ → Type 0
AreTypedFrom w os from = (j : ℕ) (o : Option ℕ) → from ≤ j → slice_get os j ≡ Some o → is_typed w o ≡ true

abbrev pub AreTypedBelow : Stops → List (Option ℕ) → ℕ → Type 0
AreTypedBelow w os to = (j : ℕ) (o : Option ℕ) → j < to → slice_get os j ≡ Some o → is_typed w o ≡ true

abbrev pub AreTyped : Stops → List (Option ℕ) → Type 0
AreTyped w os = (j : ℕ) (o : Option ℕ) → slice_get os j ≡ Some o → is_typed w o ≡ true

-- the first number from an index on that has no type
pub record IsFirstUntyped (w : Stops) (os : List (Option ℕ)) (from place : ℕ) : Type 0 where
  pub number : Option ℕ
  pub here : slice_get os place ≡ Some number
  pub untyped : is_typed w number ≡ false
  pub low : from ≤ place
  pub earlier : (j : ℕ) (o : Option ℕ) → from ≤ j → j < place → slice_get os j ≡ Some o → is_typed w o ≡ true

-- the clause stopped at a name that has no type, all before it having one; where that is a rule's, it is in its list
pub record StopsAt (w : Stops) (n : Need) : Type 0 where
  pub place : ℕ
  pub number : Option ℕ
  pub here : slice_get n.numbers.items place ≡ Some number
  pub untyped : is_typed w number ≡ false
  pub earlier : AreTypedBelow w n.numbers.items place
  pub listed : (q : ℕ) → number ≡ Some q → (e : Stop) × In e (stopped_at w q) × (e.need.now ≡ n) × (e.next ≡ place)

-- the clause stopped, or has all its types
abbrev pub Settled : Stops → Need → Type 0
Settled w n = StopsAt w n ⊎ AreTyped w n.numbers.items

-- a clause of a rule below the count, of which all numbers are below the count
pub record NeedsBelow (count : ℕ) (n : Need) : Type 0 where
  pub rule : n.rule < count
  pub numbers : (q : ℕ) → In (Some q) n.numbers.items → q < count

pub record IsStops (w : Stops) : Type 0 where
  pub lists : length w.stopped.items ≡ length w.typed.items
  pub fits : (q : ℕ) (e : Stop) → In e (stopped_at w q) → NeedsBelow (length w.typed.items) e.need.now

-- one more clause is in the list of a number, as the last
pub record PutsUnder (w after : Stops) (number : ℕ) (stop : Stop) : Type 0 where
  pub typed : after.typed ≡ w.typed
  pub lists : length after.stopped.items ≡ length w.stopped.items
  pub here : stopped_at after number ≡ stopped_at w number ++ stop ∷ []
  pub others : (q : ℕ) → (number ≡ q → ⊥) → stopped_at after q ≡ stopped_at w q

-- the list of a number is empty then
pub record TakesOut (w after : Stops) (number : ℕ) (out : List Stop) : Type 0 where
  pub typed : after.typed ≡ w.typed
  pub lists : length after.stopped.items ≡ length w.stopped.items
  pub taken : out ≡ stopped_at w number
  pub here : stopped_at after number ≡ []
  pub others : (q : ℕ) → (number ≡ q → ⊥) → stopped_at after q ≡ stopped_at w q

-- a clause is under its number at an index, if there is one
pub record Puts (w after : Stops) (n : Need) (place : ℕ) : Type 0 where
  pub stops : IsStops after
  pub typed : after.typed ≡ w.typed
  pub kept : (q : ℕ) (e : Stop) → In e (stopped_at w q) → In e (stopped_at after q)
  pub listed : (q : ℕ) → slice_get n.numbers.items place ≡ Some (Some q) → (e : Stop) × In e (stopped_at after q) × (e.need.now ≡ n) × (e.next ≡ place)

-- a clause is put where its first name from an index on that has no type is, if there is one
pub record Seeks (w after : Stops) (stop : Stop) (all : Bool) : Type 0 where
  pub stops : IsStops after
  pub typed : after.typed ≡ w.typed
  pub kept : (q : ℕ) (e : Stop) → In e (stopped_at w q) → In e (stopped_at after q)
  pub ready : all ≡ true → AreTypedFrom w stop.need.now.numbers.items stop.next
  pub stopped : all ≡ false → AreTypedBelow w stop.need.now.numbers.items stop.next → StopsAt after stop.need.now

-- clauses that stopped where all before has types go on: each stops again, or has all its types and its rule is ready
pub record MovesOn (w after : Stops) (stopped : List Stop) (ready : List ℕ) : Type 0 where
  pub stops : IsStops after
  pub typed : after.typed ≡ w.typed
  pub kept : (q : ℕ) (e : Stop) → In e (stopped_at w q) → In e (stopped_at after q)
  pub moved : (e : Stop) → In e stopped → AreTypedBelow w e.need.now.numbers.items e.next →
      StopsAt after e.need.now ⊎ (AreTyped w e.need.now.numbers.items × In e.need.now.rule ready)
  pub within : (k : ℕ) → In k ready → k < length w.typed.items

-- a number takes a type: each clause that stopped there stops at a later name, or its rule is ready
pub record GivesType (w after : Stops) (number : ℕ) (ready : List ℕ) : Type 0 where
  pub stops : IsStops after
  pub count : length after.typed.items ≡ length w.typed.items
  pub typed : (q : ℕ) → typed_at after q ≡ ((number == q) || typed_at w q)
  pub settled : (n : Need) → Settled w n →
      StopsAt after n ⊎ (AreTyped after n.numbers.items × (AreTyped w n.numbers.items ⊎ In n.rule ready))
  pub within : (k : ℕ) → In k ready → k < length w.typed.items

-- so many numbers without types, and no clause
pub record AreUntyped (w : Stops) (numbers : ℕ) : Type 0 where
  pub stops : IsStops w
  pub count : length w.typed.items ≡ numbers
  pub none : (q : ℕ) → typed_at w q ≡ false

-- the clauses, each at its beginning
pub record AreAtBeginnings (needs : List Need) (stops : List Stop) : Type 0 where
  pub all : (n : Need) → In n needs → (e : Stop) × In e stops × (e.need.now ≡ n) × (e.next ≡ 0)
  pub only : (e : Stop) → In e stops → In e.need.now needs

-- no number has a type, and each clause stopped, or has no name and its rule is ready
pub record BeginsUntyped (w : Stops) (numbers : ℕ) (needs : List Need) (ready : List ℕ) : Type 0 where
  pub stops : IsStops w
  pub count : length w.typed.items ≡ numbers
  pub none : (q : ℕ) → typed_at w q ≡ false
  pub settled : (n : Need) → In n needs → StopsAt w n ⊎ (AreTyped w n.numbers.items × In n.rule ready)
  pub within : (k : ℕ) → In k ready → k < numbers
