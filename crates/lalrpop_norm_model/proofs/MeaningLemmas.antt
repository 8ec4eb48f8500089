-- The meaning of a grammar has numbers within the count, and levels one above the other.
use Rattle.std.proofs.Common.{◌≡◌, ◌⊎◌, ◌≢◌, inl, inr, ℕ, ◌<◌, ◌≤◌, List, Option, Some, None, Bool, true, false, not, ◌||◌, ◌&&◌, refl, sym, ap, arith}
use Rattle.std.specs.Prelude.{slice_get, nat_le, nat_eq, option_map, if◌then◌else◌}
use Rattle.std.proofs.lemmas.Bool.{cases_Bool, leb-true, le-leb, eqb-true, eq-eqb, or_right}
use Rattle.std.proofs.lemmas.Option.{slice_get_within}
use Rattle.lalrpop_norm_theory.specs.Symbols.{ClosedSymbols}
use Rattle.lalrpop_norm_theory.specs.Meaning.{HasCounts, HasLevels}
use Rattle.lalrpop_norm_model.specs.Levels.{Leveled, previous_level}
use Rattle.lalrpop_norm_model.specs.WrittenRules.{WrittenRule, rule_named}
use Rattle.lalrpop_norm_model.specs.Reading.{read_all}
use Rattle.lalrpop_norm_model.specs.Grammars.{has_arguments, level_within, is_within, is_own_level, rule_reader, parts_at, rule_parts, place_count, instance_count, previous_bound, depth_of, arguments_fit, is_true, macro_reader, instance_at, instance_parts, ConditionValue, meaning}
use Rattle.lalrpop_norm_model.specs.Laws.{MeaningsHaveLevels}
use Rattle.lalrpop_norm_model.proofs.LevelLemmas.{at_in, place_has_level, previous_is, has_previous}

-- ---- alternatives of rules

-- an alternative of a rule that passes, and what it is read as
pub record Passing (rs : List WrittenRule) (passes : WrittenRule → ℕ → Bool) (k : ℕ) (r : WrittenRule) (parts : ClosedSymbols) : Type 0 where
  pub is_rule : has_arguments r ≡ false
  pub alternative : Leveled
  pub there : slice_get r.places k ≡ Some (Some alternative)
  pub passing : passes r alternative.level ≡ true
  pub read : read_all (rule_reader rs r alternative) alternative.alternative.parts ≡ parts

at_place : (rs : List WrittenRule) (passes : WrittenRule → ℕ → Bool) (k : ℕ) (r : WrittenRule) (parts : ClosedSymbols) →
    has_arguments r ≡ false → (p : Option (Option Leveled)) → slice_get r.places k ≡ p → parts_at rs r (passes r) p ≡ Some parts → Passing rs passes k r parts
at_place rs passes k r parts m None e h = absurd (grind arith)
at_place rs passes k r parts m (Some None) e h = absurd (grind arith)
at_place rs passes k r parts m (Some (Some a)) e h = by (passes r a.level) refl h
  where
    by : (b : Bool) → passes r a.level ≡ b → (if b then Some (read_all (rule_reader rs r a) a.alternative.parts) else None) ≡ Some parts → Passing rs passes k r parts
    by true t h = record { is_rule = m; alternative = a; there = e; passing = t; read = cc h }
    by false t h = absurd (grind arith)

in_rule : (rs : List WrittenRule) (passes : WrittenRule → ℕ → Bool) (k : ℕ) (r : WrittenRule) (parts : ClosedSymbols) (b : Bool) → has_arguments r ≡ b →
    (if b then None else parts_at rs r (passes r) (slice_get r.places k)) ≡ Some parts → Passing rs passes k r parts
in_rule rs passes k r parts true m h = absurd (grind arith)
in_rule rs passes k r parts false m h = at_place rs passes k r parts m (slice_get r.places k) refl h

pub passing_of : (rs : List WrittenRule) (passes : WrittenRule → ℕ → Bool) (k : ℕ) (r : WrittenRule) (parts : ClosedSymbols) →
    rule_parts rs passes k (Some r) ≡ Some parts → Passing rs passes k r parts
passing_of rs passes k r parts h = in_rule rs passes k r parts (has_arguments r) refl h

-- the same alternative by another test that it passes
also_passing : (rs : List WrittenRule) (passes others : WrittenRule → ℕ → Bool) (k : ℕ) (r : WrittenRule) (parts : ClosedSymbols) →
    (h : Passing rs passes k r parts) → others r h.alternative.level ≡ true → rule_parts rs others k (Some r) ≡ Some parts
also_passing rs passes others k r parts h t = rw (h.is_rule, h.there, t) (ap Some h.read)

-- by a test that it does not pass
not_passing : (rs : List WrittenRule) (passes others : WrittenRule → ℕ → Bool) (k : ℕ) (r : WrittenRule) (parts : ClosedSymbols) →
    (h : Passing rs passes k r parts) → others r h.alternative.level ≡ false → rule_parts rs others k (Some r) ≡ None
not_passing rs passes others k r parts h t = rw (h.is_rule, h.there, t) refl

-- ---- levels of rules

-- a rule with a level below
pub record Lower (r : WrittenRule) (b c : Option ℕ) : Type 0 where
  pub leveled : r.has_levels ≡ true
  pub is_rule : has_arguments r ≡ false
  pub level : ℕ
  pub is : c ≡ Some level
  pub below : previous_level r.places (level_within r b) ≡ Some level

some_level_below : (o : Option ℕ) (c : Option ℕ) → option_map Some o ≡ Some c → (l : ℕ) × (o ≡ Some l) × (c ≡ Some l)
some_level_below None c h = absurd (grind arith)
some_level_below (Some l) c h = (l, refl, sym (cc h))

lower_by : (r : WrittenRule) (b c : Option ℕ) (x y : Bool) → r.has_levels ≡ x → has_arguments r ≡ y →
    (if x && not y then option_map Some (previous_level r.places (level_within r b)) else None) ≡ Some c → Lower r b c
lower_by r b c true false e m h =
    let s = some_level_below (previous_level r.places (level_within r b)) c h in
    record { leveled = e; is_rule = m; level = s.0; is = s.2; below = s.1 }
lower_by r b c true true e m h = absurd (grind arith)
lower_by r b c false y e m h = absurd (grind arith)

pub lower_of : (r : WrittenRule) (b c : Option ℕ) → previous_bound (Some r) b ≡ Some c → Lower r b c
lower_of r b c h = lower_by r b c r.has_levels (has_arguments r) refl refl h

-- levels within a bound, in a rule with levels
within_by : (r : WrittenRule) (b : Option ℕ) (l : ℕ) → r.has_levels ≡ true → is_within b r l ≡ true → l ≤ level_within r b
within_by r b l e h = let t : (not true || nat_le l (level_within r b)) ≡ true = rw e at h in leb-true l (level_within r b) t

within_from : (r : WrittenRule) (b : Option ℕ) (l : ℕ) → r.has_levels ≡ true → l ≤ level_within r b → is_within b r l ≡ true
within_from r b l e h = rw e (le-leb l (level_within r b) h)

not_own : (r : WrittenRule) (b : Option ℕ) (l : ℕ) → r.has_levels ≡ true → nat_eq l (level_within r b) ≡ false → is_own_level b r l ≡ false
not_own r b l e i = rw (e, i) refl

is_own : (r : WrittenRule) (b : Option ℕ) (l : ℕ) → nat_eq l (level_within r b) ≡ true → is_own_level b r l ≡ true
is_own r b l i = or_right (not r.has_levels) (nat_eq l (level_within r b)) i

own_within : (l m : ℕ) → nat_eq l m ≡ true → nat_le l m ≡ true
own_within l m e = le-leb l m (let same : l ≡ m = eqb-true l m e in omega arith)

previous_from : (r : WrittenRule) (b : Option ℕ) (l : ℕ) → r.has_levels ≡ true → has_arguments r ≡ false →
    previous_level r.places (level_within r b) ≡ Some l → previous_bound (Some r) b ≡ Some (Some l)
previous_from r b l e m h = rw (e, m) (ap (option_map Some) h)

other_number : (m n : ℕ) → m < n → nat_eq m n ≡ false
other_number m n l = elim (cases_Bool (nat_eq m n)) [ inl e ↦ absurd (let same : m ≡ n = eqb-true m n e in omega arith) | inr e ↦ e ]

unequal : (m n : ℕ) → nat_eq m n ≡ false → m ≢ n
unequal m n e i = let yes : nat_eq m n ≡ true = eq-eqb m n i in cc (e, yes)

or_within : (x y z : Bool) → (y ≡ true → z ≡ true) → (x || y) ≡ true → (x || z) ≡ true
or_within true y z f h = refl
or_within false y z f h = f h

-- ---- the fields, for the rule of a name

deeper_at : (o : Option WrittenRule) (b c : Option ℕ) → previous_bound o b ≡ Some c → depth_of o c < depth_of o b
deeper_at None b c h = absurd (grind arith)
deeper_at (Some r) b c h =
    let w = lower_of r b c h in
    rw w.is (previous_is r.places (level_within r b) w.level w.below).1

own_at : (rs : List WrittenRule) (b : Option ℕ) (k : ℕ) (parts : ClosedSymbols) (o : Option WrittenRule) →
    rule_parts rs (is_own_level b) k o ≡ Some parts → rule_parts rs (is_within b) k o ≡ Some parts
own_at rs b k parts None h = h
own_at rs b k parts (Some r) h =
    let p = passing_of rs (is_own_level b) k r parts h in
    also_passing rs (is_own_level b) (is_within b) k r parts p
    (or_within (not r.has_levels) (nat_eq p.alternative.level (level_within r b)) (nat_le p.alternative.level (level_within r b))
    (own_within p.alternative.level (level_within r b)) p.passing)

chained_at : (rs : List WrittenRule) (b c : Option ℕ) (k : ℕ) (parts : ClosedSymbols) (o : Option WrittenRule) → previous_bound o b ≡ Some c →
    rule_parts rs (is_within c) k o ≡ Some parts → rule_parts rs (is_within b) k o ≡ Some parts
chained_at rs b c k parts None q h = h
chained_at rs b c k parts (Some r) q h =
    let w = lower_of r b c q in
    let p = passing_of rs (is_within c) k r parts h in
    let most : p.alternative.level ≤ level_within r c = within_by r c p.alternative.level w.leveled p.passing in
    let is : level_within r c ≡ w.level = ap (level_within r) w.is in
    let less : w.level < level_within r b = (previous_is r.places (level_within r b) w.level w.below).1 in
    also_passing rs (is_within c) (is_within b) k r parts p (within_from r b p.alternative.level w.leveled (omega arith))

apart_at : (rs : List WrittenRule) (b c : Option ℕ) (k : ℕ) (parts : ClosedSymbols) (o : Option WrittenRule) → previous_bound o b ≡ Some c →
    rule_parts rs (is_within c) k o ≡ Some parts → rule_parts rs (is_own_level b) k o ≡ None
apart_at rs b c k parts None q h = refl
apart_at rs b c k parts (Some r) q h =
    let w = lower_of r b c q in
    let p = passing_of rs (is_within c) k r parts h in
    let most : p.alternative.level ≤ level_within r c = within_by r c p.alternative.level w.leveled p.passing in
    let is : level_within r c ≡ w.level = ap (level_within r) w.is in
    let less : w.level < level_within r b = (previous_is r.places (level_within r b) w.level w.below).1 in
    not_passing rs (is_within c) (is_own_level b) k r parts p (not_own r b p.alternative.level w.leveled (other_number p.alternative.level (level_within r b) (omega arith)))

-- what is within a bound is the bound's own or within the one below
abbrev SplitAt : List WrittenRule → Option ℕ → ℕ → ClosedSymbols → Option WrittenRule → Type 0
SplitAt rs b k parts o =
    (rule_parts rs (is_own_level b) k o ≡ Some parts) ⊎
    ((c : Option ℕ) × (rule_parts rs (is_own_level b) k o ≡ None) × (previous_bound o b ≡ Some c) × (rule_parts rs (is_within c) k o ≡ Some parts))

split_by : (rs : List WrittenRule) (b : Option ℕ) (k : ℕ) (parts : ClosedSymbols) (r : WrittenRule) (p : Passing rs (is_within b) k r parts) →
    (x y : Bool) → r.has_levels ≡ x → nat_eq p.alternative.level (level_within r b) ≡ y → SplitAt rs b k parts (Some r)
split_by rs b k parts r p false y e i = inl (also_passing rs (is_within b) (is_own_level b) k r parts p (rw e refl))
split_by rs b k parts r p true true e i = inl (also_passing rs (is_within b) (is_own_level b) k r parts p (is_own r b p.alternative.level i))
split_by rs b k parts r p true false e i =
    let most : p.alternative.level ≤ level_within r b = within_by r b p.alternative.level e p.passing in
    let differ : p.alternative.level ≢ level_within r b = unequal p.alternative.level (level_within r b) i in
    let place = at_in r.places k (Some p.alternative) p.there in
    let is_level = place_has_level r.places p.alternative place in
    let lower = has_previous r.places (level_within r b) p.alternative.level is_level (omega arith) in
    let below = previous_is r.places (level_within r b) lower.0 lower.1 in
    inr (
      Some lower.0,
      not_passing rs (is_within b) (is_own_level b) k r parts p (not_own r b p.alternative.level e i),
      previous_from r b lower.0 e p.is_rule lower.1,
      also_passing rs (is_within b) (is_within (Some lower.0)) k r parts p
          (within_from r (Some lower.0) p.alternative.level e (below.2 p.alternative.level is_level (omega arith))),
    )

split_at : (rs : List WrittenRule) (b : Option ℕ) (k : ℕ) (parts : ClosedSymbols) (o : Option WrittenRule) →
    rule_parts rs (is_within b) k o ≡ Some parts → SplitAt rs b k parts o
split_at rs b k parts None h = absurd (grind arith)
split_at rs b k parts (Some r) h =
    let p = passing_of rs (is_within b) k r parts h in
    split_by rs b k parts r p r.has_levels (nat_eq p.alternative.level (level_within r b)) refl refl

pub meaning_has_levels : (value : ConditionValue) (rs : List WrittenRule) → HasLevels (meaning value rs)
meaning_has_levels value rs = record {
  deeper = λ n b c h. deeper_at (rule_named rs n) b c h;
  own = λ n b k parts h. own_at rs b k parts (rule_named rs n) h;
  chained = λ n b c k parts q h. chained_at rs b c k parts (rule_named rs n) q h;
  apart = λ n b c k parts q h. apart_at rs b c k parts (rule_named rs n) q h;
  split = λ n b k parts h. split_at rs b k parts (rule_named rs n) h;
}

-- ---- counts

rule_counted : (rs : List WrittenRule) (passes : WrittenRule → ℕ → Bool) (k : ℕ) (parts : ClosedSymbols) (o : Option WrittenRule) →
    rule_parts rs passes k o ≡ Some parts → k < place_count o
rule_counted rs passes k parts None h = absurd (grind arith)
rule_counted rs passes k parts (Some r) h =
    let p = passing_of rs passes k r parts h in slice_get_within r.places k (Some p.alternative) p.there

-- an alternative of a macro, and what it is read as
pub record Instance (value : ConditionValue) (rs : List WrittenRule) (args : ClosedSymbols) (k : ℕ) (r : WrittenRule) (parts : ClosedSymbols) : Type 0 where
  pub called : has_arguments r ≡ true
  pub fitting : arguments_fit r.args args ≡ true
  pub alternative : Leveled
  pub there : slice_get r.places k ≡ Some (Some alternative)
  pub holds : is_true value r.args args alternative.alternative.condition ≡ true
  pub read : read_all (macro_reader rs r args) alternative.alternative.parts ≡ parts

instance_here : (value : ConditionValue) (rs : List WrittenRule) (args : ClosedSymbols) (k : ℕ) (r : WrittenRule) (parts : ClosedSymbols) →
    has_arguments r ≡ true → arguments_fit r.args args ≡ true → (p : Option (Option Leveled)) → slice_get r.places k ≡ p → instance_at value rs r args p ≡ Some parts →
    Instance value rs args k r parts
instance_here value rs args k r parts m f None e h = absurd (grind arith)
instance_here value rs args k r parts m f (Some None) e h = absurd (grind arith)
instance_here value rs args k r parts m f (Some (Some a)) e h = by (is_true value r.args args a.alternative.condition) refl h
  where
    by : (b : Bool) → is_true value r.args args a.alternative.condition ≡ b →
        (if b then Some (read_all (macro_reader rs r args) a.alternative.parts) else None) ≡ Some parts → Instance value rs args k r parts
    by true t h = record { called = m; fitting = f; alternative = a; there = e; holds = t; read = cc h }
    by false t h = absurd (grind arith)

instance_by : (value : ConditionValue) (rs : List WrittenRule) (args : ClosedSymbols) (k : ℕ) (r : WrittenRule) (parts : ClosedSymbols) (x y : Bool) →
    has_arguments r ≡ x → arguments_fit r.args args ≡ y → (if x && y then instance_at value rs r args (slice_get r.places k) else None) ≡ Some parts →
    Instance value rs args k r parts
instance_by value rs args k r parts true true m f h = instance_here value rs args k r parts m f (slice_get r.places k) refl h
instance_by value rs args k r parts true false m f h = absurd (grind arith)
instance_by value rs args k r parts false y m f h = absurd (grind arith)

pub instance_of : (value : ConditionValue) (rs : List WrittenRule) (args : ClosedSymbols) (k : ℕ) (r : WrittenRule) (parts : ClosedSymbols) →
    instance_parts value rs args k (Some r) ≡ Some parts → Instance value rs args k r parts
instance_of value rs args k r parts h = instance_by value rs args k r parts (has_arguments r) (arguments_fit r.args args) refl refl h

macro_counted : (value : ConditionValue) (rs : List WrittenRule) (args : ClosedSymbols) (k : ℕ) (parts : ClosedSymbols) (o : Option WrittenRule) →
    instance_parts value rs args k o ≡ Some parts → k < instance_count o
macro_counted value rs args k parts None h = absurd (grind arith)
macro_counted value rs args k parts (Some r) h =
    let p = instance_of value rs args k r parts h in rw p.called (slice_get_within r.places k (Some p.alternative) p.there)

pub meaning_has_counts : (value : ConditionValue) (rs : List WrittenRule) → HasCounts (meaning value rs)
meaning_has_counts value rs = record {
  of_rules = λ n b k parts h. rule_counted rs (is_own_level b) k parts (rule_named rs n) h;
  of_calls = λ n args k parts h. macro_counted value rs args k parts (rule_named rs n) h;
}

pub meanings_have_levels : MeaningsHaveLevels
meanings_have_levels value rs = (meaning_has_counts value rs, meaning_has_levels value rs)
