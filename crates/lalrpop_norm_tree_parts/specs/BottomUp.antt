-- Walks over a lowered type that call at each type after its parts, in reading order, until a call or an allocation fails.
use Rattle.std.specs.Prelude.{◌≡◌, Result, Ok, Err, ◌⊎◌}
use Rattle.std.specs.Fn.{Mut, Called}
use Rattle.lalrpop_norm_tree_parts.specs.declared.lowered.TypeRepr.{TypeRepr}
use Rattle.lalrpop_norm_tree_parts.specs.Reprs.{ReprData, Reprs, MaybeRepr, tuple, slice, nominal, associated, of_lifetime}
use Rattle.lalrpop_norm_tree_parts.specs.Reprs.{reference, trait_object, function, no_reprs, repr_and, no_repr, returns, repr_view}

-- what a walk may answer from a state on, and the state that it leaves
abbrev pub Walk : Type 0 → Type 0 → Type 0 → Type 1
Walk S E A = S → Result A E → S → Type 0

infixr 20 ◌▸◌
-- W and then K of its answer; if W ends with an error, the sequence ends with it
abbrev pub ◌▸◌ : {S E A B : Type 0} → Walk S E A → (A → Walk S E B) → Walk S E B
◌▸◌ {S} {E} {A} W K s (Ok b) s' = (a : A) × (r : S) × W s (Ok a) r × K a r (Ok b) s'
◌▸◌ {S} {E} {A} W K s (Err e) s' = W s (Err e) s' ⊎ ((a : A) × (r : S) × W s (Ok a) r × K a r (Err e) s')

-- a, with no call; or the allocation for it fails
abbrev pub made : {S E A : Type 0} → (E → Type 0) → A → Walk S E A
made OfMemory a s (Ok b) s' = (b ≡ a) × (s' ≡ s)
made OfMemory a s (Err e) s' = OfMemory e × (s' ≡ s)

-- over calls at types, and the errors of failed allocations
module _ {S E : Type 0} (call : ReprData → Walk S E ReprData) (OfMemory : E → Type 0) where
  abbrev mutual
    -- the type with each of its parts walked, from left to right
    pub inside_type : ReprData → Walk S E ReprData
    inside_type (tuple ts) = all_inside ts ▸ λ us. made OfMemory (tuple us)
    inside_type (slice t) = (inside_type t ▸ call) ▸ λ u. made OfMemory (slice u)
    inside_type (nominal p ts) = all_inside ts ▸ λ us. made OfMemory (nominal p us)
    inside_type (associated a b) = made OfMemory (associated a b)
    inside_type (of_lifetime l) = made OfMemory (of_lifetime l)
    inside_type (reference l m t) = (inside_type t ▸ call) ▸ λ u. made OfMemory (reference l m u)
    inside_type (trait_object p ts) = all_inside ts ▸ λ us. made OfMemory (trait_object p us)
    inside_type (function fs p ts r) = all_inside ts ▸ λ us. return_inside r ▸ λ v. made OfMemory (function fs p us v)

    pub all_inside : Reprs → Walk S E Reprs
    all_inside no_reprs = made OfMemory no_reprs
    all_inside (repr_and t ts) = (inside_type t ▸ call) ▸ λ u. all_inside ts ▸ λ us. made OfMemory (repr_and u us)

    pub return_inside : MaybeRepr → Walk S E MaybeRepr
    return_inside no_repr = made OfMemory no_repr
    return_inside (returns t) = (inside_type t ▸ call) ▸ λ u. made OfMemory (returns u)

  -- the parts of the type are walked, and then a call is made at the type of their answers
  abbrev pub bottom_up : ReprData → Walk S E ReprData
  bottom_up t = inside_type t ▸ call

-- what is answered, with v of the value
abbrev pub answered_as : {A B E : Type 0} → (A → B) → Result A E → Result B E
answered_as v (Ok a) = Ok (v a)
answered_as v (Err e) = Err e

-- a call of f at a type that is seen as t, and its answer seen
pub record CalledAtRepr {F E : Type 0} (g : Mut F (TypeRepr × Unit {0}) (Result TypeRepr E))
    (t : ReprData) (f : F) (r : Result ReprData E) (f' : F) : Type 0 where
  pub shown : TypeRepr
  pub shows : repr_view shown ≡ t
  pub answer : Result TypeRepr E
  pub is_seen : answered_as repr_view answer ≡ r
  pub called : Called g f (shown, tt) answer f'
