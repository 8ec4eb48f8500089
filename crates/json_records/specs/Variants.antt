-- Variants: a name alone, or an object whose one key is the name.
use Rattle.std.specs.Prelude.{◌≡◌, ℕ, List, Bool, true, false, Option, Some, None, MatchOption}
use Rattle.json.specs.Token.{Token}
use Rattle.serde_json.specs.Data.{Data, string, object, Members, no_members, member}
use Rattle.json_records.specs.Reading.{under, MembersSoFar}

-- ---- words of contracts

-- a text, or an object with one member
abbrev pub is_variant : Data → Bool
is_variant (string s) = true
is_variant (object (member k d no_members)) = true
is_variant _ = false

-- what was made of the data, which has that form; or nothing, where it can be read as nothing
abbrev pub Made : {T : Type 0} → (T → Data) → (Data → Bool) → Option T → Data → Type 0
Made form can o d = MatchOption o (can d ≡ false) (λ x. d ≡ form x)

-- ---- the code's own words

abbrev pub are_two : Members → Bool
are_two (member k d (member l e ms)) = true
are_two _ = false

-- of the members so far there is none, or one under the key, of which o was made; or there are strays
abbrev pub IsVariantOf : {T : Type 0} → (T → Data) → (Data → Bool) → Option (List ℕ) → Bool → Option T → Members → Type 0
IsVariantOf form can key true o ms = are_two ms ≡ true
IsVariantOf form can None false o ms = (ms ≡ no_members) × (o ≡ None)
IsVariantOf form can (Some k) false o ms = (d : Data) × (ms ≡ member k d no_members) × Made form can o (under k d)

pub record VariantSoFar {T : Type 0} (form : T → Data) (can : Data → Bool) (n : ℕ) (start rest : List Token) (key : Option (List ℕ)) (strays : Bool) (o : Option T) : Type 0 where
  pub found : Members
  pub so_far : MembersSoFar n start rest found
  pub is : IsVariantOf form can key strays o found
