-- What the tokens of a text say, as `serde_json` reads them, and what is read from them.
use Rattle.std.specs.Prelude.{◌≡◌, ℕ, ◌≤◌, ◌^◌, ◌&&◌, nat_lt, map, List, [], ◌∷◌, length, Bool, true, false, Option, Some, None, MatchOption}
use Rattle.std.specs.List.{list_all}
use Rattle.json.specs.Token.{Token}
use Rattle.json.specs.Json.{value, items, members, parse_map}
use Rattle.serde_json.specs.Data.{Data, null, boolean, number, unsigned, string, array, object, Items, no_items, item, Members, no_members, member}
use Rattle.serde_json.specs.View.{items_of as to_items}
use Rattle.serde_json.specs.Read.{of_json, of_items, of_members, converted}

-- ---- words of contracts

-- the data that the tokens begin with, of no more levels than n, and the tokens behind it
abbrev pub data_of : ℕ → List Token → Option (Data × List Token)
data_of n ts = converted of_json (value n ts)

-- the items up to the bracket that closes their array, and the members up to the brace that closes their object
abbrev pub items_of : ℕ → List Token → Option (Items × List Token)
items_of n ts = converted of_items (items (value n) (length ts) ts)

abbrev pub members_of : ℕ → List Token → Option (Members × List Token)
members_of n ts = converted (λ ms. of_members ms no_members) (members (value n) (length ts) ts)

-- the tokens begin with data, from which o was made: the one of that form, or nothing, where the data is none that can be read
pub record IsRead {T : Type 0} (form : T → Data) (can : Data → Bool) (n : ℕ) (start rest : List Token) (o : Option T) : Type 0 where
  pub means : Data
  pub read : data_of n start ≡ Some (means, rest)
  pub made : MatchOption o (can means ≡ false) (λ x. means ≡ form x)

-- the value of a variant: its name over what it holds
abbrev pub under : List ℕ → Data → Data
under k d = object (member k d no_members)

-- a value that was read under a variant's name, of which the tokens begin with what it holds
pub record IsReadUnder {T : Type 0} (k : List ℕ) (form : T → Data) (can : Data → Bool) (n : ℕ) (start rest : List Token) (o : Option T) : Type 0 where
  pub means : Data
  pub read : data_of n start ≡ Some (means, rest)
  pub made : MatchOption o (can (under k means) ≡ false) (λ x. under k means ≡ form x)

abbrev pub is_text : Data → Bool
is_text (string s) = true
is_text _ = false

abbrev pub is_truth : Data → Bool
is_truth (boolean b) = true
is_truth _ = false

abbrev pub is_natural : Data → Bool
is_natural (number (unsigned n)) = true
is_natural _ = false

-- of sixteen bits
abbrev pub is_short : Data → Bool
is_short (number (unsigned n)) = nat_lt n (2 ^ 16)
is_short _ = false

abbrev pub is_object : Data → Bool
is_object (object ms) = true
is_object _ = false

abbrev pub is_array : Data → Bool
is_array (array ds) = true
is_array _ = false

-- null, or what is there
abbrev pub maybe_form : {X : Type 0} → (X → Data) → Option X → Data
maybe_form f None = null
maybe_form f (Some x) = f x

abbrev pub may_be : (Data → Bool) → Data → Bool
may_be can null = true
may_be can d = can d

-- the array of these
abbrev pub list_form : List Data → Data
list_form ds = array (to_items ds)

abbrev pub pass_all : (Data → Bool) → Items → Bool
pass_all can no_items = true
pass_all can (item d ds) = can d && pass_all can ds

abbrev pub is_list : (Data → Bool) → Data → Bool
is_list can (array ds) = pass_all can ds
is_list can _ = false

-- ---- the code's own words

-- what was made of the items so far: all of them, or one of them can't be read
abbrev pub AreMade : {T : Type 0} → (T → Data) → (Data → Bool) → Bool → List T → List Data → Type 0
AreMade form can true xs ds = ds ≡ map form xs
AreMade form can false xs ds = list_all can ds ≡ false

-- of the members of an object, whose tokens are `start`, those up to `rest` were read: they make these
pub record MembersSoFar (n : ℕ) (start rest : List Token) (found : Members) : Type 0 where
  pub fuel : ℕ
  pub enough : length rest ≤ fuel
  pub same : members_of n start ≡ converted (λ ms. of_members ms found) (members (value n) fuel rest)
  pub shorter : length rest ≤ length start

-- no members follow
abbrev pub NoMembers : ℕ → List Token → Type 0
NoMembers n ts = (fuel : ℕ) (found : Members) → length ts ≤ fuel → converted (λ ms. of_members ms found) (members (value n) fuel ts) ≡ None

abbrev pub items_before : List Data → Items → Items
items_before [] rest = rest
items_before (d ∷ ds) rest = item d (items_before ds rest)

-- of the items of an array, those that were read so far
pub record ItemsSoFar (n : ℕ) (start rest : List Token) (found : List Data) : Type 0 where
  pub fuel : ℕ
  pub enough : length rest ≤ fuel
  pub same : items_of n start ≡ parse_map (items_before found) (converted of_items (items (value n) fuel rest))
  pub shorter : length rest ≤ length start

abbrev pub NoItems : ℕ → List Token → Type 0
NoItems n ts = (fuel : ℕ) → converted of_items (items (value n) fuel ts) ≡ None
