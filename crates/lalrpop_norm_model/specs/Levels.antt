-- Precedence levels: the level and the associativity (`side`) of each enabled alternative, and the levels of a rule.
use Rattle.std.specs.Prelude.{ℕ, suc, ◌^◌, Bool, true, false, ◌&&◌, ◌||◌, List, [], ◌∷◌, length, map, take}
use Rattle.std.specs.Prelude.{Option, Some, None, option_map, option_and_then, unwrap_or, is_some, nat_lt, codes, bytes_eq}
use Rattle.std.specs.Prelude.{if◌then◌else◌}
use Rattle.std.specs.Char.{digit_value}
use Rattle.std.specs.Str.Parse.{digits_value, without_leading_plus}
use Rattle.std.specs.Ordering.{nat_cmp}
use Rattle.std.specs.BTreeSet.{insert_key}
use Rattle.lalrpop_norm_tree_parts.specs.Attributes.{AttributeData, Attributes, attribute, no_attributes, attribute_and}
use Rattle.lalrpop_norm_tree_parts.specs.Accessors.{key_and_value}
use Rattle.lalrpop_norm_tree.specs.Accessors.{or_else}
use Rattle.lalrpop_norm_tree.specs.Items.{AlternativeData}
use Rattle.lalrpop_norm_model.specs.Enabled.{PlacedAlternatives, present}

-- ---- what an alternative states

abbrev pub is_named : List ℕ → AttributeData → Bool
is_named name (attribute s n x) = bytes_eq n name

-- the first attribute of a name
abbrev pub first_named : List ℕ → Attributes → Option AttributeData
first_named name no_attributes = None
first_named name (attribute_and a rest) = if is_named name a then Some a else first_named name rest

-- the value of the first argument, if that argument is `key = ".."` for this key
abbrev pub value_under : List ℕ → AttributeData → Option (List ℕ)
value_under key a =
    option_and_then (λ (kv : List ℕ × List ℕ). if bytes_eq kv.0 key then Some kv.1 else None) (key_and_value a)

abbrev pub all_digits : List ℕ → Bool
all_digits [] = true
all_digits (c ∷ cs) = nat_lt (digit_value c) 10 && all_digits cs

abbrev pub number_in : ℕ → List ℕ → Option ℕ
number_in bound digits =
    if nat_lt 0 (length digits) && (all_digits digits && nat_lt (digits_value 10 digits) bound)
    then Some (digits_value 10 digits) else None

-- the number below the bound that a text is: decimal digits after one plus at most
abbrev pub number_of : ℕ → List ℕ → Option ℕ
number_of bound text = number_in bound (without_leading_plus text)

-- the level that an attribute list states: that of its first `precedence`
abbrev pub stated_level : Attributes → Option ℕ
stated_level attributes =
    option_and_then (number_of (2 ^ 32)) (option_and_then (value_under (codes "level"))
    (first_named (codes "precedence") attributes))

-- the associativity: on which side of an operator its own level may be: left, right, none, all
pub data Side : Type 0 where
  left : Side
  right : Side
  neither : Side
  every : Side

abbrev pub side_named : List ℕ → Option Side
side_named text =
    if bytes_eq text (codes "left") then Some left else
    (if bytes_eq text (codes "right") then Some right else
    (if bytes_eq text (codes "none") then Some neither else
    (if bytes_eq text (codes "all") then Some every else None)))

-- the associativity that an attribute list states: that of its first `assoc`
abbrev pub stated_side : Attributes → Option Side
stated_side attributes =
    option_and_then side_named (option_and_then (value_under (codes "side")) (first_named (codes "assoc") attributes))

abbrev pub level_stated : Option AlternativeData → Option ℕ
level_stated None = None
level_stated (Some a) = stated_level a.attributes

abbrev pub side_stated : Option AlternativeData → Option Side
side_stated None = None
side_stated (Some a) = stated_side a.attributes

-- ---- levels and associativities of indices

abbrev pub last_stated : {A : Type 0} → List (Option A) → Option A
last_stated [] = None
last_stated (x ∷ xs) = or_else (last_stated xs) x

abbrev pub some_states_level : PlacedAlternatives → Bool
some_states_level ps = is_some (last_stated (map level_stated ps))

-- the indices from the last one on that states a level; all, if none does
abbrev pub since_level : PlacedAlternatives → PlacedAlternatives
since_level [] = []
since_level (p ∷ ps) = if some_states_level ps then since_level ps else p ∷ ps

-- the indices up to k, itself included
abbrev pub up_to : ℕ → PlacedAlternatives → PlacedAlternatives
up_to k ps = take (suc k) ps

-- The level of an alternative: the one stated last at or before it. If there is none, which is an error in a rule with levels, 0.
abbrev pub level_at : PlacedAlternatives → ℕ → ℕ
level_at ps k = unwrap_or (last_stated (map level_stated (up_to k ps))) 0

-- The associativity of an alternative: the one stated last at or before it and not before its level; `all` if there is none.
abbrev pub side_at : PlacedAlternatives → ℕ → Side
side_at ps k = unwrap_or (last_stated (map side_stated (since_level (up_to k ps)))) every

-- ---- the levels of a rule

-- an alternative with an attribute on levels, of which `assoc` is one
abbrev pub has_level_attribute : AlternativeData → Bool
has_level_attribute a =
    is_some (first_named (codes "precedence") a.attributes) || is_some (first_named (codes "assoc") a.attributes)

-- a rule has levels if one of its enabled alternatives has `precedence` or `assoc`
abbrev pub has_levels : PlacedAlternatives → Bool
has_levels [] = false
has_levels (None ∷ ps) = has_levels ps
has_levels (Some a ∷ ps) = has_level_attribute a || has_levels ps

-- an enabled alternative with its level and associativity
pub record Leveled : Type 0 where
  pub level : ℕ
  pub side : Side
  pub alternative : AlternativeData

abbrev pub leveled_at : PlacedAlternatives → ℕ → Option AlternativeData → Option Leveled
leveled_at ps k None = None
leveled_at ps k (Some a) = Some (record { level = level_at ps k; side = side_at ps k; alternative = a })

-- f of each number and what is there, the first number being k
abbrev pub map_numbered : {A B : Type 0} → (ℕ → A → B) → ℕ → List A → List B
map_numbered f k [] = []
map_numbered f k (x ∷ xs) = f k x ∷ map_numbered f (suc k) xs

-- the enabled alternatives at their indices, each with its level and associativity
abbrev pub with_levels : PlacedAlternatives → List (Option Leveled)
with_levels ps = map_numbered (leveled_at ps) 0 ps

-- the enabled alternatives at their indices, with one level for all of them
abbrev pub without_levels : PlacedAlternatives → List (Option Leveled)
without_levels ps = map (option_map (λ a. record { level = 0; side = every; alternative = a })) ps

-- the levels that alternatives have, rising, each once
abbrev pub rising : List ℕ → List ℕ
rising [] = []
rising (l ∷ ls) = insert_key nat_cmp (rising ls) l

abbrev pub levels_of : List (Option Leveled) → List ℕ
levels_of ps = rising (map (λ (a : Leveled). a.level) (present ps))

-- the greater one of a number and another, if there is another
abbrev pub greater : ℕ → Option ℕ → ℕ
greater l None = l
greater l (Some m) = if nat_lt l m then m else l

-- the greatest of some numbers
abbrev pub greatest : List ℕ → Option ℕ
greatest [] = None
greatest (l ∷ ls) = Some (greater l (greatest ls))

abbrev pub below : ℕ → List ℕ → List ℕ
below l [] = []
below l (m ∷ ms) = if nat_lt m l then m ∷ below l ms else below l ms

abbrev pub highest_level : List (Option Leveled) → ℕ
highest_level ps = unwrap_or (greatest (levels_of ps)) 0

-- the previous level: the greatest lower one
abbrev pub previous_level : List (Option Leveled) → ℕ → Option ℕ
previous_level ps l = greatest (below l (levels_of ps))
