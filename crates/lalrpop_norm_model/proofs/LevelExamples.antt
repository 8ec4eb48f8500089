-- Numbers and associativities that attributes state, the level and the associativity of each index, and the levels of a rule.
use Rattle.std.proofs.Common.{◌≡◌, ℕ, List, [], ◌∷◌, refl}
use Rattle.std.specs.Prelude.{◌^◌, true, false, Option, Some, None, option_map, codes, map}
use Rattle.lalrpop_norm_tree_parts.specs.Attributes.{AttributeData, attributes_of}
use Rattle.lalrpop_norm_tree.specs.Items.{AlternativeData}
use Rattle.lalrpop_norm_model.specs.Enabled.{PlacedAlternatives}
use Rattle.lalrpop_norm_model.specs.Levels.{number_of, stated_level, Side, left, right, neither, every, side_named, stated_side, has_levels, Leveled, with_levels, without_levels, levels_of, highest_level, previous_level}
use Rattle.lalrpop_norm_model.proofs.ExampleWords.{nowhere, bare_attribute, attribute_of, valued, precedence, assoc, cfg, feature, symbols, alternative}

-- ---- numbers

abbrev number : List ℕ → Option ℕ
number text = number_of (2 ^ 32) text

greatest_number : number (codes "4294967295") ≡ Some 4294967295
greatest_number = refl

past_the_greatest : number (codes "4294967296") ≡ None
past_the_greatest = refl

zero_is_read : number (codes "0") ≡ Some 0
zero_is_read = refl

plus_zero : number (codes "+0") ≡ Some 0
plus_zero = refl

leading_zeros : number (codes "+000000000000002") ≡ Some 2
leading_zeros = refl

plus_alone : number (codes "+") ≡ None
plus_alone = refl

two_plus : number (codes "++1") ≡ None
two_plus = refl

minus_zero : number (codes "-0") ≡ None
minus_zero = refl

empty_text : number (codes "") ≡ None
empty_text = refl

blank_before : number (codes " 1") ≡ None
blank_before = refl

blank_behind : number (codes "1 ") ≡ None
blank_behind = refl

-- the characters before 0 and after 9, and a letter
no_digits : map number (codes "/" ∷ (codes ":" ∷ (codes "1a" ∷ []))) ≡ None ∷ (None ∷ (None ∷ []))
no_digits = refl

-- the two bytes of a digit past ASCII
other_digit : number (217 ∷ (161 ∷ [])) ≡ None
other_digit = refl

-- a limit of 65535
greatest_limit : number_of (2 ^ 16) (codes "65535") ≡ Some 65535
greatest_limit = refl

past_the_greatest_limit : number_of (2 ^ 16) (codes "65536") ≡ None
past_the_greatest_limit = refl

-- ---- what attributes state

abbrev level : List AttributeData → Option ℕ
level xs = stated_level (attributes_of xs)

level_read : level (assoc (codes "left") ∷ (precedence (codes "7") ∷ [])) ≡ Some 7
level_read = refl

-- the bound of a level
greatest_level : level (precedence (codes "4294967295") ∷ []) ≡ Some 4294967295
greatest_level = refl

past_the_greatest_level : level (precedence (codes "4294967296") ∷ []) ≡ None
past_the_greatest_level = refl

-- the first of several counts, also where it is no number
first_level : level (precedence (codes "1") ∷ (precedence (codes "2") ∷ [])) ≡ Some 1
first_level = refl

first_is_no_number : level (precedence (codes "x") ∷ (precedence (codes "2") ∷ [])) ≡ None
first_is_no_number = refl

-- `precedence(level="1", side="2")`: the first argument counts
first_argument : level (attribute_of (codes "precedence") (valued (codes "level") (codes "1") ∷ (valued (codes "side") (codes "2") ∷ [])) ∷ []) ≡ Some 1
first_argument = refl

second_argument : level (attribute_of (codes "precedence") (valued (codes "side") (codes "2") ∷ (valued (codes "level") (codes "1") ∷ [])) ∷ []) ≡ None
second_argument = refl

-- `precedence`, `precedence()`, `precedence = "1"`, `precedence(level)`, `level = "1"`
no_levels : map (λ x. level (x ∷ []))
    (bare_attribute (codes "precedence")
    ∷ (attribute_of (codes "precedence") []
    ∷ (valued (codes "precedence") (codes "1")
    ∷ (attribute_of (codes "precedence") (bare_attribute (codes "level") ∷ [])
    ∷ (valued (codes "level") (codes "1") ∷ [])))))
    ≡ None ∷ (None ∷ (None ∷ (None ∷ (None ∷ []))))
no_levels = refl

all_sides : map side_named (codes "left" ∷ (codes "right" ∷ (codes "none" ∷ (codes "all" ∷ (codes "both" ∷ (codes "Left" ∷ []))))))
    ≡ Some left ∷ (Some right ∷ (Some neither ∷ (Some every ∷ (None ∷ (None ∷ [])))))
all_sides = refl

side_read : stated_side (attributes_of (precedence (codes "1") ∷ (assoc (codes "right") ∷ (assoc (codes "left") ∷ [])))) ≡ Some right
side_read = refl

-- `assoc(level="left")`
side_under_other_key : stated_side (attributes_of (attribute_of (codes "assoc") (valued (codes "level") (codes "left") ∷ []) ∷ [])) ≡ None
side_under_other_key = refl

-- ---- indices

-- an alternative with such attributes
abbrev with : List AttributeData → Option AlternativeData
with xs = Some (alternative nowhere xs (symbols []))

-- the level and the associativity of each index
abbrev level_and_side : Leveled → ℕ × Side
level_and_side a = (a.level, a.side)

abbrev read : PlacedAlternatives → List (Option (ℕ × Side))
read ps = map (option_map level_and_side) (with_levels ps)

-- level and associativity are inherited, and a new level sets the associativity back to `all`
inherited : read
    (with (precedence (codes "1") ∷ [])
    ∷ (with (precedence (codes "2") ∷ (assoc (codes "left") ∷ []))
    ∷ (with []
    ∷ (with (precedence (codes "3") ∷ [])
    ∷ (with [] ∷ [])))))
    ≡ Some (1, every) ∷ (Some (2, left) ∷ (Some (2, left) ∷ (Some (3, every) ∷ (Some (3, every) ∷ []))))
inherited = refl

-- so does the same level stated again
level_again : read (with (precedence (codes "2") ∷ (assoc (codes "none") ∷ [])) ∷ (with (precedence (codes "2") ∷ []) ∷ []))
    ≡ Some (2, neither) ∷ (Some (2, every) ∷ [])
level_again = refl

-- an associativity without a level takes the level before it, and is inherited
side_alone : read (with (precedence (codes "2") ∷ (assoc (codes "left") ∷ [])) ∷ (with (assoc (codes "right") ∷ []) ∷ (with [] ∷ [])))
    ≡ Some (2, left) ∷ (Some (2, right) ∷ (Some (2, right) ∷ []))
side_alone = refl

-- on one alternative the order of the two does not matter
side_before_level : read (with (precedence (codes "1") ∷ []) ∷ (with (assoc (codes "left") ∷ (precedence (codes "2") ∷ [])) ∷ (with [] ∷ [])))
    ≡ Some (1, every) ∷ (Some (2, left) ∷ (Some (2, left) ∷ []))
side_before_level = refl

-- a disabled alternative states nothing, and keeps its index
disabled_between : read (with (precedence (codes "1") ∷ []) ∷ (None ∷ (with [] ∷ (with (precedence (codes "0") ∷ []) ∷ []))))
    ≡ Some (1, every) ∷ (None ∷ (Some (1, every) ∷ (Some (0, every) ∷ [])))
disabled_between = refl

-- of two `precedence` on one alternative the second is not read
second_precedence : read (with (precedence (codes "1") ∷ (precedence (codes "2") ∷ [])) ∷ (with [] ∷ []))
    ≡ Some (1, every) ∷ (Some (1, every) ∷ [])
second_precedence = refl

-- where levels are not read, all alternatives have one
one_level : map (option_map level_and_side) (without_levels (with (precedence (codes "3") ∷ (assoc (codes "left") ∷ [])) ∷ (None ∷ [])))
    ≡ Some (0, every) ∷ (None ∷ [])
one_level = refl

-- ---- the levels of a rule

levels_stated : has_levels (with [] ∷ (with (cfg (feature (codes "f")) ∷ (precedence (codes "1") ∷ [])) ∷ [])) ≡ true
levels_stated = refl

side_stated : has_levels (with (assoc (codes "all") ∷ []) ∷ []) ≡ true
side_stated = refl

disabled_levels : has_levels (None ∷ (with (cfg (feature (codes "f")) ∷ []) ∷ [])) ≡ false
disabled_levels = refl

abbrev of_levels : List (List ℕ) → List (Option Leveled)
of_levels texts = with_levels (map (λ t. with (precedence t ∷ [])) texts)

-- rising, each once, by their numbers and not by their texts
levels_rise : levels_of (of_levels (codes "10" ∷ (codes "+02" ∷ (codes "10" ∷ (codes "3" ∷ (codes "2" ∷ [])))))) ≡ 2 ∷ (3 ∷ (10 ∷ []))
levels_rise = refl

highest : highest_level (of_levels (codes "9" ∷ (codes "10" ∷ (codes "1" ∷ [])))) ≡ 10
highest = refl

-- the greatest lower level, for each level, and for a number between two
previous : map (previous_level (of_levels (codes "10" ∷ (codes "2" ∷ (codes "5" ∷ []))))) (10 ∷ (5 ∷ (2 ∷ (7 ∷ []))))
    ≡ Some 5 ∷ (Some 2 ∷ (None ∷ (Some 5 ∷ [])))
previous = refl

no_places : highest_level [] ≡ 0
no_places = refl
