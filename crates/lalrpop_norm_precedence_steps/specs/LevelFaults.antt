-- Faults of the levels of a rule, in visiting order. Disabled alternatives are not in the rule that is looked at.
use Rattle.std.specs.Prelude.{ℕ, ◌^◌, Bool, true, false, ◌&&◌, ◌||◌, List, [], ◌∷◌, ◌++◌, length, map}
use Rattle.std.specs.Prelude.{flat_map, Option, Some, None, unwrap_or, is_some, is_none, nat_lt, nat_eq, codes}
use Rattle.std.specs.Prelude.{if◌then◌else◌}
use Rattle.lalrpop_norm_tree_names.specs.declared.names.Span.{Span}
use Rattle.lalrpop_norm_tree_parts.specs.Attributes.{AttributeData, attribute}
use Rattle.lalrpop_norm_tree.specs.Items.{AlternativeData, RuleData, ItemData, GrammarData, match_item, extern_item, intern_item}
use Rattle.lalrpop_norm_tree.specs.Items.{rule_item, use_item}
use Rattle.lalrpop_norm_faults.specs.declared.kind.FaultKind.TheVariants.{MissingLevel, LevelArgument, LevelNumber, SideArgument}
use Rattle.lalrpop_norm_faults.specs.declared.kind.FaultKind.TheVariants.{Side, SideOnLowest}
use Rattle.lalrpop_norm_faults.specs.Faults.{Fault, fault_if}
use Rattle.lalrpop_norm_model.specs.Enabled.{all_places, present}
use Rattle.lalrpop_norm_model.specs.Levels.{left, right, neither, every, Leveled, first_named, value_under, number_of, side_named}
use Rattle.lalrpop_norm_model.specs.Levels.{stated_level, stated_side, has_levels, with_levels, levels_of}
use Rattle.lalrpop_norm_model.specs.Levels as levels

-- the span of the name of an attribute
abbrev pub name_span : AttributeData → Span
name_span (attribute s n x) = s

-- ---- the first alternative

-- in a rule with levels the first alternative has a `precedence`
abbrev pub missing_level_faults : List AlternativeData → List Fault
missing_level_faults [] = []
missing_level_faults (a ∷ rest) =
    fault_if (has_levels (map Some (a ∷ rest))
    && is_none (first_named (codes "precedence") a.attributes)) (MissingLevel, a.span)

-- ---- each alternative: its first `precedence`, then its first `assoc`

abbrev pub level_number_faults : Option (List ℕ) → Span → List Fault
level_number_faults None s = (LevelArgument, s) ∷ []
level_number_faults (Some text) s = fault_if (is_none (number_of (2 ^ 32) text)) (LevelNumber, s)

abbrev pub level_argument_faults : Option AttributeData → List Fault
level_argument_faults None = []
level_argument_faults (Some a) = level_number_faults (value_under (codes "level") a) (name_span a)

abbrev pub side_text_faults : Option (List ℕ) → Span → List Fault
side_text_faults None s = (SideArgument, s) ∷ []
side_text_faults (Some text) s = fault_if (is_none (side_named text)) (Side, s)

abbrev pub side_argument_faults : Option AttributeData → List Fault
side_argument_faults None = []
side_argument_faults (Some a) = side_text_faults (value_under (codes "side") a) (name_span a)

unfoldable pub level_attribute_faults : AlternativeData → List Fault
level_attribute_faults a =
    level_argument_faults (first_named (codes "precedence") a.attributes)
    ++ side_argument_faults (first_named (codes "assoc") a.attributes)

-- ---- the lowest level

abbrev pub lesser_level : ℕ → Option ℕ → ℕ
lesser_level l None = l
lesser_level l (Some m) = if nat_lt m l then m else l

abbrev pub least : List ℕ → Option ℕ
least [] = None
least (l ∷ ls) = Some (lesser_level l (least ls))

-- the least level that an alternative has
abbrev pub lowest_level : List (Option Leveled) → ℕ
lowest_level ps = unwrap_or (least (map (λ (a : Leveled). a.level) (present ps))) 0

-- an associativity that leaves the previous level to some recursive occurrence
abbrev pub is_narrow : Option levels.Side → Bool
is_narrow None = false
is_narrow (Some left) = true
is_narrow (Some right) = true
is_narrow (Some neither) = true
is_narrow (Some every) = false

-- an alternative that states the lowest level states no associativity; one that inherits that level states none but `all`
abbrev pub is_barred : AlternativeData → Bool
is_barred a = is_some (stated_level a.attributes) || is_narrow (stated_side a.attributes)

abbrev pub barred_faults : AlternativeData → Option AttributeData → List Fault
barred_faults a None = []
barred_faults a (Some x) = fault_if (is_barred a) (SideOnLowest, name_span x)

unfoldable pub lowest_faults : ℕ → ℕ → AlternativeData → List Fault
lowest_faults lowest level a = if nat_eq level lowest then barred_faults a (first_named (codes "assoc") a.attributes) else []

abbrev pub lowest_level_faults : List (Option Leveled) → List Fault
lowest_level_faults ps = flat_map (λ (a : Leveled). lowest_faults (lowest_level ps) a.level a.alternative) (present ps)

-- ---- the rule

abbrev pub level_faults : RuleData → List Fault
level_faults r =
    missing_level_faults r.alternatives ++ flat_map level_attribute_faults r.alternatives
    ++ lowest_level_faults (with_levels (all_places r))

-- the level and the associativity of each alternative
abbrev pub levels_and_sides : RuleData → List (ℕ × levels.Side)
levels_and_sides r = map (λ (a : Leveled). (a.level, a.side)) (present (with_levels (all_places r)))

-- a rule with two levels or more
abbrev pub has_several_levels : RuleData → Bool
has_several_levels r = has_levels (all_places r) && nat_lt 1 (length (levels_of (with_levels (all_places r))))

-- ---- the grammar

abbrev pub item_level_faults : ItemData → List Fault
item_level_faults (rule_item r) = level_faults r
item_level_faults (match_item m) = []
item_level_faults (extern_item t) = []
item_level_faults (intern_item t) = []
item_level_faults (use_item u) = []

-- the rules in item order
abbrev pub grammar_level_faults : GrammarData → List Fault
grammar_level_faults g = flat_map item_level_faults g.items
