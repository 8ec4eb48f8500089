-- The rules of levels as they are generated, one after another.
use Rattle.std.specs.Prelude.{ℕ, false, List, [], ◌∷◌, ◌++◌, map, Option, Some, unwrap_or, codes}
use Rattle.std.specs.Prelude.{if◌then◌else◌}
use Rattle.lalrpop_norm_tree_parts.specs.declared.attribute.Attribute.{Attribute}
use Rattle.lalrpop_norm_tree_parts.specs.Attributes.{Attributes, attribute_view}
use Rattle.lalrpop_norm_tree.specs.Symbols.{Kind, nonterminal}
use Rattle.lalrpop_norm_tree.specs.Items.{AlternativeData, RuleData}
use Rattle.lalrpop_norm_model.specs.Levels.{Side, left, right, neither, every, Leveled, is_named, greatest}
use Rattle.lalrpop_norm_model.specs.ClosedTexts.{level_name}
use Rattle.lalrpop_norm_model.specs.LevelRules.{without_first, leveled_parts, is_own}
use Rattle.lalrpop_norm_precedence_steps.specs.Substitutions.{occurrence}
use Rattle.lalrpop_norm_precedence_steps.specs.Steps.{made_steps}
use Rattle.lalrpop_norm_precedence.specs.Grouped.{LevelGroup}

-- what a recursive occurrence becomes in an alternative of an associativity, by how many there are before and after it
abbrev pub kind_by_side : Side → Kind → Kind → ℕ → ℕ → Kind
kind_by_side left current below before after = occurrence (current, below) false before
kind_by_side right current below before after = occurrence (current, below) false after
kind_by_side neither current below before after = below
kind_by_side every current below before after = current

-- the attributes without the first one of a name
abbrev pub less_first : List ℕ → List Attribute → List Attribute
less_first name [] = []
less_first name (a ∷ rest) = if is_named name (attribute_view a) then rest else a ∷ less_first name rest

abbrev pub without_level_attributes : Attributes → Attributes
without_level_attributes xs = without_first (codes "assoc") (without_first (codes "precedence") xs)

-- an alternative with these two kinds for its recursive occurrences
unfoldable pub rewritten : RuleData → Kind → Kind → Leveled → AlternativeData
rewritten r current below a = record a.alternative {
  parts = leveled_parts (is_own r) (kind_by_side a.side current below) 0 0 a.alternative.parts;
  attributes = without_level_attributes a.alternative.attributes;
}

-- the name of a level, and that of the level below, if there is one
unfoldable pub made_alternative : RuleData → List ℕ → Option (List ℕ) → Leveled → AlternativeData
made_alternative r own below a = rewritten r (nonterminal own) (nonterminal (unwrap_or below own)) a

unfoldable pub made_rule : RuleData → List ℕ → Option (List ℕ) → List Leveled → RuleData
made_rule r own below xs = record r {
  name = record { 0 = own };
  alternatives = map (made_alternative r own below) xs ++ made_steps r below;
}

abbrev pub top_of : List LevelGroup → ℕ
top_of gs = unwrap_or (greatest (map (λ (g : LevelGroup). g.0) gs)) 0

-- the name of the level before the first of the groups is passed on
abbrev pub made_level_rules : RuleData → ℕ → Option (List ℕ) → List LevelGroup → List RuleData
made_level_rules r highest below [] = []
made_level_rules r highest below (g ∷ gs) =
    made_rule r (level_name r.name.0 highest g.0) below g.1 ∷ made_level_rules r highest (Some (level_name r.name.0 highest g.0)) gs
