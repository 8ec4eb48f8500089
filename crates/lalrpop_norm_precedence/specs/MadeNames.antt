-- The names that are generated for levels.
use Rattle.std.specs.Prelude.{ℕ, List, [], ◌∷◌, map, flat_map}
use Rattle.lalrpop_norm_tree.specs.Items.{RuleData, ItemData, GrammarData, match_item}
use Rattle.lalrpop_norm_tree.specs.Items.{extern_item, intern_item, rule_item, use_item}
use Rattle.lalrpop_norm_model.specs.LevelRules.{level_rules}

abbrev pub rule_name : RuleData → List ℕ
rule_name r = r.name.0

abbrev pub without_last : {A : Type 0} → List A → List A
without_last [] = []
without_last (x ∷ []) = []
without_last (x ∷ y ∷ ys) = x ∷ without_last (y ∷ ys)

-- the highest level keeps the name of the rule, each other one has a new name
abbrev pub item_made_names : ItemData → List (List ℕ)
item_made_names (rule_item r) = map rule_name (without_last (level_rules r))
item_made_names (match_item m) = []
item_made_names (extern_item t) = []
item_made_names (intern_item t) = []
item_made_names (use_item u) = []

abbrev pub grammar_made_names : GrammarData → List (List ℕ)
grammar_made_names g = flat_map item_made_names g.items
