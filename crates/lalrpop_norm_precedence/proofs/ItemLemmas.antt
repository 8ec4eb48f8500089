-- An item by the rule that it is, or as none; and macros.
use Rattle.std.proofs.Common.{◌≡◌, ℕ, Bool, true, List, [], ◌++◌, map, Some, None, refl, ap, ◌∙◌, append-nil}
use Rattle.lalrpop_norm_tree.specs.Accessors.{rule_of, is_macro}
use Rattle.lalrpop_norm_tree.specs.Items.{RuleData, ItemData, match_item, extern_item, intern_item, rule_item, use_item}
use Rattle.lalrpop_norm_faults.specs.declared.kind.FaultKind.TheVariants.{NotNonterminal}
use Rattle.lalrpop_norm_faults.specs.Faults.{fault_if}
use Rattle.lalrpop_norm_model.specs.LevelRules.{level_rules, level_items}
use Rattle.lalrpop_norm_precedence_steps.specs.LevelFaults.{level_faults, item_level_faults, has_several_levels}
use Rattle.lalrpop_norm_precedence_steps.specs.OtherItems.{other_items}
use Rattle.lalrpop_norm_precedence.specs.MacroLevels.{macro_level_faults}
use Rattle.lalrpop_norm_precedence.specs.MadeNames.{rule_name, without_last, item_made_names}

is_rule : (i : ItemData) (r : RuleData) → Some r ≡ rule_of i → i ≡ rule_item r
is_rule (rule_item s) r h = ap rule_item (cc h)
is_rule (match_item m) r h = absurd (cc h)
is_rule (extern_item t) r h = absurd (cc h)
is_rule (intern_item t) r h = absurd (cc h)
is_rule (use_item u) r h = absurd (cc h)

-- a rule
pub rule_faults : (i : ItemData) (r : RuleData) → Some r ≡ rule_of i → item_level_faults i ≡ level_faults r
rule_faults i r h = ap item_level_faults (is_rule i r h)

pub rule_adds_none : (i : ItemData) (r : RuleData) (xs : List ItemData) → Some r ≡ rule_of i → xs ++ other_items i ≡ xs
rule_adds_none i r xs h = ap (λ j. xs ++ other_items j) (is_rule i r h) ∙ append-nil xs

pub rule_items : (i : ItemData) (r : RuleData) → Some r ≡ rule_of i → level_items i ≡ map rule_item (level_rules r)
rule_items i r h = ap level_items (is_rule i r h)

pub rule_names : (i : ItemData) (r : RuleData) → Some r ≡ rule_of i → item_made_names i ≡ map rule_name (without_last (level_rules r))
rule_names i r h = ap item_made_names (is_rule i r h)

-- any other item
pub no_faults : (i : ItemData) → None ≡ rule_of i → item_level_faults i ≡ []
no_faults (rule_item s) h = absurd (cc h)
no_faults (match_item m) h = refl
no_faults (extern_item t) h = refl
no_faults (intern_item t) h = refl
no_faults (use_item u) h = refl

pub as_it_is : (i : ItemData) → None ≡ rule_of i → other_items i ≡ level_items i
as_it_is (rule_item s) h = absurd (cc h)
as_it_is (match_item m) h = refl
as_it_is (extern_item t) h = refl
as_it_is (intern_item t) h = refl
as_it_is (use_item u) h = refl

pub names_none : (i : ItemData) (ns : List (List ℕ)) → None ≡ rule_of i → ns ++ item_made_names i ≡ ns
names_none (rule_item s) ns h = absurd (cc h)
names_none (match_item m) ns h = append-nil ns
names_none (extern_item t) ns h = append-nil ns
names_none (intern_item t) ns h = append-nil ns
names_none (use_item u) ns h = append-nil ns

-- a macro
pub several_in_macro : (r : RuleData) (b : Bool) → is_macro r ≡ true → b ≡ has_several_levels r → fault_if b (NotNonterminal, r.span) ≡ macro_level_faults r
several_in_macro r b m e = rw (m, e) refl
