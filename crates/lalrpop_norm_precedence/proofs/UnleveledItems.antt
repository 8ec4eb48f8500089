-- Items without levels: no fault, themselves alone, and no name that is made.
use Rattle.std.proofs.Common.{◌≡◌, ℕ, List, [], ◌∷◌, ◌++◌, map, false, refl, ap, ap₂, ◌∙◌, append-nil}
use Rattle.std.specs.List.{flat_map, list_any}
use Rattle.lalrpop_norm_tree.specs.Items.{ItemData, match_item, extern_item, intern_item, rule_item, use_item}
use Rattle.lalrpop_norm_theory.proofs.BoolLemmas.{left_false, right_false}
use Rattle.lalrpop_norm_model.specs.LevelRules.{level_items}
use Rattle.lalrpop_norm_precedence_steps.specs.LevelFaults.{item_level_faults}
use Rattle.lalrpop_norm_precedence.specs.LeveledItems.{item_has_levels}
use Rattle.lalrpop_norm_precedence.specs.MadeNames.{rule_name, without_last, item_made_names}
use Rattle.lalrpop_norm_precedence.proofs.LevelNameLemmas.{no_level_rules}
use Rattle.lalrpop_norm_precedence.proofs.UnleveledLemmas.{no_level_faults}

pub unleveled_faults : (i : ItemData) → item_has_levels i ≡ false → item_level_faults i ≡ []
unleveled_faults (rule_item r) h = no_level_faults r h
unleveled_faults (match_item m) h = refl
unleveled_faults (extern_item t) h = refl
unleveled_faults (intern_item t) h = refl
unleveled_faults (use_item u) h = refl

pub unleveled_items : (i : ItemData) → item_has_levels i ≡ false → level_items i ≡ i ∷ []
unleveled_items (rule_item r) h = ap (map rule_item) (no_level_rules r h)
unleveled_items (match_item m) h = refl
unleveled_items (extern_item t) h = refl
unleveled_items (intern_item t) h = refl
unleveled_items (use_item u) h = refl

pub unleveled_names : (i : ItemData) → item_has_levels i ≡ false → item_made_names i ≡ []
unleveled_names (rule_item r) h = ap (λ rs. map rule_name (without_last rs)) (no_level_rules r h)
unleveled_names (match_item m) h = refl
unleveled_names (extern_item t) h = refl
unleveled_names (intern_item t) h = refl
unleveled_names (use_item u) h = refl

-- ---- where no item has levels

pub all_faults : (is : List ItemData) → list_any item_has_levels is ≡ false → flat_map item_level_faults is ≡ []
all_faults [] h = refl
all_faults (i ∷ is) h =
    ap₂ ◌++◌ (unleveled_faults i (left_false (item_has_levels i) (list_any item_has_levels is) h))
    (all_faults is (right_false (item_has_levels i) (list_any item_has_levels is) h))

pub all_items : (is : List ItemData) → list_any item_has_levels is ≡ false → flat_map level_items is ≡ is
all_items [] h = refl
all_items (i ∷ is) h =
    ap₂ ◌++◌ (unleveled_items i (left_false (item_has_levels i) (list_any item_has_levels is) h))
    (all_items is (right_false (item_has_levels i) (list_any item_has_levels is) h))

no_names : (is : List ItemData) → list_any item_has_levels is ≡ false → flat_map item_made_names is ≡ []
no_names [] h = refl
no_names (i ∷ is) h =
    ap₂ ◌++◌ (unleveled_names i (left_false (item_has_levels i) (list_any item_has_levels is) h))
    (no_names is (right_false (item_has_levels i) (list_any item_has_levels is) h))

pub all_names : (is : List ItemData) (ns : List (List ℕ)) → list_any item_has_levels is ≡ false → ns ++ flat_map item_made_names is ≡ ns
all_names is ns h = ap (λ ms. ns ++ ms) (no_names is h) ∙ append-nil ns
