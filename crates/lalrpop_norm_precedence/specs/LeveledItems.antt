-- Items that levels change.
use Rattle.std.specs.Prelude.{Bool, false}
use Rattle.lalrpop_norm_tree.specs.Items.{ItemData, match_item, extern_item, intern_item, rule_item, use_item}
use Rattle.lalrpop_norm_model.specs.Enabled.{all_places}
use Rattle.lalrpop_norm_model.specs.Levels.{has_levels}

-- a rule with levels
abbrev pub item_has_levels : ItemData → Bool
item_has_levels (rule_item r) = has_levels (all_places r)
item_has_levels (match_item m) = false
item_has_levels (extern_item t) = false
item_has_levels (intern_item t) = false
item_has_levels (use_item u) = false
