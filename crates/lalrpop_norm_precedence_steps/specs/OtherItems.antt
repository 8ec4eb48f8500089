-- Items that are no rules.
use Rattle.std.specs.Prelude.{List, [], ◌∷◌}
use Rattle.lalrpop_norm_tree.specs.Items.{ItemData, match_item, extern_item, intern_item, rule_item, use_item}

-- the item, where it is no rule
abbrev pub other_items : ItemData → List ItemData
other_items (rule_item r) = []
other_items (match_item m) = match_item m ∷ []
other_items (extern_item t) = extern_item t ∷ []
other_items (intern_item t) = intern_item t ∷ []
other_items (use_item u) = use_item u ∷ []
