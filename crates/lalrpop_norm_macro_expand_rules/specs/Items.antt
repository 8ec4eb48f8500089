-- The items of a round, read one by one: internal definitions, which no public contract clause mentions.
use Rattle.std.specs.Prelude.{List, [], ◌∷◌, map, if◌then◌else◌}
use Rattle.lalrpop_norm_tree.specs.Symbols.{Part}
use Rattle.lalrpop_norm_tree.specs.Items.{RuleData, ItemData, match_item, extern_item, intern_item, rule_item}
use Rattle.lalrpop_norm_tree.specs.Items.{use_item}
use Rattle.lalrpop_norm_model.specs.Grammars.{is_nil}
use Rattle.lalrpop_norm_model.specs.PlainRules.{met_in_rule, replaced_rule}
use Rattle.lalrpop_norm_nodes.specs.Waits.{parts_replaced}

-- an item with its symbols rewritten, and what is reached in it
abbrev pub replaced_item : ItemData → ItemData
replaced_item (rule_item r) = rule_item (replaced_rule r)
replaced_item (match_item m) = match_item m
replaced_item (extern_item t) = extern_item t
replaced_item (intern_item t) = intern_item t
replaced_item (use_item u) = use_item u

abbrev pub met_in_item : ItemData → List Part
met_in_item (rule_item r) = met_in_rule r
met_in_item (match_item m) = []
met_in_item (extern_item t) = []
met_in_item (intern_item t) = []
met_in_item (use_item u) = []

-- what is reached in an item, with the parts of each symbol rewritten
abbrev pub shown_in_item : ItemData → List Part
shown_in_item i = map parts_replaced (met_in_item i)

-- an item without macros, and the macro that it is
abbrev pub without_macro : ItemData → List ItemData
without_macro (rule_item r) = if is_nil r.args then rule_item r ∷ [] else []
without_macro (match_item m) = match_item m ∷ []
without_macro (extern_item t) = extern_item t ∷ []
without_macro (intern_item t) = intern_item t ∷ []
without_macro (use_item u) = use_item u ∷ []

abbrev pub macro_in : ItemData → List RuleData
macro_in (rule_item r) = if is_nil r.args then [] else r ∷ []
macro_in (match_item m) = []
macro_in (extern_item t) = []
macro_in (intern_item t) = []
macro_in (use_item u) = []
