-- Macros with several levels.
use Rattle.std.specs.Prelude.{◌&&◌, List, []}
use Rattle.lalrpop_norm_tree.specs.Items.{RuleData, ItemData, match_item, extern_item, intern_item, rule_item, use_item}
use Rattle.lalrpop_norm_faults.specs.declared.kind.FaultKind.TheVariants.{NotNonterminal}
use Rattle.lalrpop_norm_faults.specs.Faults.{Fault, fault_if}
use Rattle.lalrpop_norm_tree.specs.Accessors.{is_macro}
use Rattle.lalrpop_norm_precedence_steps.specs.LevelFaults.{has_several_levels}

-- F29 at a macro with two levels or more
abbrev pub macro_level_faults : RuleData → List Fault
macro_level_faults r = fault_if (is_macro r && has_several_levels r) (NotNonterminal, r.span)

unfoldable pub macro_item_faults : ItemData → List Fault
macro_item_faults (rule_item r) = macro_level_faults r
macro_item_faults (match_item m) = []
macro_item_faults (extern_item t) = []
macro_item_faults (intern_item t) = []
macro_item_faults (use_item u) = []
