-- What lowering has made of the rules of a whole grammar.
use Rattle.std.specs.Prelude.{◌≡◌, ℕ, List, ◌++◌, map}
use Rattle.lalrpop_norm_tree.specs.Items.{RuleData}
use Rattle.lalrpop_norm_repr.specs.Tables.{TypeTable}
use Rattle.lalrpop_norm_shared_types.specs.Actions.{shared_action_view}
use Rattle.lalrpop_norm_lower.specs.declared.rules_with_actions.RulesWithActions.{RulesWithActions}
use Rattle.lalrpop_norm_lower.specs.LoweredRules.{IsProduced}
use Rattle.lalrpop_norm_lower.specs.Lowering.{public_rules_in}
use Rattle.lalrpop_norm_lower.specs.Made.{made_starts, made_actions}
use Rattle.lalrpop_norm_lower.specs.Starts.{typed_row}
use Rattle.lalrpop_norm_lower.specs.StartTypes.{start_types}

-- of these rules, under that prefix, by that table of their types
pub record AreRulesWithActions (prefix : List ℕ) (types : TypeTable) (rules : List RuleData) (m : RulesWithActions) : Type 0 where
  pub produced : IsProduced prefix rules m.produced
  pub actions : map shared_action_view m.actions.items
      ≡ made_starts prefix types (public_rules_in rules) ++ made_actions prefix types rules
  pub start_types : map typed_row m.start_types.items ≡ start_types prefix types (public_rules_in rules)
