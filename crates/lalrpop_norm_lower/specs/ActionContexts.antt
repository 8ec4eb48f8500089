-- What actions are made by.
use Rattle.lalrpop_norm_tree.specs.Items.{AlternativeData}
use Rattle.lalrpop_norm_tree_parts.specs.Reprs.{ReprData}
use Rattle.lalrpop_norm_repr.specs.Actions.{ActionData}
use Rattle.lalrpop_norm_repr.specs.Tables.{TypeTable}
use Rattle.lalrpop_norm_lower.specs.declared.action_context.ActionContext.{ActionContext}
use Rattle.lalrpop_norm_lower.specs.Made.{made_action}
use Rattle.lalrpop_norm_lower.specs.State.{table_by_number}

-- the table of types that actions are made by
abbrev pub context_types : ActionContext → TypeTable
context_types context = table_by_number context.types.now

-- the action of an alternative of a rule of that type
abbrev pub action_by : ActionContext → ReprData → AlternativeData → ActionData
action_by context = made_action context.prefix.now (context_types context)
