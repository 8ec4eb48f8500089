use Rattle.std.proofs.Common.{◌≡◌, ◌||◌, ◌++◌, map, vec_len, reverse}
use Rattle.lalrpop_norm_tree.specs.Items.{item_view}
use Rattle.lalrpop_norm_repr.specs.Productions.{nonterminal_data_view}
use Rattle.lalrpop_norm_repr.specs.Tables.{rows}
use Rattle.lalrpop_norm_shared_types.specs.Actions.{shared_action_view}
use Rattle.lalrpop_norm_lower.specs.ActionContexts.{context_types}
use Rattle.lalrpop_norm_lower.specs.Carried.{uses_recovery}
use Rattle.lalrpop_norm_lower.specs.Lowering.{rule_rows, rules_among, sorted_onto}
use Rattle.lalrpop_norm_lower.specs.Made.{made_rules_faults, made_actions}
use Rattle.lalrpop_norm_lower.specs.State.{AreTypesFrom}
use Rattle.lalrpop_norm_lower.proofs.rules_with_actions.add_rules.Given as goal

abbrev pub invariant-loop-left : goal.invariant-loop-left
invariant-loop-left l =
    (made_rules_faults l.state.number (rules_among (map item_view (reverse l.left.items))) ≡ made_rules_faults l.initial.state.number (rules_among (map item_view l.fn.items.items)))
    × (sorted_onto (rows nonterminal_data_view l.state.nonterminals) (rule_rows l.state.number (rules_among (map item_view (reverse l.left.items)))) ≡ sorted_onto (rows nonterminal_data_view l.initial.state.nonterminals) (rule_rows l.initial.state.number (rules_among (map item_view l.fn.items.items))))
    × (map shared_action_view l.actions.items ++ made_actions l.context.prefix.now (context_types l.context) (rules_among (map item_view (reverse l.left.items))) ≡ map shared_action_view l.initial.actions.items ++ made_actions l.context.prefix.now (context_types l.context) (rules_among (map item_view l.fn.items.items)))
    × (vec_len l.actions ≡ l.state.number)
    × AreTypesFrom l.context.types.now l.number (rules_among (map item_view (reverse l.left.items)))
    × ((l.recovers || uses_recovery (rules_among (map item_view (reverse l.left.items)))) ≡ uses_recovery (rules_among (map item_view l.fn.items.items)))

abbrev pub decreases-loop-left : goal.decreases-loop-left
decreases-loop-left l = vec_len l.left
