use Rattle.std.proofs.Common.{◌≡◌, ◌∙◌, ◌+◌, ◌++◌, ◌∷◌, ap, sym, arith, length, map, reverse}
use Rattle.std.proofs.lemmas.Grind.{common_steps}
use Rattle.std.proofs.lemmas.List.{append_assoc}
use Rattle.lalrpop_norm_faults.proofs.FaultLemmas.{exit_at}
use Rattle.lalrpop_norm_tree.specs.Items.{rule_view, item_view}
use Rattle.lalrpop_norm_repr.specs.Productions.{nonterminal_data_view}
use Rattle.lalrpop_norm_repr.specs.Tables.{rows}
use Rattle.lalrpop_norm_shared_types.specs.Actions.{shared_action_view}
use Rattle.lalrpop_norm_lower.specs.ActionContexts.{context_types, action_by}
use Rattle.lalrpop_norm_lower.specs.Lowering.{rule_type, rule_rows, rules_among, sorted_onto}
use Rattle.lalrpop_norm_lower.specs.Made.{alternatives_faults, made_rules_faults, made_actions}
use Rattle.lalrpop_norm_lower.proofs.LoopLemmas.{behind_none, rule_first}
use Rattle.lalrpop_norm_lower.proofs.NumberLemmas.{type_of_next, types_behind}
use Rattle.lalrpop_norm_lower.proofs.rules_with_actions.add_rules.Goals as goal
use Rattle.lalrpop_norm_lower.proofs.rules_with_actions.add_rules.Goals.{In-Ok}

-- the items that were left, and the rules among them
items_left : (c : In-Ok) → map item_view (reverse c.loop-left.left.items) ≡ item_view c.in-Some.item ∷ map item_view (reverse c.next_item.new.left.items)
items_left c = ap (map item_view) (rw c.in-Some.is at c.in_ok-item.ensures.next)

rules_left : (c : In-Ok) → rules_among (map item_view (reverse c.loop-left.left.items)) ≡ rule_view c.in-Ok.rule ∷ rules_among (map item_view (reverse c.next_item.new.left.items))
rules_left c = ap rules_among (items_left c) ∙ rule_first (item_view c.in-Some.item) (rule_view c.in-Ok.rule) (map item_view (reverse c.next_item.new.left.items)) c.in-Ok.ensures.rule

pub add_rule-requires-clause-ty : goal.add_rule-requires-clause-ty
add_rule-requires-clause-ty c =
    type_of_next c.args.context.now.types.now c.loop-left.number _ _ (rule_view c.in-Ok.rule) c.loop-left.invariant.4 (rules_left (goal.at.add_rule-requires-clause-ty c).In-Ok)

pub returns-in_err-add_rule-clause-refuses : goal.returns-in_err-add_rule-clause-refuses
returns-in_err-add_rule-clause-refuses c =
    let k = c.loop-left.state.number in
    let here = rule_view c.in-Ok.rule in
    exit_at _ _ (alternatives_faults k here.alternatives) (made_rules_faults (k + length here.alternatives) (rules_among (map item_view (reverse c.next_item.new.left.items))))
    (made_rules_faults c.args.state.now.number (rules_among (map item_view c.args.items.items)))
    c.from_residual-in_err-add_rule.ensures.1 c.in_err-add_rule.ensures.refuses
    (sym c.loop-left.invariant.0 ∙ ap (made_rules_faults k) (rules_left (goal.at.returns-in_err-add_rule-clause-refuses c).In-Ok))

pub loop-left-preserved-in-Ok : goal.loop-left-preserved-in-Ok
loop-left-preserved-in-Ok c =
    let invariant = c.loop-left.invariant in
    let context = c.args.context.now in
    let k = c.loop-left.state.number in
    let here = rule_view c.in-Ok.rule in
    let left = rules_among (map item_view (reverse c.next_item.new.left.items)) in
    let next = rules_left (goal.at.loop-left-preserved-in-Ok c).In-Ok in
    let ensures = c.in_ok-add_rule.ensures in
    let before = map shared_action_view c.loop-left.actions.items in
    let made = map (action_by context (rule_type (context_types context) here)) here.alternatives in
    let rest = made_actions context.prefix.now (context_types context) left in (
      ap (λ n. made_rules_faults n left) ensures.count ∙ behind_none (alternatives_faults k here.alternatives) _ _ ensures.refuses (ap (made_rules_faults k) (sym next) ∙ invariant.0),
      ap (λ n. sorted_onto (rows nonterminal_data_view c.add_rule.new.state.nonterminals) (rule_rows n left)) ensures.count
          ∙ ap (λ es. sorted_onto es (rule_rows (k + length here.alternatives) left)) ensures.table
          ∙ ap (λ rs. sorted_onto (rows nonterminal_data_view c.loop-left.state.nonterminals) (rule_rows k rs)) (sym next) ∙ invariant.1,
      ap (λ xs. xs ++ rest) ensures.adds ∙ append_assoc before made rest ∙ ap (λ rs. before ++ made_actions context.prefix.now (context_types context) rs) (sym next) ∙ invariant.2,
      ensures.numbers,
      types_behind context.types.now c.loop-left.number _ _ here invariant.4 next,
      grind (arith, common_steps, next, invariant.5, c.sees_error-recovers.ensures),
    )
