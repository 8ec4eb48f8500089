use Rattle.std.proofs.Common.{List, Bor, [], ◌∷◌, map, arith}
use Rattle.lalrpop_norm_tree.specs.declared.items.GrammarItem.{GrammarItem}
use Rattle.lalrpop_norm_tree.specs.declared.items.NonterminalData.{NonterminalData}
use Rattle.lalrpop_norm_tree.specs.Items.{rule_view, item_view}
use Rattle.lalrpop_norm_lower.specs.Lowering.{rules_among, public_rules_in}
use Rattle.lalrpop_norm_common.proofs.ListLemmas.{next_collected}
use Rattle.lalrpop_norm_lower.proofs.LoopLemmas.{item_public}
use Rattle.lalrpop_norm_lower.proofs.rules.public_rules.Goals as goal

pub loop-item-preserved : goal.loop-item-preserved
loop-item-preserved c =
    let seen = λ (rs : List (Bor NonterminalData)). map (λ (r : Bor NonterminalData). rule_view r.now) rs in
    next_collected (λ (xs : List GrammarItem). public_rules_in (rules_among (map item_view xs))) (λ (x : GrammarItem). public_rules_in (rules_among (item_view x ∷ [])))
    (λ x xs. item_public (item_view x) (map item_view xs))
    c.args.items.now c.loop-item.item-index c.item-item.result (seen c.loop-item.chosen.items) (seen c.add_public.new.chosen.items) _
    (omega arith) c.item-item.is c.in_ok-add_public.ensures c.loop-item.invariant
