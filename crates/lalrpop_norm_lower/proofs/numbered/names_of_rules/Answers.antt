use Rattle.std.proofs.Common.{List, [], ◌∷◌, map, arith}
use Rattle.lalrpop_norm_tree.specs.declared.items.GrammarItem.{GrammarItem}
use Rattle.lalrpop_norm_tree.specs.Items.{RuleData, item_view}
use Rattle.lalrpop_norm_lower.specs.Lowering.{rules_among}
use Rattle.lalrpop_norm_common.proofs.ListLemmas.{next_collected}
use Rattle.lalrpop_norm_lower.proofs.LoopLemmas.{item_name}
use Rattle.lalrpop_norm_lower.proofs.numbered.names_of_rules.Goals as goal

pub loop-item-preserved : goal.loop-item-preserved
loop-item-preserved c =
    next_collected (λ (xs : List GrammarItem). map (λ (r : RuleData). r.name) (rules_among (map item_view xs))) (λ (x : GrammarItem). map (λ (r : RuleData). r.name) (rules_among (item_view x ∷ [])))
    (λ x xs. item_name (item_view x) (map item_view xs))
    c.args.items.now c.loop-item.item-index c.item-item.result c.loop-item.names.items c.add_name.new.names.items _
    (omega arith) c.item-item.is c.in_ok-add_name.ensures c.loop-item.invariant
