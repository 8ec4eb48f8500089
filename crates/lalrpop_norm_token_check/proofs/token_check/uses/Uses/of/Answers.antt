use Rattle.std.proofs.Common.{List, map, ap, ◌∙◌}
use Rattle.std.specs.List.{flat_map}
use Rattle.lalrpop_norm_tree.specs.declared.items.GrammarItem.{GrammarItem}
use Rattle.lalrpop_norm_tree.specs.Items.{RuleData, item_view}
use Rattle.lalrpop_norm_model.specs.PlainRules.{rule_of_item}
use Rattle.lalrpop_norm_common.specs.Uses.{places_in_alternatives}
use Rattle.lalrpop_norm_token_check.proofs.UseLemmas.{uses_of_rules}
use Rattle.lalrpop_norm_token_check.proofs.token_check.uses.Uses.of.Goals as goal

pub returns : goal.returns
returns c =
    ap (λ (items : List GrammarItem). places_in_alternatives (flat_map (λ (r : RuleData). r.alternatives) (flat_map rule_of_item (map item_view items)))) c.deref.ensures.value
    ∙ uses_of_rules (flat_map rule_of_item (map item_view c.args.grammar.now.items.items))
