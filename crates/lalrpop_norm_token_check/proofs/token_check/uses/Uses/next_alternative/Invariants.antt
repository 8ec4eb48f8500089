use Rattle.std.proofs.Common.{◌≡◌, length, map}
use Rattle.std.specs.List.{flat_map}
use Rattle.lalrpop_norm_tree.specs.Items.{item_view}
use Rattle.lalrpop_norm_model.specs.PlainRules.{rule_of_item}
use Rattle.lalrpop_norm_token_check.specs.Uses.{alternatives_left}
use Rattle.lalrpop_norm_token_check.proofs.token_check.uses.Uses.next_alternative.Given as goal

abbrev pub invariant-loop-alternative : goal.invariant-loop-alternative
invariant-loop-alternative l = record {
  gives : alternatives_left l.self ≡ alternatives_left l.initial.self;
  stays : l.self.symbols.now ≡ l.initial.self.symbols.now;
}

abbrev pub decreases-loop-alternative : goal.decreases-loop-alternative
decreases-loop-alternative l = length (flat_map rule_of_item (map item_view l.self.items.now))
