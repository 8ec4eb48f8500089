use Rattle.std.proofs.Common.{◌≡◌, None, take}
use Rattle.lalrpop_norm_tree.specs.Accessors.{first_of, match_token_of}
use Rattle.lalrpop_norm_tree.specs.Items.{item_view}
use Rattle.lalrpop_norm_tree.proofs.items.accessors.first_match.Given as goal

abbrev pub invariant-loop-item : goal.invariant-loop-item
invariant-loop-item l = first_of (λ i. match_token_of (item_view i)) (take l.item-index l.items) ≡ None
