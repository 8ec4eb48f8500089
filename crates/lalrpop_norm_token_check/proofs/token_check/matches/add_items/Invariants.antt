use Rattle.std.proofs.Common.{◌≡◌, drop}
use Rattle.lalrpop_norm_token_check.specs.Found.{found_view, found_items_faults, with_items}
use Rattle.lalrpop_norm_token_check.proofs.token_check.matches.add_items.Given as goal

abbrev pub invariant-loop-item : goal.invariant-loop-item
invariant-loop-item l = record {
  refuses : found_items_faults l.precedence (found_view l.found) (drop l.item-index l.items) ≡ found_items_faults l.precedence (found_view l.initial.found) l.items;
  adds : with_items l.precedence (found_view l.found) (drop l.item-index l.items) ≡ with_items l.precedence (found_view l.initial.found) l.items;
}
