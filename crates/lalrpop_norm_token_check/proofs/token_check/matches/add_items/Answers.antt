use Rattle.std.proofs.Common.{refl}
use Rattle.lalrpop_norm_token_check.specs.Found.{found_view, found_item_faults, with_item, found_items_faults, with_items}
use Rattle.lalrpop_norm_token_check.proofs.LoopLemmas.{exit_state}
use Rattle.lalrpop_norm_token_check.proofs.token_check.matches.add_items.Goals as goal

pub returns-in_err-add_item-clause-refuses : goal.returns-in_err-add_item-clause-refuses
returns-in_err-add_item-clause-refuses c =
    let p = c.args.precedence in
    let old = found_view c.loop-item.found in
    let x = c.item-item.result in
    exit_state (found_items_faults p) (with_items p) c.args.items.now c.loop-item.item-index x old c.loop-item-test.true c.item-item.is (found_item_faults old x) (with_item p old x) refl refl
    _ _ _ c.from_residual.ensures.1 c.in_err-add_item.ensures.refuses c.loop-item.invariant.refuses
