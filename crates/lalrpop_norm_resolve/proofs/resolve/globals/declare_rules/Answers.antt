use Rattle.std.proofs.Common.{map, refl, arith}
use Rattle.std.specs.List.{flat_map}
use Rattle.lalrpop_norm_tree.specs.Items.{item_view}
use Rattle.lalrpop_norm_model.specs.Scopes.{rule_globals}
use Rattle.lalrpop_norm_resolve.specs.NameTables.{rows_of}
use Rattle.lalrpop_norm_resolve.proofs.TableLemmas.{step_rows, step_faults, exit_faults}
use Rattle.lalrpop_norm_resolve.proofs.resolve.globals.declare_rules.Goals as goal

pub loop-item-preserved : goal.loop-item-preserved
loop-item-preserved c =
    let told = c.in_ok-declare_rule.ensures in
    record {
      sound = step_faults (λ ys. flat_map rule_globals (map item_view ys)) (λ y. rule_globals (item_view y)) (λ y ys. refl) c.args.items.now c.loop-item.item-index c.item-item.result (rows_of c.loop-item.globals) _ (omega arith) c.item-item.is _ told.refuses told.declares c.loop-item.invariant.sound;
      done = step_rows (λ ys. flat_map rule_globals (map item_view ys)) (λ y. rule_globals (item_view y)) (λ y ys. refl) c.args.items.now c.loop-item.item-index c.item-item.result (rows_of c.loop-item.globals) _ (omega arith) c.item-item.is _ told.declares c.loop-item.invariant.done;
    }

pub returns-in_err-declare_rule-clause-refuses : goal.returns-in_err-declare_rule-clause-refuses
returns-in_err-declare_rule-clause-refuses c =
    exit_faults (λ ys. flat_map rule_globals (map item_view ys)) (λ y. rule_globals (item_view y)) (λ y ys. refl) c.args.items.now c.loop-item.item-index c.item-item.result (rows_of c.loop-item.globals) (rows_of c.loop-item.globals) (omega arith) c.item-item.is _ _ _ c.from_residual.ensures.1 c.in_err-declare_rule.ensures.refuses c.loop-item.invariant.sound
