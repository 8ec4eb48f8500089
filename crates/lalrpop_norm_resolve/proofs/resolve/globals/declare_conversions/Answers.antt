use Rattle.std.proofs.Common.{map, refl, arith}
use Rattle.std.specs.List.{flat_map}
use Rattle.lalrpop_norm_tree.specs.Items.{conversion_view}
use Rattle.lalrpop_norm_resolve.specs.NameTables.{rows_of, conversion_global}
use Rattle.lalrpop_norm_resolve.proofs.TableLemmas.{step_rows, step_faults, exit_faults}
use Rattle.lalrpop_norm_resolve.proofs.resolve.globals.declare_conversions.Goals as goal

pub loop-conversion-preserved : goal.loop-conversion-preserved
loop-conversion-preserved c =
    let told = c.in_ok-declare_terminal.ensures in
    record {
      sound = step_faults (λ ys. flat_map conversion_global (map conversion_view ys)) (λ y. conversion_global (conversion_view y)) (λ y ys. refl) c.args.conversions.now c.loop-conversion.conversion-index c.conversion-item.result (rows_of c.loop-conversion.globals) _ (omega arith) c.conversion-item.is _ told.refuses told.declares c.loop-conversion.invariant.sound;
      done = step_rows (λ ys. flat_map conversion_global (map conversion_view ys)) (λ y. conversion_global (conversion_view y)) (λ y ys. refl) c.args.conversions.now c.loop-conversion.conversion-index c.conversion-item.result (rows_of c.loop-conversion.globals) _ (omega arith) c.conversion-item.is _ told.declares c.loop-conversion.invariant.done;
    }

pub returns-in_err-declare_terminal-clause-refuses : goal.returns-in_err-declare_terminal-clause-refuses
returns-in_err-declare_terminal-clause-refuses c =
    exit_faults (λ ys. flat_map conversion_global (map conversion_view ys)) (λ y. conversion_global (conversion_view y)) (λ y ys. refl) c.args.conversions.now c.loop-conversion.conversion-index c.conversion-item.result (rows_of c.loop-conversion.globals) (rows_of c.loop-conversion.globals) (omega arith) c.conversion-item.is _ _ _ c.from_residual.ensures.1 c.in_err-declare_terminal.ensures.refuses c.loop-conversion.invariant.sound
