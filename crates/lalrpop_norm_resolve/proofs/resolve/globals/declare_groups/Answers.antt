use Rattle.std.proofs.Common.{map, refl, arith}
use Rattle.std.specs.List.{flat_map}
use Rattle.lalrpop_norm_tree.specs.Items.{match_contents_view}
use Rattle.lalrpop_norm_model.specs.Scopes.{match_global}
use Rattle.lalrpop_norm_resolve.specs.NameTables.{rows_of}
use Rattle.lalrpop_norm_resolve.proofs.TableLemmas.{step_rows, step_faults, exit_faults}
use Rattle.lalrpop_norm_resolve.proofs.resolve.globals.declare_groups.Goals as goal

pub loop-group-preserved : goal.loop-group-preserved
loop-group-preserved c =
    let told = rw (c.deref.ensures.value) at c.in_ok-declare_mappings.ensures in
    record {
      sound = step_faults (λ ys. flat_map (flat_map match_global) (map match_contents_view ys)) (λ y. flat_map match_global (match_contents_view y)) (λ y ys. refl) c.args.groups.now c.loop-group.group-index c.group-item.result (rows_of c.loop-group.globals) _ (omega arith) c.group-item.is _ told.refuses told.declares c.loop-group.invariant.sound;
      done = step_rows (λ ys. flat_map (flat_map match_global) (map match_contents_view ys)) (λ y. flat_map match_global (match_contents_view y)) (λ y ys. refl) c.args.groups.now c.loop-group.group-index c.group-item.result (rows_of c.loop-group.globals) _ (omega arith) c.group-item.is _ told.declares c.loop-group.invariant.done;
    }

pub returns-in_err-declare_mappings-clause-refuses : goal.returns-in_err-declare_mappings-clause-refuses
returns-in_err-declare_mappings-clause-refuses c =
    exit_faults (λ ys. flat_map (flat_map match_global) (map match_contents_view ys)) (λ y. flat_map match_global (match_contents_view y)) (λ y ys. refl) c.args.groups.now c.loop-group.group-index c.group-item.result (rows_of c.loop-group.globals) (rows_of c.loop-group.globals) (omega arith) c.group-item.is _ _ _ c.from_residual.ensures.1 (rw (c.deref.ensures.value) at c.in_err-declare_mappings.ensures.refuses) c.loop-group.invariant.sound
