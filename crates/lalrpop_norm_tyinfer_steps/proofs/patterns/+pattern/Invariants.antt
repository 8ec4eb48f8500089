use Rattle.std.proofs.Common.{◌≡◌, drop}
use Rattle.lalrpop_norm_shared_types.specs.Shared.{shared_all}
use Rattle.lalrpop_norm_tree.specs.Symbols.{argument_patterns_view}
use Rattle.lalrpop_norm_model.specs.TuplePatterns.{misfits_of}
use Rattle.lalrpop_norm_tyinfer_steps.specs.TableFaults.{faults_at}
use Rattle.lalrpop_norm_tyinfer_steps.proofs.patterns.+pattern.Given as goal

abbrev pub invariant-check_each-loop-i : goal.invariant-check_each-loop-i
invariant-check_each-loop-i l =
    faults_at l.span (misfits_of (argument_patterns_view (drop l.i l.patterns)) (shared_all (drop l.i l.types)))
    ≡ faults_at l.span (misfits_of (argument_patterns_view l.patterns) (shared_all l.types))
