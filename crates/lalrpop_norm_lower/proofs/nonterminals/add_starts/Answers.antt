use Rattle.std.proofs.Common.{◌∙◌, ◌+◌, ◌++◌, sym, drop}
use Rattle.lalrpop_norm_faults.proofs.FaultLemmas.{exit_at, at_drop_item}
use Rattle.lalrpop_norm_model.specs.LoweringFaults.{action_number_faults}
use Rattle.lalrpop_norm_lower.specs.Starts.{taken_faults, faults_of_starts}
use Rattle.lalrpop_norm_lower.proofs.nonterminals.add_starts.Goals as goal

pub returns-in_err-data-clause-refuses : goal.returns-in_err-data-clause-refuses
returns-in_err-data-clause-refuses c =
    exit_at _ _
    (taken_faults c.start-item.result ++ action_number_faults c.loop-start.state.number c.start-item.result.rule.now.span)
    (faults_of_starts (c.loop-start.state.number + 1) (drop (c.loop-start.start-index + 1) c.args.starts.now))
    (faults_of_starts c.args.state.now.number c.args.starts.now)
    c.from_residual-in_err-data.ensures.1 c.in_err-data.ensures.refuses
    (sym c.loop-start.invariant.1 ∙ at_drop_item (faults_of_starts c.loop-start.state.number) c.args.starts.now c.loop-start.start-index c.start-item.result c.loop-start-test.true c.start-item.is)
