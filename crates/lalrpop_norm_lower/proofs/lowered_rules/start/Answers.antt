use Rattle.std.proofs.Common.{◌∙◌, [], ap, sym, map, append-nil}
use Rattle.lalrpop_norm_faults.proofs.FaultLemmas.{exit_at}
use Rattle.lalrpop_norm_shared_types.specs.Table.{shared_table}
use Rattle.lalrpop_norm_lower.specs.Lowering.{public_rules_in, sorted_onto}
use Rattle.lalrpop_norm_lower.specs.Made.{made_starts_faults}
use Rattle.lalrpop_norm_lower.specs.Starts.{start_typed, faults_of_starts}
use Rattle.lalrpop_norm_lower.specs.State.{state_nonterminals, rules_in}
use Rattle.lalrpop_norm_lower.proofs.StartLemmas.{faults_counted, rows_counted, types_counted}
use Rattle.lalrpop_norm_lower.proofs.lowered_rules.start.Goals as goal

pub returns-in_err-add_starts-clause-refuses : goal.returns-in_err-add_starts-clause-refuses
returns-in_err-add_starts-clause-refuses c =
    let public = public_rules_in (rules_in c.args.items.now) in
    let k = c.args.state.now.number in
    let types = shared_table c.args.types.now in
    let made = c.in_ok-starts.starts.items in
    exit_at _ _ (faults_of_starts k made) [] (made_starts_faults c.args.prefix.now types k public)
    c.from_residual-in_err-add_starts.ensures.1 (rw (c.deref-2.ensures.value) at c.in_err-add_starts.ensures.refuses)
    (sym (faults_counted public made c.in_ok-starts.ensures.rules c.args.prefix.now types k c.in_ok-starts.ensures.taken) ∙ sym (append-nil (faults_of_starts k made)))

pub returns-clause-refuses : goal.returns-clause-refuses
returns-clause-refuses c =
    let types = shared_table c.args.types.now in
    sym (faults_counted (public_rules_in (rules_in c.args.items.now)) c.in_ok-starts.starts.items c.in_ok-starts.ensures.rules c.args.prefix.now types c.args.state.now.number c.in_ok-starts.ensures.taken)
    ∙ (rw (c.deref-2.ensures.value) at c.in_ok-add_starts.ensures.refuses)

pub returns-clause-table : goal.returns-clause-table
returns-clause-table c =
    (rw (c.deref-2.ensures.value) at c.in_ok-add_starts.ensures.table)
    ∙ ap (sorted_onto (state_nonterminals c.args.state.now))
    (rows_counted (public_rules_in (rules_in c.args.items.now)) c.in_ok-starts.starts.items c.in_ok-starts.ensures.rules c.args.prefix.now c.args.state.now.number c.in_ok-starts.ensures.names)

pub returns-clause-types : goal.returns-clause-types
returns-clause-types c =
    let types = shared_table c.args.types.now in
    c.in_ok-typed.ensures ∙ ap (map (start_typed types)) c.deref.ensures.value
    ∙ types_counted (public_rules_in (rules_in c.args.items.now)) c.in_ok-starts.starts.items c.in_ok-starts.ensures.rules c.args.prefix.now types c.in_ok-starts.ensures.names
