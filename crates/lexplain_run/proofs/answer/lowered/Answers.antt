use Rattle.std.proofs.lemmas.Result.{err_from_is_err_and}
use Rattle.lalrpop_norm_tree.specs.Items.{grammar_view}
use Rattle.lalrpop_norm_common.specs.Sessions.{features_view}
use Rattle.lalrpop_norm_explain.specs.TracedGrammars.{grammar_in, grammar_of, is_root}
use Rattle.lalrpop_norm_explain.specs.Trees.{lowered_view, written_view}
use Rattle.lnorm_run.proofs.FaultlessLemmas.{no_fault_stands}
use Rattle.lexplain_run.specs.Words.{settings_with}
use Rattle.lexplain_run.proofs.PairLemmas.{lowered_pairs}
use Rattle.lexplain_run.proofs.RefusalLemmas.{lowering_stops}
use Rattle.lexplain_run.proofs.answer.lowered.Goals as goal

pub returns-clause-ok : goal.returns-clause-ok
returns-clause-ok c =
    let traced = c.in_ok-traced.traced in (
      lowered_view c.in_ok-derivation.derivation,
      lowered_pairs (features_view c.args.session.now.features) (grammar_view c.args.grammar) (grammar_of traced) (is_root traced)
          c.in_ok-traced.ensures.roots c.in_ok-traced.ensures.calls (written_view c.args.tree.now) (lowered_view c.in_ok-derivation.derivation)
          c.in_ok-derivation.ensures.0 c.in_ok-derivation.ensures.1,
      c.in_ok-lowered_lines.ensures,
    )

pub returns-in_err-traced-clause-err : goal.returns-in_err-traced-clause-err
returns-in_err-traced-clause-err c =
    let p = err_from_is_err_and c.from_residual.result c.from_residual.ensures.1 in
    rw (p.1, p.2) c.in_err-traced.ensures.refuses

pub returns-in_err-derivation-clause-err : goal.returns-in_err-derivation-clause-err
returns-in_err-derivation-clause-err c =
    let p = err_from_is_err_and c.from_residual-in_err-derivation.result c.from_residual-in_err-derivation.ensures.1 in
    let s = settings_with (features_view c.args.session.now.features) c.args.session.now.macro_recursion_limit in
    let g = grammar_view c.args.grammar in
    let traced = c.in_ok-traced.traced in
    let told = c.in_ok-traced.ensures in
    rw (p.1, p.2) (lowering_stops s g traced
    (record { faultless = no_fault_stands s g (grammar_in traced) told.refuses told.faithful; faithful = told.faithful; closed = told.closed })
    told.origins told.roots told.calls
    (written_view c.args.tree.now) c.in_err-derivation.field-0.0 c.in_err-derivation.ensures)
