use Rattle.std.proofs.Common.{map, sym, ◌∙◌}
use Rattle.std.specs.List.{flat_map}
use Rattle.std.proofs.lemmas.Result.{IfOk-from_err}
use Rattle.lalrpop_norm_tree.specs.Items.{item_view}
use Rattle.lalrpop_norm_faults.proofs.FaultLemmas.{exit_at}
use Rattle.lalrpop_norm_model.specs.Scopes.{rule_globals, conversion_globals, match_globals}
use Rattle.lalrpop_norm_resolve.specs.NameTables.{rows_of}
use Rattle.lalrpop_norm_resolve.proofs.KindSteps.{told_more}
use Rattle.lalrpop_norm_resolve.proofs.TableLemmas.{faults_more, faults_on, rows_on}
use Rattle.lalrpop_norm_resolve.proofs.resolve.globals.declare_items.Goals as goal

pub returns-in_err-declare_rules : goal.returns-in_err-declare_rules
returns-in_err-declare_rules c =
    record {
      refuses = exit_at _ _ _ _ _ c.from_residual.ensures.1 c.in_err-declare_rules.ensures.refuses (faults_more (rows_of c.args.globals.now) (flat_map rule_globals (map item_view c.args.items.now)) _);
      declares = IfOk-from_err _ _ c.from_residual.ensures.0;
    }

pub returns-in_err-declare_externs : goal.returns-in_err-declare_externs
returns-in_err-declare_externs c =
    let first = c.in_ok-declare_rules.ensures in
    record {
      refuses = exit_at _ _ _ _ _ c.from_residual-in_err-declare_externs.ensures.1 c.in_err-declare_externs.ensures.refuses
          (faults_on _ _ _ _ first.declares first.refuses ∙ faults_more _ (flat_map conversion_globals (map item_view c.args.items.now)) _);
      declares = IfOk-from_err _ _ c.from_residual-in_err-declare_externs.ensures.0;
    }

pub returns : goal.returns
returns c =
    let first = c.in_ok-declare_rules.ensures in
    let second = c.in_ok-declare_externs.ensures in
    let is = map item_view c.args.items.now in
    let last = c.declare_matches.ensures in
    let told = told_more c.declare_matches.result _ _ _ _
    (sym (faults_on _ _ _ _ first.declares first.refuses ∙ faults_on _ _ _ _ second.declares second.refuses))
    (λ done. done ∙ sym (rows_on _ _ (flat_map rule_globals is) _ first.declares ∙ rows_on _ _ (flat_map conversion_globals is) (flat_map match_globals is) second.declares))
    (record { refuses = last.refuses; resolves = last.declares }) in
    record { refuses = told.refuses; declares = told.resolves }
