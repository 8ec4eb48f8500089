use Rattle.std.proofs.Common.{◌∙◌, Bool, sym, ap, Some, None, if◌then◌else◌}
use Rattle.std.proofs.lemmas.Result.{IfOk-weaker}
use Rattle.lalrpop_norm_tree.specs.Items.{grammar_view}
use Rattle.lalrpop_norm.specs.Faithful.{origins_of_actions}
use Rattle.lnorm_run.specs.Answers.{printed_as}
use Rattle.lnorm_run.specs.Settings.{settings_view}
use Rattle.lnorm_run.specs.declared.printing.Form.TheVariants.{Lines}
use Rattle.lnorm_run.proofs.FaultlessLemmas.{no_fault_stands}
use Rattle.lnorm_run.proofs.answer.lines_text.Goals as goal

pub returns-in-Ok-clause-ok : goal.returns-in-Ok-clause-ok
returns-in-Ok-clause-ok c =
    let s = settings_view c.args.asked.now in
    let tree = grammar_view c.args.tree in
    let are = c.in-Ok.ensures.rules in
    IfOk-weaker c.lines_of-text.result _ _
    (λ text printed. record {
      lowered = are.grammar;
      lowers = record {
        faultless = no_fault_stands s tree are.grammar c.in-Ok.ensures.refuses are.holds.1;
        faithful = are.holds.1;
        closed = are.holds.0;
      };
      printed = printed ∙ ap (λ (b : Bool). printed_as Lines (if b then Some (origins_of_actions s.features tree s.limit) else None) are.grammar) (sym c.requires);
    })
    (c.lines_of-text.ensures.ok are.grammar are.rules)

pub returns-in-Err-clause-ok : goal.returns-in-Err-clause-ok
returns-in-Err-clause-ok c = tt
