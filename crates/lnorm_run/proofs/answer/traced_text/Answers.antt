use Rattle.std.proofs.Common.{◌∙◌, Bool, sym, ap, Some, None, if◌then◌else◌}
use Rattle.std.proofs.lemmas.Result.{IfOk-weaker}
use Rattle.lalrpop_norm_tree.specs.Items.{grammar_view}
use Rattle.lalrpop_norm_shared_types.specs.Grammars.{shared_grammar_view}
use Rattle.lalrpop_norm.specs.Faithful.{origins_of_actions}
use Rattle.lnorm_run.specs.Answers.{printed_as}
use Rattle.lnorm_run.specs.Settings.{settings_view}
use Rattle.lnorm_run.proofs.FaultlessLemmas.{no_fault_stands}
use Rattle.lnorm_run.proofs.answer.traced_text.Goals as goal

pub returns-in-Ok-clause-ok : goal.returns-in-Ok-clause-ok
returns-in-Ok-clause-ok c =
    let s = settings_view c.args.asked.now in
    let tree = grammar_view c.args.tree in
    let lowered = shared_grammar_view c.in-Ok.traced.grammar in
    IfOk-weaker c.traced_text_of-text.result _ _
    (λ text printed. record {
      lowered = lowered;
      lowers = record {
        faultless = no_fault_stands s tree lowered c.in-Ok.ensures.refuses c.in-Ok.ensures.faithful;
        faithful = c.in-Ok.ensures.faithful;
        closed = c.in-Ok.ensures.closed;
      };
      printed = printed ∙ ap (λ os. printed_as c.args.printing.form (Some os) lowered) c.in-Ok.ensures.origins
          ∙ ap (λ (b : Bool). printed_as c.args.printing.form (if b then Some (origins_of_actions s.features tree s.limit) else None) lowered) (sym c.requires);
    })
    c.traced_text_of-text.ensures.ok
