use Rattle.std.proofs.Common.{◌∙◌, Some, ap}
use Rattle.std.proofs.lemmas.Result.{IfOk-weaker}
use Rattle.lalrpop_norm_origins.specs.Origins.{origins_view}
use Rattle.lalrpop_norm_shared_types.specs.Grammars.{shared_grammar_view}
use Rattle.lnorm_run.specs.Lines.{lines}
use Rattle.lnorm_run.proofs.lines.traced_lines.Goals as goal

pub returns : goal.returns
returns c =
    IfOk-weaker c.lines_with.result _ _
    (λ text written. written ∙ ap (λ os. lines (Some (origins_view os)) (shared_grammar_view c.args.traced.now.grammar)) c.as_slice.ensures.value)
    c.lines_with.ensures
