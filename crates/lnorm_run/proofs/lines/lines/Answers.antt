use Rattle.std.proofs.Common.{◌∙◌, None, ap}
use Rattle.std.proofs.lemmas.Result.{IfOk-weaker}
use Rattle.lalrpop_norm_repr.specs.Tables.{TypeTable}
use Rattle.lnorm_run.proofs.WholeLines.{lines_of_parts}
use Rattle.lnorm_run.proofs.lines.lines.Goals as goal

pub returns : goal.returns
returns c = λ l are.
    IfOk-weaker c.lines_with.result _ _
    (λ text written. written ∙ lines_of_parts None _ _ _ l are.nonterminals (c.nonterminals.ensures ∙ ap (λ (t : TypeTable). t.nonterminals) are.types) are.start_nonterminals)
    c.lines_with.ensures
