use Rattle.std.proofs.Common.{◌∙◌, option_map, refl}
use Rattle.std.proofs.lemmas.Result.{IfOk-weaker}
use Rattle.lalrpop_norm_origins.specs.Origins.{origins_view}
use Rattle.lalrpop_norm_repr.specs.Lowered.{lowered_grammar_view}
use Rattle.lnorm_run.proofs.WholeLines.{lines_of_parts}
use Rattle.lnorm_run.proofs.lines.grammar_lines.Goals as goal

pub returns : goal.returns
returns c =
    IfOk-weaker c.lines_with.result _ _
    (λ text written. written
    ∙ lines_of_parts (option_map (λ os. origins_view os.now) c.args.origins) _ _ _ (lowered_grammar_view c.args.grammar.now) refl c.nonterminals.ensures refl)
    c.lines_with.ensures
