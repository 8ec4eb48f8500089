use Rattle.std.proofs.Common.{sym, subst}
use Rattle.lalrpop_norm_tree.specs.Items.{grammar_view}
use Rattle.lalrpop_norm_tyinfer_steps.specs.Inferred.{IsInferred}
use Rattle.lalrpop_norm_tyinfer.proofs.tyinfer.infer_types.Goals as goal

pub returns-clause-inferred : goal.returns-clause-inferred
returns-clause-inferred c =
    subst (IsInferred (grammar_view c.args.grammar.now)) (sym c.in_ok-into_types.ensures) c.in_ok-types.ensures.inferred
