use Rattle.std.proofs.Common.{sym, subst}
use Rattle.lalrpop_norm_common.specs.Sessions.{features_view}
use Rattle.lalrpop_norm_repr.specs.Closed.{IsClosed}
use Rattle.lalrpop_norm_tree.specs.Items as written
use Rattle.lalrpop_norm.specs.Faithful.{IsFaithful}
use Rattle.lalrpop_norm.proofs.TracedLemmas.{refused_on}
use Rattle.lalrpop_norm.proofs.passes.normalize.Goals as goal

pub returns-in_err-lowered-clause-refuses : goal.returns-in_err-lowered-clause-refuses
returns-in_err-lowered-clause-refuses g c = refused_on _ c.from_residual.result _ _ c.from_residual.ensures.1 c.in_err-lowered.ensures.refuses

pub returns-clause-closed : goal.returns-clause-closed
returns-clause-closed g c = subst IsClosed (sym c.in_ok-into_repr.ensures) c.in_ok-lowered.ensures.closed

pub returns-clause-faithful : goal.returns-clause-faithful
returns-clause-faithful g c =
    subst (IsFaithful _ (features_view c.args.session.now.features) c.args.session.now.macro_recursion_limit (written.grammar_view c.args.grammar))
    (sym c.in_ok-into_repr.ensures) c.in_ok-lowered.ensures.faithful
