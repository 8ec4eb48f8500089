use Rattle.lalrpop_norm.proofs.TracedLemmas.{refused_on}
use Rattle.lalrpop_norm.proofs.passes.normalize_shared_traced.Goals as goal

pub returns-in_err-traced-clause-refuses : goal.returns-in_err-traced-clause-refuses
returns-in_err-traced-clause-refuses g c = refused_on _ c.from_residual.result _ _ c.from_residual.ensures.1 c.in_err-traced.ensures.refuses
