use Rattle.lalrpop_norm_nodes.proofs.MeetingLemmas.{err_refuses}
use Rattle.lalrpop_norm_macro_expand.proofs.macro_expand.expand_resolved.Goals as goal

pub returns-in_err-made-clause-refuses : goal.returns-in_err-made-clause-refuses
returns-in_err-made-clause-refuses c = err_refuses _ _ _ c.from_residual.ensures.1 c.in_err-made.ensures.refuses
