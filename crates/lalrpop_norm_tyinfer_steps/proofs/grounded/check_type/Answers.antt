use Rattle.std.proofs.Common.{sym, ◌∙◌}
use Rattle.lalrpop_norm_tyinfer_steps.proofs.LoopLemmas.{absent_lacks, there_lacks_not}
use Rattle.lalrpop_norm_tyinfer_steps.proofs.grounded.check_type.Goals as goal

pub returns-then-is_typed : goal.returns-then-is_typed
returns-then-is_typed c = there_lacks_not _ _ (sym (c.is_typed.ensures c.args.rule.now.name.0 c.requires) ∙ c.if-is_typed.true)

pub returns : goal.returns
returns c = rw (absent_lacks _ _ (sym (c.is_typed.ensures c.args.rule.now.name.0 c.requires) ∙ c.if-is_typed.false)) c.refusal.ensures.first
