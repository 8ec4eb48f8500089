use Rattle.std.proofs.Common.{refl, arith}
use Rattle.lalrpop_norm_tyinfer_steps.specs.Numbered.{numbered_table}
use Rattle.lalrpop_norm_tyinfer.proofs.AgreementLemmas.{few_agree}
use Rattle.lalrpop_norm_tyinfer.proofs.tyinfer.agreement.check_rule.Goals as goal

pub returns-in-Declared : goal.returns-in-Declared
returns-in-Declared c = λ ps agrees. rw c.in-Declared.is refl

pub returns-then-len-lt2 : goal.returns-then-len-lt2
returns-then-len-lt2 c =
    λ ps agrees. few_agree ps (numbered_table c.args.types.now) c.args.rule.now c.in-Alternatives.clauses c.in-Alternatives.is (omega (arith, c.len.ensures)) agrees

pub returns-else-len-lt2 : goal.returns-else-len-lt2
returns-else-len-lt2 c = λ ps agrees. rw c.in-Alternatives.is (rw c.deref.ensures.value at (c.check_alternatives.ensures ps))
