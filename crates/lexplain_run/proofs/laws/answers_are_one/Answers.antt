use Rattle.lexplain_run.proofs.OneForm.{one_form}
use Rattle.lexplain_run.proofs.ThereAndBack.{one_answer}
use Rattle.lexplain_run.proofs.laws.answers_are_one.Goals as goal

pub returns : goal.returns
returns c = λ way fs bytes. one_answer one_form fs bytes way
