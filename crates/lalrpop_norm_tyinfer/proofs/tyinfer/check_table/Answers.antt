use Rattle.std.proofs.Common.{rules}
use Rattle.lalrpop_norm_tyinfer.proofs.tyinfer.check_table.Goals as goal

pub returns-in_err-check_agreement : goal.returns-in_err-check_agreement
returns-in_err-check_agreement c = λ ps agree. let first = c.in_err-check_agreement.ensures ps agree in search rules

pub returns : goal.returns
returns c = λ ps agree. let agreed = c.in_ok-check_agreement.ensures ps agree in search rules
