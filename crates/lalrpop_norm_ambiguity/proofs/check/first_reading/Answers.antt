use Rattle.lalrpop_norm_ambiguity.proofs.check.first_reading.Goals as goal

pub returns-in-Err : goal.returns-in-Err
returns-in-Err c = λ rest. c.of_first.ensures _ c.in-Err.ensures rest
