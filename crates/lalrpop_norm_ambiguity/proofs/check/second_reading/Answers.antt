use Rattle.lalrpop_norm_ambiguity.proofs.check.second_reading.Goals as goal

pub returns-in-Err : goal.returns-in-Err
returns-in-Err c = λ before rest none. rw none (c.of_second.ensures _ c.in-Err.ensures rest)
