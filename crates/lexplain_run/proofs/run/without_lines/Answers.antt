use Rattle.lexplain_run.proofs.run.without_lines.Goals as goal

pub returns : goal.returns
returns c = λ way s lines h. c.in-Err.ensures.bytes way s lines
