use Rattle.std.proofs.Common.{rules, ◌≡◌, subst}
use Rattle.lexplain_run.specs.Runs.{StopsOverBytes}
use Rattle.lexplain_run.specs.Words.{settings_asked}
use Rattle.lexplain_run.proofs.RunLemmas.{stops_over_text}
use Rattle.lexplain_run.proofs.run.answer_bytes.Goals as goal

pub returns-in-Ok-from_utf8-clause-err : goal.returns-in-Ok-from_utf8-clause-err
returns-in-Ok-from_utf8-clause-err c =
    stops_over_text c.answer.result c.args.asked.now.way (settings_asked c.args.asked.now) c.in-Ok.grammar.now c.in-Ok-from_utf8.lines.now
    c.args.grammar.now c.args.lines.now (search rules) (search rules) (search rules) c.answer.ensures.err

pub returns-in-Err-clause-err : goal.returns-in-Err-clause-err
returns-in-Err-clause-err c =
    let s = settings_asked c.args.asked.now in
    let same : c.in-Ok.grammar.now ≡ c.args.grammar.now = search rules in
    subst (λ b. StopsOverBytes c.args.asked.now.way s b c.args.lines.now c.without_lines.result) same
    (c.without_lines.ensures c.args.asked.now.way s c.args.lines.now (search rules))
