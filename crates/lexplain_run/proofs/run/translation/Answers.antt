use Rattle.std.proofs.Common.{rules, ◌≡◌, inl, subst}
use Rattle.lexplain_run.specs.Runs.{StopsOverBytes}
use Rattle.lexplain_run.specs.Words.{settings_asked}
use Rattle.lexplain_run.proofs.run.translation.Goals as goal

pub returns-clause-err : goal.returns-clause-err
returns-clause-err g c =
    let way = c.args.asked.now.way in
    let s = settings_asked c.args.asked.now in
    let bytes = c.in-Ok.bytes.items in
    let lines = c.in-Ok-read_whole.lines.items in
    let same_bytes : c.deref.result.now ≡ bytes = search rules in
    let same_lines : c.deref-2.result.now ≡ lines = search rules in
    let said : StopsOverBytes way s c.deref.result.now c.deref-2.result.now c.in-Err.stop = c.in-Err.ensures.err in
    inl (record {
      bytes = bytes;
      lines = lines;
      reads = record { whole_grammar = search rules; whole_lines = search rules };
      says = subst (λ b. StopsOverBytes way s b lines c.in-Err.stop) same_bytes (subst (λ l. StopsOverBytes way s c.deref.result.now l c.in-Err.stop) same_lines said);
    })
