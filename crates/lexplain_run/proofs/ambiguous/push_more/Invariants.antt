use Rattle.std.proofs.Common.{◌≡◌, ◌++◌, drop, string_bytes}
use Rattle.lexplain_run.specs.Witnesses.{more_text}
use Rattle.lexplain_run.proofs.ambiguous.push_more.Given as goal

-- what is written, and what the numbers that are left will add
abbrev pub invariant-loop-number : goal.invariant-loop-number
invariant-loop-number l = string_bytes l.text ++ more_text (drop l.number-index l.numbers) ≡ string_bytes l.initial.text ++ more_text l.numbers
