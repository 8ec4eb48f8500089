use Rattle.std.proofs.Common.{◌≡◌, length, map, string_bytes}
use Rattle.lnorm_run.specs.Settings.{settings_from, settings_of, settings_view}
use Rattle.lnorm_run.proofs.words.asked_by.Given as goal

-- what is asked for is what the arguments that are left make of what was asked before
abbrev pub invariant-loop-rest : goal.invariant-loop-rest
invariant-loop-rest l = settings_of (map string_bytes l.fn.words) ≡ settings_from (settings_view l.asked) (map string_bytes l.rest)

abbrev pub decreases-loop-rest : goal.decreases-loop-rest
decreases-loop-rest l = length l.rest
