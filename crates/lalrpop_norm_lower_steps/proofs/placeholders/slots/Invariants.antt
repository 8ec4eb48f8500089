use denote.Shadow.{shadow}
use denote.Text.{Utf8}
use Rattle.std.proofs.Common.{◌≡◌, ◌+◌, length}
use Rattle.lalrpop_norm_model.specs.LoweringFaults.{slots}
use Rattle.lalrpop_norm_lower_steps.proofs.placeholders.slots.Given as goal

-- those so far and those of the rest are those of the code
abbrev pub invariant-loop-after : goal.invariant-loop-after
invariant-loop-after l = shadow (Utf8 l.rest) × (l.count + slots l.rest ≡ slots l.fn.code)

abbrev pub decreases-loop-after : goal.decreases-loop-after
decreases-loop-after l = length l.rest
