use denote.Shadow.{shadow}
use denote.Text.{Utf8}
use Rattle.std.proofs.Common.{◌≡◌, ◌+◌, ◌++◌, drop, length, string_bytes}
use Rattle.lalrpop_norm_model.specs.LoweringFaults.{slots}
use Rattle.lalrpop_norm_lower_steps.specs.Slots.{pieces, in_order}
use Rattle.lalrpop_norm_lower_steps.proofs.placeholders.push_in_order.Given as goal

-- there are as many names left as slots; what was added and what the rest adds is what the code adds
abbrev pub invariant-loop-before : goal.invariant-loop-before
invariant-loop-before l =
    shadow (Utf8 l.rest)
    × (l.number + slots l.rest ≡ length l.names)
    × (string_bytes l.text ++ in_order (drop l.number l.names) (pieces l.rest) ≡ string_bytes l.initial.text ++ in_order l.names (pieces l.fn.code))

abbrev pub decreases-loop-before : goal.decreases-loop-before
decreases-loop-before l = length l.rest
