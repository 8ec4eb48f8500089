use denote.Shadow.{shadow}
use denote.Text.{Utf8}
use Rattle.std.proofs.Common.{◌≡◌, ◌++◌, codes, length, string_bytes}
use Rattle.lalrpop_norm_tree_names.specs.Texts.{joined}
use Rattle.lalrpop_norm_lower_steps.specs.Slots.{pieces}
use Rattle.lalrpop_norm_lower_steps.proofs.placeholders.push_alike.Given as goal

-- what was added and what the rest adds is what the code adds
abbrev pub invariant-loop-before : goal.invariant-loop-before
invariant-loop-before l =
    shadow (Utf8 l.rest)
    × (string_bytes l.text ++ joined (joined (codes ", ") l.names) (pieces l.rest) ≡ string_bytes l.initial.text ++ joined (joined (codes ", ") l.names) (pieces l.fn.code))

abbrev pub decreases-loop-before : goal.decreases-loop-before
decreases-loop-before l = length l.rest
