use Rattle.std.proofs.Common.{◌≡◌, ◌==◌, ◌++◌, length, map, string_bytes}
use Rattle.std.specs.List.{slice_split}
use denote.Text.{Utf8}
use denote.Shadow.{shadow}
use Rattle.lnorm_c.proofs.words.words_of.Given as goal

-- the parts of the text are the arguments so far, and those of what is left
abbrev pub invariant-loop-word : goal.invariant-loop-word
invariant-loop-word l = shadow (Utf8 l.rest)
    × (slice_split (λ b. b == 0) l.fn.text ≡ map string_bytes l.words.items ++ slice_split (λ b. b == 0) l.rest)

abbrev pub decreases-loop-word : goal.decreases-loop-word
decreases-loop-word l = length l.rest
