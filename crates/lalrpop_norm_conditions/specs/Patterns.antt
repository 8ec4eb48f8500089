-- Patterns as the crate `regex` reads them, without options.
use Rattle.std.specs.Prelude.{◌≡◌, ℕ, Bool, false, nat_le, Option, Some, None, is_some, option_and_then, chars}
use Rattle.std.specs.Prelude.{if◌then◌else◌, IsCharBoundary}
use Rattle.regex_syntax.specs.Grammar.{read}
use Rattle.regex.specs.Patterns.{Re, Matches, find_str, default_config}
use Rattle.lalrpop_norm_theory.specs.Symbols.{Name}

-- The expression that a pattern is. There is none if the text is no pattern, may match a part of a character, or
-- nests deeper than `regex` allows.
unfoldable pub reading : Name → Option Re
reading pattern = option_and_then
    (λ (whole, _). if nat_le whole.depth default_config.nest_limit then Some whole.value else None)
    (read default_config (chars pattern))

-- the pattern has a reading
unfoldable pub has_reading : Name → Bool
has_reading pattern = is_some (reading pattern)

-- an expression, if there is one, is found somewhere in the text
abbrev pub occurs : Option Re → Name → Bool
occurs None text = false
occurs (Some re) text = is_some (find_str re text 0)

-- the pattern is found somewhere in the text; false if it has no reading
unfoldable pub is_found : Name → Name → Bool
is_found pattern text = occurs (reading pattern) text

-- the pattern has a reading, which matches the text from some position between characters up to another one
abbrev pub MatchesSomewhere : Name → Name → Type 0
MatchesSomewhere pattern text =
    (re : Re) × (reading pattern ≡ Some re) × ((i : ℕ) × (j : ℕ) × IsCharBoundary text i × Matches text re i j)
