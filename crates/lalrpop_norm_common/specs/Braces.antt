-- Where the placeholder `<>` of an action code is.
use Rattle.std.specs.Prelude.{ℕ, ◌%◌, ◌==◌, Bool, true, false, ◌&&◌, List, [], ◌∷◌, Option, Some, None}
use Rattle.std.specs.Prelude.{option_map, count_by, drop, codes, nat_eq, if◌then◌else◌}
use Rattle.std.specs.List.{starts_with, ends_with}
use Rattle.std.specs.Str.{trim}
use Rattle.lalrpop_norm_common.specs.declared.norm_util.Presence.{Presence}
use Rattle.lalrpop_norm_common.specs.declared.norm_util.Presence.TheVariants.{None as absent, InCurlyBrackets, Normal}

abbrev pub is_slot : List ℕ → Bool
is_slot [] = false
is_slot (a ∷ []) = false
is_slot (a ∷ b ∷ rest) = (a == 60) && (b == 62)

-- the text before the first `<>` and the text after it
abbrev pub around_slot : List ℕ → Option (List ℕ × List ℕ)
around_slot [] = None
around_slot (b ∷ bs) = if is_slot (b ∷ bs) then Some ([], drop 1 bs) else option_map (λ p. (b ∷ p.0, p.1)) (around_slot bs)

abbrev pub has_odd_quotes : List ℕ → Bool
has_odd_quotes bs = count_by (λ b. b == 34) bs % 2 == 1

unfoldable pub presence_between : List ℕ → List ℕ → Presence
presence_between before after =
    if has_odd_quotes before && has_odd_quotes after then Normal
    else (if ends_with nat_eq before (codes "{") && starts_with nat_eq after (codes "}") then InCurlyBrackets else Normal)

abbrev pub presence_around : Option (List ℕ × List ℕ) → Presence
presence_around None = absent
presence_around (Some p) = presence_between (trim p.0) (trim p.1)

abbrev pub presence : List ℕ → Presence
presence code = presence_around (around_slot code)

abbrev pub is_in_braces : Presence → Bool
is_in_braces absent = false
is_in_braces InCurlyBrackets = true
is_in_braces Normal = false
