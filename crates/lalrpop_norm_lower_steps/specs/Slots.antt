-- Codes cut at their `<>`, and with their `<>` replaced.
use Rattle.std.specs.Prelude.{ℕ, Bool, true, false, ◌||◌, List, [], ◌∷◌, ◌++◌, drop, flat_map, zip}
use Rattle.std.specs.Prelude.{nat_le, if◌then◌else◌, codes}
use Rattle.lalrpop_norm_common.specs.Braces.{is_slot}
use Rattle.lalrpop_norm_model.specs.LoweringFaults.{slots}
use Rattle.lalrpop_norm_tree_names.specs.Texts.{joined}

-- what is before the first `<>`, and what is behind each
abbrev pub Cut : Type 0
Cut = List ℕ × List (List ℕ)

-- a character in front of an action code that is cut; the second one of a `<>` is dropped
abbrev pub cut_with : Bool → ℕ → Cut → Cut
cut_with true c r = ([], drop 1 r.0 ∷ r.1)
cut_with false c r = (c ∷ r.0, r.1)

abbrev pub cut : List ℕ → Cut
cut [] = ([], [])
cut (c ∷ cs) = cut_with (is_slot (c ∷ cs)) c (cut cs)

abbrev pub pieces : List ℕ → List (List ℕ)
pieces code = (cut code).0 ∷ (cut code).1

-- the pieces, a name before each but the first
abbrev pub in_order : List (List ℕ) → List (List ℕ) → List ℕ
in_order ns [] = []
in_order ns (p ∷ ps) = p ++ flat_map (λ e. e.0 ++ e.1) (zip ns ps)

-- The action code with each `<>` replaced by all names, joined by `, `, where symbols are named or there is at most one `<>`;
-- else with the names in place of the `<>`, in order.
abbrev pub filled_code : Bool → List (List ℕ) → List ℕ → List ℕ
filled_code is_named ns code =
    if is_named || nat_le (slots code) 1 then joined (joined (codes ", ") ns) (pieces code)
    else in_order ns (pieces code)
