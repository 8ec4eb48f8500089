-- Recursive occurrences in a list of symbols, and whether one was reached.
use Rattle.std.specs.Prelude.{ℕ, zero, suc, ◌+◌, List, [], ◌∷◌, Bool, true, bytes_eq}
use Rattle.lalrpop_norm_tree.specs.Symbols.{Kind, Part}
use Rattle.lalrpop_norm_model.specs.Occurrences.{count_part}
use Rattle.lalrpop_norm_model.specs.LevelRules.{leveled_part}

abbrev pub is_target : List ℕ → List ℕ → Bool
is_target target n = bytes_eq n target

-- whether one was reached, after that many more
abbrev pub once_met : Bool → ℕ → Bool
once_met is_met zero = is_met
once_met is_met (suc k) = true

-- how many recursive occurrences the symbols of a list hold
abbrev pub count_each : (List ℕ → Bool) → List Part → ℕ
count_each own [] = 0
count_each own (p ∷ ps) = count_part own p + count_each own ps

-- the symbols of a list with what `level` gives in place of each recursive occurrence
abbrev pub leveled_in_turn : (List ℕ → Bool) → (ℕ → ℕ → Kind) → ℕ → ℕ → List Part → List Part
leveled_in_turn own level before after [] = []
leveled_in_turn own level before after (p ∷ ps) =
    leveled_part own level before (after + count_each own ps) p
    ∷ leveled_in_turn own level (before + count_part own p) after ps
