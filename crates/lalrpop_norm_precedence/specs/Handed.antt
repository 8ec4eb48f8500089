-- Levels and associativities inherited from alternative to alternative, as they are read.
use Rattle.std.specs.Prelude.{ℕ, List, [], ◌∷◌, ◌++◌, Option, Some, unwrap_or}
use Rattle.lalrpop_norm_tree.specs.Items.{AlternativeData}
use Rattle.lalrpop_norm_faults.specs.Faults.{Fault}
use Rattle.lalrpop_norm_model.specs.Levels.{Side, every}
use Rattle.lalrpop_norm_model.specs.Stated.{level_after, side_after}
use Rattle.lalrpop_norm_precedence_steps.specs.LevelFaults.{lowest_faults}

abbrev pub handed_levels : Option ℕ → Option Side → List AlternativeData → List (ℕ × Side)
handed_levels level side [] = []
handed_levels level side (a ∷ rest) =
    (unwrap_or (level_after level (Some a)) 0, unwrap_or (side_after side (Some a)) every)
    ∷ handed_levels (level_after level (Some a)) (side_after side (Some a)) rest

abbrev pub handed_faults : ℕ → Option ℕ → List AlternativeData → List Fault
handed_faults lowest level [] = []
handed_faults lowest level (a ∷ rest) =
    lowest_faults lowest (unwrap_or (level_after level (Some a)) 0) a ++ handed_faults lowest (level_after level (Some a)) rest

-- the faults of alternatives whose levels are listed beside them
abbrev pub placed_faults : ℕ → List ℕ → List AlternativeData → List Fault
placed_faults lowest [] rest = []
placed_faults lowest (l ∷ ls) [] = []
placed_faults lowest (l ∷ ls) (a ∷ rest) = lowest_faults lowest l a ++ placed_faults lowest ls rest
