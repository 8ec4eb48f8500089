-- The lists of levels as the code makes them: internal definitions, which no public contract clause mentions.
use Rattle.std.specs.Prelude.{ℕ, zero, suc, Bool, true, false, List, [], ◌∷◌, ◌++◌, map}
use Rattle.lalrpop_norm_theory.specs.LoweredTrees.{Origin, level_step}
use Rattle.lalrpop_norm_precedence_steps.specs.declared.levels.AlternativeLevel.{AlternativeLevel}
pub use Rattle.lalrpop_norm_origins.specs.LeveledOrigins.{levels_there, picked, step_origins, level_origins, rule_level_lists}
pub use Rattle.lalrpop_norm_origins.specs.LeveledOrigins.{leveled_lists}
pub use Rattle.lalrpop_norm_origins.specs.Shapes.{IsShaped}

-- levels as they are held
abbrev pub levels_held : List AlternativeLevel → List ℕ
levels_held xs = map (λ (a : AlternativeLevel). a.level) xs

-- each with the origin of a step at its end, but the first one where there is no lower level
abbrev pub stepped_lists : Bool → List (List Origin) → List (List Origin)
stepped_lists is_higher [] = []
stepped_lists false (os ∷ oss) = os ∷ stepped_lists true oss
stepped_lists true (os ∷ oss) = (os ++ level_step ∷ []) ∷ stepped_lists true oss

-- one more at the end of list number i
abbrev pub pushed_origin : List (List Origin) → ℕ → Origin → List (List Origin)
pushed_origin [] i o = []
pushed_origin (os ∷ oss) zero o = (os ++ o ∷ []) ∷ oss
pushed_origin (os ∷ oss) (suc i) o = os ∷ pushed_origin oss i o

-- the lists, one for each of these levels, once the origins that are left are in them
abbrev pub filled_lists : List (List Origin) → List ℕ → List ℕ → List Origin → List (List Origin)
filled_lists [] ls ms os = []
filled_lists (g ∷ gs) [] ms os = []
filled_lists (g ∷ gs) (l ∷ ls) ms os = (g ++ picked l ms os) ∷ filled_lists gs ls ms os
