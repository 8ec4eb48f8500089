-- The origins of the alternatives of the rules of levels: one list for each rule of the grammar with levels.
use Rattle.std.specs.Prelude.{ℕ, Bool, true, false, nat_eq, List, [], ◌∷◌, ◌++◌, map, Option, Some, None, if◌then◌else◌}
use Rattle.lalrpop_norm_theory.specs.LoweredTrees.{Origin, level_step}
use Rattle.lalrpop_norm_tree.specs.Items.{RuleData, ItemData, rule_item, match_item, extern_item, intern_item, use_item}
use Rattle.lalrpop_norm_model.specs.Enabled.{all_places, present}
use Rattle.lalrpop_norm_model.specs.Levels.{Leveled, has_levels, with_levels, levels_of, previous_level}

-- the level of each alternative that is there
abbrev pub levels_there : List (Option Leveled) → List ℕ
levels_there ps = map (λ (a : Leveled). a.level) (present ps)

-- of some origins, each with a level, those of one level
abbrev pub picked : ℕ → List ℕ → List Origin → List Origin
picked l [] os = []
picked l (m ∷ ms) [] = []
picked l (m ∷ ms) (o ∷ os) = if nat_eq m l then o ∷ picked l ms os else picked l ms os

-- that of the step to a lower level, if there is one
abbrev pub step_origins : Option ℕ → List Origin
step_origins None = []
step_origins (Some l) = level_step ∷ []

-- One list for each level of a rule, rising, where its alternatives have these origins: those of the level's own alternatives, in
-- order, then that of the step. A rule without levels keeps its list.
abbrev pub level_origins : Bool → List (Option Leveled) → List Origin → List (List Origin)
level_origins true ps os = map (λ l. picked l (levels_there ps) os ++ step_origins (previous_level ps l)) (levels_of ps)
level_origins false ps os = os ∷ []

abbrev pub rule_level_lists : RuleData → List Origin → List (List Origin)
rule_level_lists r os = level_origins (has_levels (all_places r)) (with_levels (all_places r)) os

abbrev pub leveled_lists : List ItemData → List (List Origin) → List (List Origin)
leveled_lists [] oss = []
leveled_lists (rule_item r ∷ items) [] = leveled_lists items []
leveled_lists (rule_item r ∷ items) (os ∷ oss) = rule_level_lists r os ++ leveled_lists items oss
leveled_lists (match_item m ∷ items) oss = leveled_lists items oss
leveled_lists (extern_item t ∷ items) oss = leveled_lists items oss
leveled_lists (intern_item t ∷ items) oss = leveled_lists items oss
leveled_lists (use_item u ∷ items) oss = leveled_lists items oss
