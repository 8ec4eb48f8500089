-- The step from a level to the one below.
use Rattle.std.specs.Prelude.{ℕ, List, [], ◌∷◌, Option, Some, None}
use Rattle.lalrpop_norm_tree.specs.Items.{AlternativeData, RuleData}
use Rattle.lalrpop_norm_model.specs.LevelRules.{step_alternative}

-- a step to the level below, by its name, where there is one
abbrev pub made_steps : RuleData → Option (List ℕ) → List AlternativeData
made_steps r None = []
made_steps r (Some name) = step_alternative r.span name ∷ []
