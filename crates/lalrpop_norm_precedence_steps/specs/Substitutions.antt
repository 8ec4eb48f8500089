-- What recursive occurrences become, one after another as they are reached.
use Rattle.std.specs.Prelude.{ℕ, zero, suc, Bool, true, false}
use Rattle.lalrpop_norm_tree.specs.Symbols.{Kind, kind_view}
use Rattle.lalrpop_norm_model.specs.Levels.{Side, left, right, neither, every}
use Rattle.lalrpop_norm_precedence_steps.specs.declared.occurrences.Substitution.{Substitution}
use Rattle.lalrpop_norm_precedence_steps.specs.declared.occurrences.Substitution.TheVariants.{OneThen, Every}
use Rattle.lalrpop_norm_precedence_steps.specs.declared.occurrences.Direction.{Direction}
use Rattle.lalrpop_norm_precedence_steps.specs.declared.occurrences.Direction.TheVariants.{Forward, Backward}

-- what the occurrence that is reached first becomes, and what any other one does
abbrev pub Plan : Type 0
Plan = Kind × Kind

abbrev pub substitution_view : Substitution → Plan
substitution_view (OneThen k l) = (kind_view k.now, kind_view l.now)
substitution_view (Every k) = (kind_view k.now, kind_view k.now)

-- what the next occurrence after that many becomes, whether or not one was reached before
abbrev pub occurrence : Plan → Bool → ℕ → Kind
occurrence p true i = p.1
occurrence p false zero = p.0
occurrence p false (suc i) = p.1

-- how many are reached before this one
abbrev pub met_as : Direction → ℕ → ℕ → ℕ
met_as Forward before after = before
met_as Backward before after = after

abbrev pub met_kind : Plan → Direction → Bool → ℕ → ℕ → Kind
met_kind p d is_met before after = occurrence p is_met (met_as d before after)

-- what recursive occurrences become in an alternative of an associativity, with the kinds of the current level and of the one
-- below
abbrev pub plan_by_side : Side → Kind → Kind → Plan
plan_by_side left current below = (current, below)
plan_by_side right current below = (current, below)
plan_by_side neither current below = (below, below)
plan_by_side every current below = (current, current)

-- `right` is decided by the last occurrence
abbrev pub direction_by_side : Side → Direction
direction_by_side left = Forward
direction_by_side right = Backward
direction_by_side neither = Forward
direction_by_side every = Forward
