-- Alternatives with their levels as they are held, and in groups.
use Rattle.std.specs.Prelude.{ℕ, zero, suc, List, [], ◌∷◌, ◌++◌, map}
use Rattle.lalrpop_norm_tree.specs.Items.{AlternativeData, alternative_view}
use Rattle.lalrpop_norm_model.specs.Levels.{Side, Leveled, rising}
use Rattle.lalrpop_norm_model.specs.LevelRules.{of_level}
use Rattle.lalrpop_norm_precedence.specs.declared.precedence.groups.Marked.{Marked}
use Rattle.lalrpop_norm_precedence.specs.declared.precedence.groups.Group.{Group}
use Rattle.lalrpop_norm_precedence_steps.specs.Sides.{side_of}

abbrev pub marked_view : Marked → Leveled
marked_view m = record { level = m.level; side = side_of m.side; alternative = alternative_view m.alternative }

-- a level and its alternatives
abbrev pub LevelGroup : Type 0
LevelGroup = ℕ × List Leveled

abbrev pub group_view : Group → LevelGroup
group_view g = (g.level, map marked_view g.alternatives.items)

-- each alternative with the level and the associativity at its index
abbrev pub marked_with : List (ℕ × Side) → List AlternativeData → List Leveled
marked_with [] xs = []
marked_with (l ∷ ls) [] = []
marked_with (l ∷ ls) (x ∷ xs) = record { level = l.0; side = l.1; alternative = x } ∷ marked_with ls xs

-- one more at the end of group number i
abbrev pub pushed : List LevelGroup → ℕ → Leveled → List LevelGroup
pushed [] i a = []
pushed (g ∷ gs) zero a = (g.0, g.1 ++ a ∷ []) ∷ gs
pushed (g ∷ gs) (suc i) a = g ∷ pushed gs i a

-- the groups, once the alternatives that are left are in them
abbrev pub filled_groups : List LevelGroup → List Leveled → List LevelGroup
filled_groups [] rest = []
filled_groups (g ∷ gs) rest = (g.0, g.1 ++ of_level g.0 rest) ∷ filled_groups gs rest

abbrev pub groups_at : List ℕ → List Leveled → List LevelGroup
groups_at ls xs = map (λ l. (l, of_level l xs)) ls

abbrev pub grouped : List Leveled → List LevelGroup
grouped xs = groups_at (rising (map (λ (a : Leveled). a.level) xs)) xs
