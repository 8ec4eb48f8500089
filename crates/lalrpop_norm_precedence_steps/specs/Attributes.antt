-- Attributes on levels.
use Rattle.std.specs.Prelude.{Bool, false, List, [], ◌∷◌}
use Rattle.lalrpop_norm_tree.specs.Items.{AlternativeData}
use Rattle.lalrpop_norm_model.specs.Levels.{has_level_attribute}

-- the first alternative has a `precedence` or an `assoc`
abbrev pub first_has_level_attribute : List AlternativeData → Bool
first_has_level_attribute [] = false
first_has_level_attribute (a ∷ rest) = has_level_attribute a
