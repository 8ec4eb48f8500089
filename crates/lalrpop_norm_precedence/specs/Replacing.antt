-- Recursive occurrences replaced, one after another as they are reached.
use Rattle.std.specs.Prelude.{ℕ, List, Bool}
use Rattle.lalrpop_norm_tree.specs.Symbols.{Kind, Part, Parts, kind_view}
use Rattle.lalrpop_norm_model.specs.LevelRules.{leveled_kind, leveled_part, leveled_parts}
use Rattle.lalrpop_norm_precedence_steps.specs.Substitutions.{met_kind}
use Rattle.lalrpop_norm_precedence.specs.declared.precedence.replace.Replacing.{Replacing}
use Rattle.lalrpop_norm_precedence.specs.Occurrences.{is_target}

-- whether a name is that of the occurrences
abbrev pub is_own_of : Replacing → List ℕ → Bool
is_own_of r = is_target r.target.now.0

-- what an occurrence becomes, by how many there are before and after it
abbrev pub becomes : Replacing → ℕ → ℕ → Kind
becomes r = met_kind (kind_view r.first.now, kind_view r.others.now) r.direction r.is_met

abbrev pub kind_after : Replacing → Kind → Kind
kind_after r = leveled_kind (is_own_of r) (becomes r) 0 0

abbrev pub part_after : Replacing → Part → Part
part_after r = leveled_part (is_own_of r) (becomes r) 0 0

abbrev pub parts_after : Replacing → Parts → Parts
parts_after r = leveled_parts (is_own_of r) (becomes r) 0 0
