-- Patterns whose selected parts are put through a function, and the selected parts of patterns in reading order.
use Rattle.std.specs.Prelude.{List, [], ◌∷◌, ◌++◌}
use Rattle.lalrpop_norm_tree_patterns.specs.Patterns.{PatternKindData, enumerated, structured, path, tuple, tuple_struct, number}
use Rattle.lalrpop_norm_tree_patterns.specs.Patterns.{underscore, dot_dot, chosen, character, text}
use Rattle.lalrpop_norm_tree_patterns.specs.Patterns.{PatternData, pattern_at, Patterns, no_patterns, pattern_and}
use Rattle.lalrpop_norm_tree_patterns.specs.Patterns.{Fields, no_fields, field_and, FieldData}

-- the pattern with each selected part put through f
abbrev mutual
  pub mapped_kind : {T V : Type 0} → (T → V) → PatternKindData T → PatternKindData V
  mapped_kind f (enumerated p ps) = enumerated p (mapped_patterns f ps)
  mapped_kind f (structured p fs rest) = structured p (mapped_fields f fs) rest
  mapped_kind f (path p) = path p
  mapped_kind f (tuple ps) = tuple (mapped_patterns f ps)
  mapped_kind f (tuple_struct p ps) = tuple_struct p (mapped_patterns f ps)
  mapped_kind f (number n) = number n
  mapped_kind f underscore = underscore
  mapped_kind f dot_dot = dot_dot
  mapped_kind f (chosen t) = chosen (f t)
  mapped_kind f (character a) = character a
  mapped_kind f (text a) = text a

  pub mapped_pattern : {T V : Type 0} → (T → V) → PatternData T → PatternData V
  mapped_pattern f (pattern_at s k) = pattern_at s (mapped_kind f k)

  pub mapped_patterns : {T V : Type 0} → (T → V) → Patterns T → Patterns V
  mapped_patterns f no_patterns = no_patterns
  mapped_patterns f (pattern_and p ps) = pattern_and (mapped_pattern f p) (mapped_patterns f ps)

  pub mapped_fields : {T V : Type 0} → (T → V) → Fields T → Fields V
  mapped_fields f no_fields = no_fields
  mapped_fields f (field_and s n p fs) = field_and s n (mapped_pattern f p) (mapped_fields f fs)

abbrev pub mapped_field : {T V : Type 0} → (T → V) → FieldData T → FieldData V
mapped_field f d = record { span = d.span; name = d.name; pattern = mapped_pattern f d.pattern }

-- what is left of it without its selected parts
abbrev pub kind_shape : {T : Type 0} → PatternKindData T → PatternKindData (Unit {0})
kind_shape k = mapped_kind (λ t. tt) k

abbrev pub pattern_shape : {T : Type 0} → PatternData T → PatternData (Unit {0})
pattern_shape p = mapped_pattern (λ t. tt) p

abbrev pub field_shape : {T : Type 0} → FieldData T → FieldData (Unit {0})
field_shape d = mapped_field (λ t. tt) d

-- its selected parts from left to right
abbrev mutual
  pub chosen_in_kind : {T : Type 0} → PatternKindData T → List T
  chosen_in_kind (chosen t) = t ∷ []
  chosen_in_kind (enumerated p ps) = chosen_in_all ps
  chosen_in_kind (structured p fs rest) = chosen_in_fields fs
  chosen_in_kind (tuple ps) = chosen_in_all ps
  chosen_in_kind (tuple_struct p ps) = chosen_in_all ps
  chosen_in_kind (path p) = []
  chosen_in_kind (number n) = []
  chosen_in_kind underscore = []
  chosen_in_kind dot_dot = []
  chosen_in_kind (character a) = []
  chosen_in_kind (text a) = []

  pub chosen_in_pattern : {T : Type 0} → PatternData T → List T
  chosen_in_pattern (pattern_at s k) = chosen_in_kind k

  pub chosen_in_all : {T : Type 0} → Patterns T → List T
  chosen_in_all no_patterns = []
  chosen_in_all (pattern_and p ps) = chosen_in_pattern p ++ chosen_in_all ps

  pub chosen_in_fields : {T : Type 0} → Fields T → List T
  chosen_in_fields no_fields = []
  chosen_in_fields (field_and s n p fs) = chosen_in_pattern p ++ chosen_in_fields fs
