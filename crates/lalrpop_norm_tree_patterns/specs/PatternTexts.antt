-- The texts of patterns, from the texts of their selected parts.
use Rattle.std.specs.Prelude.{ℕ, Bool, List, [], ◌∷◌, ◌++◌, Option, Some, if◌then◌else◌, codes}
use Rattle.std.specs.Fmt.{◌++?◌, decimal}
use Rattle.lalrpop_norm_tree_patterns.specs.Patterns.{PatternKindData, enumerated, structured, path, tuple, tuple_struct, number}
use Rattle.lalrpop_norm_tree_patterns.specs.Patterns.{underscore, dot_dot, chosen, character, text, PatternData, pattern_at, Patterns}
use Rattle.lalrpop_norm_tree_patterns.specs.Patterns.{no_patterns, pattern_and, Fields, no_fields, field_and, FieldData}
use Rattle.lalrpop_norm_tree_parts.specs.KnownTexts.{joined_known}
use Rattle.lalrpop_norm_tree_names.specs.Texts.{escape}
use Rattle.lalrpop_norm_tree_parts.specs.TypeTexts.{path_text}

-- `..`, where a rest follows the fields
abbrev pub rest_texts : Bool → List (Option (List ℕ))
rest_texts rest = if rest then Some (codes "..") ∷ [] else []

abbrev mutual
  pub pattern_kind_text : PatternKindData (Option (List ℕ)) → Option (List ℕ)
  pattern_kind_text (enumerated p ps) =
      Some (path_text p) ++? (Some (codes "(") ++? joined_known (codes ", ") (pattern_texts ps) ++? Some (codes ")"))
  pattern_kind_text (structured p fs rest) =
      Some (path_text p) ++? Some (codes " { ") ++? joined_known (codes ", ") (field_texts fs
      ++ rest_texts rest) ++? Some (codes " }")
  pattern_kind_text (path p) = Some (path_text p)
  pattern_kind_text (tuple ps) = Some (codes "(") ++? joined_known (codes ", ") (pattern_texts ps) ++? Some (codes ")")
  pattern_kind_text (tuple_struct p ps) =
      Some (path_text p) ++? (Some (codes "(") ++? joined_known (codes ", ") (pattern_texts ps) ++? Some (codes ")"))
  pattern_kind_text (number n) = Some (decimal n)
  pattern_kind_text underscore = Some (codes "_")
  pattern_kind_text dot_dot = Some (codes "..")
  pattern_kind_text (chosen t) = t
  pattern_kind_text (character c) = Some (codes "'" ++ c ++ codes "'")
  pattern_kind_text (text s) = Some (codes "\"" ++ escape s ++ codes "\"")

  pub pattern_text : PatternData (Option (List ℕ)) → Option (List ℕ)
  pattern_text (pattern_at s k) = pattern_kind_text k

  pub pattern_texts : Patterns (Option (List ℕ)) → List (Option (List ℕ))
  pattern_texts no_patterns = []
  pattern_texts (pattern_and p ps) = pattern_text p ∷ pattern_texts ps

  pub field_texts : Fields (Option (List ℕ)) → List (Option (List ℕ))
  field_texts no_fields = []
  field_texts (field_and s n p fs) = (Some n ++? Some (codes ": ") ++? pattern_text p) ∷ field_texts fs

-- `f: a`
abbrev pub field_text : FieldData (Option (List ℕ)) → Option (List ℕ)
field_text f = Some f.name ++? Some (codes ": ") ++? pattern_text f.pattern
