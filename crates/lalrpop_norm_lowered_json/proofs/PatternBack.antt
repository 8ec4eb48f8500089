-- Patterns of tokens back from their forms.
use Rattle.std.proofs.Common.{◌≡◌, ℕ, List, bytes_eq, if◌then◌else◌, codes, refl, ap, ap₂}
use Rattle.serde_json.specs.Data.{Data, string, array, object, Items, no_items, item, no_members, member}
use Rattle.lalrpop_norm_tree_parts.specs.Paths.{PathData}
use Rattle.lalrpop_norm_tree_parts.specs.Reprs.{ReprData}
use Rattle.lalrpop_norm_tree_patterns.specs.Patterns as pattern
use Rattle.lalrpop_norm_tree_patterns.specs.Patterns.{PatternKindData, PatternData, pattern_at, Patterns, no_patterns, pattern_and}
use Rattle.lalrpop_norm_tree_patterns.specs.Patterns.{Fields, no_fields, field_and}
use Rattle.lalrpop_norm_lowered_json.specs.LoweredForms.{lowered_pattern_kind_form, lowered_pattern_form, lowered_patterns_form, lowered_fields_form}
use Rattle.lalrpop_norm_json.proofs.NameBack.{path_back}
use Rattle.lalrpop_norm_json.proofs.PatternBack.{pattern_kind_in, pattern_in, patterns_in, field_patterns_in}
use Rattle.lalrpop_norm_lowered_json.proofs.Back.{repr_in, repr_back}

mutual
  pattern_kind_back : (k : PatternKindData ReprData) → pattern_kind_in repr_in (lowered_pattern_kind_form k) ≡ k
  pattern_kind_back (pattern.enumerated p ps) =
      ap₂ (λ (q : PathData) (qs : Patterns ReprData). pattern.enumerated q qs) (path_back p) (patterns_back ps)
  pattern_kind_back (pattern.structured p fs rest) =
      ap₂ (λ (q : PathData) (gs : Fields ReprData). pattern.structured q gs rest) (path_back p) (field_patterns_back fs)
  pattern_kind_back (pattern.path p) = ap (λ (q : PathData). pattern.path q) (path_back p)
  pattern_kind_back (pattern.tuple ps) = ap (λ (qs : Patterns ReprData). pattern.tuple qs) (patterns_back ps)
  pattern_kind_back (pattern.tuple_struct p ps) =
      ap₂ (λ (q : PathData) (qs : Patterns ReprData). pattern.tuple_struct q qs) (path_back p) (patterns_back ps)
  pattern_kind_back (pattern.number n) = refl
  pattern_kind_back pattern.underscore = refl
  pattern_kind_back pattern.dot_dot = refl
  pattern_kind_back (pattern.chosen t) = ap (λ (u : ReprData). pattern.chosen u) (repr_back t)
  pattern_kind_back (pattern.character a) = refl
  pattern_kind_back (pattern.text a) = refl

  pub pattern_back : (p : PatternData ReprData) → pattern_in repr_in (lowered_pattern_form p) ≡ p
  pattern_back (pattern_at s k) = ap (λ (l : PatternKindData ReprData). pattern_at s l) (pattern_kind_back k)

  patterns_back : (ps : Patterns ReprData) → patterns_in repr_in (lowered_patterns_form ps) ≡ ps
  patterns_back no_patterns = refl
  patterns_back (pattern_and p ps) =
      ap₂ (λ (q : PatternData ReprData) (qs : Patterns ReprData). pattern_and q qs) (pattern_back p) (patterns_back ps)

  field_patterns_back : (fs : Fields ReprData) → field_patterns_in repr_in (lowered_fields_form fs) ≡ fs
  field_patterns_back no_fields = refl
  field_patterns_back (field_and s a p fs) =
      ap₂ (λ (q : PatternData ReprData) (gs : Fields ReprData). field_and s a q gs) (pattern_back p) (field_patterns_back fs)
