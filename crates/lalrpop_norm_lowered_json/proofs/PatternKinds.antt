-- One level of a pattern as data, where what it selects is seen through f.
use Rattle.std.proofs.Common.{◌≡◌, ℕ, String, Vec, Global, ap, sym, ◌∙◌}
use Rattle.std.specs.Prelude.{string_bytes}
use Rattle.lalrpop_norm_tree_parts.specs.declared.path.Path.{Path}
use Rattle.lalrpop_norm_tree_parts.specs.Paths.{path_view}
use Rattle.lalrpop_norm_tree_patterns.specs.declared.pattern.Pattern.{Pattern}
use Rattle.lalrpop_norm_tree_patterns.specs.declared.pattern.FieldPattern.{FieldPattern}
use Rattle.lalrpop_norm_tree_patterns.specs.declared.pattern.PatternKind.{PatternKind}
use Rattle.lalrpop_norm_tree_patterns.specs.declared.pattern.PatternKind.TheFolds.{fold-roll-PatternKind, fold-roll-FieldPattern}
use Rattle.lalrpop_norm_tree_patterns.specs.declared.pattern.PatternKind.TheOpen.{PatternKind-F, FieldPattern-F}
use Rattle.lalrpop_norm_tree_patterns.specs.declared.pattern.PatternKind.TheVariants as variant
use Rattle.lalrpop_norm_tree_patterns.specs.declared.pattern.PatternKind.TheViews.{rolls-struct-FieldPattern, rolls-TupleStruct, rolls-Usize, rolls-String}
use Rattle.lalrpop_norm_tree_patterns.specs.Patterns.{PatternKindData, tuple_struct, number, text, FieldData, PatternData, pattern_kind_step, field_step, pattern_step, pattern_kind_view, pattern_view, field_view, patterns_view}

module _ {T V : Type 0} (f : T → V) where
  pub field_is : (d : FieldPattern T) → field_view f d ≡ (let r : FieldData V = record { span = d.field_span; name = d.field_name; pattern = pattern_view f d.pattern } in r)
  field_is d =
      let x : FieldPattern-F T (PatternKind T) (FieldPattern T) (Pattern T) = record { field_span = d.field_span; field_name = d.field_name; pattern = d.pattern } in
      ap (field_view f) (sym (rolls-struct-FieldPattern x)) ∙ fold-roll-FieldPattern T (PatternKindData V) (FieldData V) (PatternData V) (pattern_kind_step f) (field_step f) (pattern_step f) x

  pub tuple_struct_seen : (p : Path) (ps : Vec (Pattern T) Global) → pattern_kind_view f (variant.TupleStruct p ps) ≡ tuple_struct (path_view p) (patterns_view f ps.items)
  tuple_struct_seen p ps = ap (pattern_kind_view f) (sym (rolls-TupleStruct p ps)) ∙ fold-roll-PatternKind T (PatternKindData V) (FieldData V) (PatternData V) (pattern_kind_step f) (field_step f) (pattern_step f) (PatternKind-F.TupleStruct p ps)

  pub number_seen : (n : ℕ) → pattern_kind_view f (variant.Usize n) ≡ number n
  number_seen n = ap (pattern_kind_view f) (sym (rolls-Usize n)) ∙ fold-roll-PatternKind T (PatternKindData V) (FieldData V) (PatternData V) (pattern_kind_step f) (field_step f) (pattern_step f) (PatternKind-F.Usize n)

  pub text_seen : (s : String Global) → pattern_kind_view f (variant.String s) ≡ text (string_bytes s)
  text_seen s = ap (pattern_kind_view f) (sym (rolls-String s)) ∙ fold-roll-PatternKind T (PatternKindData V) (FieldData V) (PatternData V) (pattern_kind_step f) (field_step f) (pattern_step f) (PatternKind-F.String s)
