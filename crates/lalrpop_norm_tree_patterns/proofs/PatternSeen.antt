-- One level of a pattern as data: what a pattern of each kind is seen as, over what its parts are seen as.
use Rattle.std.proofs.Common.{◌≡◌, ℕ, Bool, List, String, Vec, Global, ap, sym, ◌∙◌}
use Rattle.std.specs.Prelude.{string_bytes}
use Rattle.lalrpop_norm_tree_parts.specs.declared.path.Path.{Path}
use Rattle.lalrpop_norm_tree_patterns.specs.declared.pattern.Pattern.{Pattern}
use Rattle.lalrpop_norm_tree_patterns.specs.declared.pattern.FieldPattern.{FieldPattern}
use Rattle.lalrpop_norm_tree_patterns.specs.declared.pattern.PatternKind.{PatternKind}
use Rattle.lalrpop_norm_tree_patterns.specs.declared.pattern.PatternKind.TheFolds.{fold-roll-PatternKind, fold-roll-FieldPattern, fold-roll-Pattern}
use Rattle.lalrpop_norm_tree_patterns.specs.declared.pattern.PatternKind.TheOpen.{PatternKind-F, FieldPattern-F, Pattern-F}
use Rattle.lalrpop_norm_tree_patterns.specs.declared.pattern.PatternKind.TheVariants as variant
use Rattle.lalrpop_norm_tree_patterns.specs.declared.pattern.PatternKind.TheViews.{rolls-struct-Pattern, rolls-struct-FieldPattern, rolls-Enum, rolls-Struct, rolls-Path, rolls-Tuple, rolls-TupleStruct, rolls-Usize, rolls-Underscore, rolls-DotDot, rolls-Choose, rolls-CharLiteral, rolls-String}
use Rattle.lalrpop_norm_tree_parts.specs.Paths.{path_view}
use Rattle.lalrpop_norm_tree_patterns.specs.Patterns.{PatternKindData, enumerated, structured, path, tuple, tuple_struct, number, underscore, dot_dot, chosen, character, text, FieldData, PatternData, pattern_at, pattern_kind_step, field_step, pattern_step, pattern_kind_view, pattern_view, field_view, patterns_view, fields_view}

module _ {T : Type 0} where
  pub pattern_is : (p : Pattern T) → pattern_view (λ (t : T). t) p ≡ pattern_at p.span (pattern_kind_view (λ (t : T). t) p.kind)
  pattern_is p =
      let x : Pattern-F T (PatternKind T) (FieldPattern T) (Pattern T) = record { span = p.span; kind = p.kind } in
      ap (pattern_view (λ (t : T). t)) (sym (rolls-struct-Pattern x)) ∙ fold-roll-Pattern T (PatternKindData T) (FieldData T) (PatternData T) (pattern_kind_step (λ (t : T). t)) (field_step (λ (t : T). t)) (pattern_step (λ (t : T). t)) x

  pub field_is : (d : FieldPattern T) → field_view (λ (t : T). t) d ≡ (let r : FieldData T = record { span = d.field_span; name = d.field_name; pattern = pattern_view (λ (t : T). t) d.pattern } in r)
  field_is d =
      let x : FieldPattern-F T (PatternKind T) (FieldPattern T) (Pattern T) = record { field_span = d.field_span; field_name = d.field_name; pattern = d.pattern } in
      ap (field_view (λ (t : T). t)) (sym (rolls-struct-FieldPattern x)) ∙ fold-roll-FieldPattern T (PatternKindData T) (FieldData T) (PatternData T) (pattern_kind_step (λ (t : T). t)) (field_step (λ (t : T). t)) (pattern_step (λ (t : T). t)) x

  pub enum_seen : (p : Path) (ps : Vec (Pattern T) Global) → pattern_kind_view (λ (t : T). t) (variant.Enum p ps) ≡ enumerated (path_view p) (patterns_view (λ t. t) ps.items)
  enum_seen p ps = ap (pattern_kind_view (λ (t : T). t)) (sym (rolls-Enum p ps)) ∙ fold-roll-PatternKind T (PatternKindData T) (FieldData T) (PatternData T) (pattern_kind_step (λ (t : T). t)) (field_step (λ (t : T). t)) (pattern_step (λ (t : T). t)) (PatternKind-F.Enum p ps)

  pub struct_seen : (p : Path) (fs : Vec (FieldPattern T) Global) (rest : Bool) → pattern_kind_view (λ (t : T). t) (variant.Struct p fs rest) ≡ structured (path_view p) (fields_view (λ t. t) fs.items) rest
  struct_seen p fs rest = ap (pattern_kind_view (λ (t : T). t)) (sym (rolls-Struct p fs rest)) ∙ fold-roll-PatternKind T (PatternKindData T) (FieldData T) (PatternData T) (pattern_kind_step (λ (t : T). t)) (field_step (λ (t : T). t)) (pattern_step (λ (t : T). t)) (PatternKind-F.Struct p fs rest)

  pub path_seen : (p : Path) → pattern_kind_view (λ (t : T). t) (variant.Path p) ≡ path (path_view p)
  path_seen p = ap (pattern_kind_view (λ (t : T). t)) (sym (rolls-Path p)) ∙ fold-roll-PatternKind T (PatternKindData T) (FieldData T) (PatternData T) (pattern_kind_step (λ (t : T). t)) (field_step (λ (t : T). t)) (pattern_step (λ (t : T). t)) (PatternKind-F.Path p)

  pub tuple_seen : (ps : Vec (Pattern T) Global) → pattern_kind_view (λ (t : T). t) (variant.Tuple ps) ≡ tuple (patterns_view (λ t. t) ps.items)
  tuple_seen ps = ap (pattern_kind_view (λ (t : T). t)) (sym (rolls-Tuple ps)) ∙ fold-roll-PatternKind T (PatternKindData T) (FieldData T) (PatternData T) (pattern_kind_step (λ (t : T). t)) (field_step (λ (t : T). t)) (pattern_step (λ (t : T). t)) (PatternKind-F.Tuple ps)

  pub tuple_struct_seen : (p : Path) (ps : Vec (Pattern T) Global) → pattern_kind_view (λ (t : T). t) (variant.TupleStruct p ps) ≡ tuple_struct (path_view p) (patterns_view (λ t. t) ps.items)
  tuple_struct_seen p ps = ap (pattern_kind_view (λ (t : T). t)) (sym (rolls-TupleStruct p ps)) ∙ fold-roll-PatternKind T (PatternKindData T) (FieldData T) (PatternData T) (pattern_kind_step (λ (t : T). t)) (field_step (λ (t : T). t)) (pattern_step (λ (t : T). t)) (PatternKind-F.TupleStruct p ps)

  pub number_seen : (n : ℕ) → pattern_kind_view (λ (t : T). t) (variant.Usize n) ≡ number n
  number_seen n = ap (pattern_kind_view (λ (t : T). t)) (sym (rolls-Usize n)) ∙ fold-roll-PatternKind T (PatternKindData T) (FieldData T) (PatternData T) (pattern_kind_step (λ (t : T). t)) (field_step (λ (t : T). t)) (pattern_step (λ (t : T). t)) (PatternKind-F.Usize n)

  pub underscore_seen : pattern_kind_view (λ (t : T). t) variant.Underscore ≡ underscore
  underscore_seen = ap (pattern_kind_view (λ (t : T). t)) (sym rolls-Underscore) ∙ fold-roll-PatternKind T (PatternKindData T) (FieldData T) (PatternData T) (pattern_kind_step (λ (t : T). t)) (field_step (λ (t : T). t)) (pattern_step (λ (t : T). t)) PatternKind-F.Underscore

  pub dot_dot_seen : pattern_kind_view (λ (t : T). t) variant.DotDot ≡ dot_dot
  dot_dot_seen = ap (pattern_kind_view (λ (t : T). t)) (sym rolls-DotDot) ∙ fold-roll-PatternKind T (PatternKindData T) (FieldData T) (PatternData T) (pattern_kind_step (λ (t : T). t)) (field_step (λ (t : T). t)) (pattern_step (λ (t : T). t)) PatternKind-F.DotDot

  pub chosen_seen : (t : T) → pattern_kind_view (λ (t : T). t) (variant.Choose t) ≡ chosen t
  chosen_seen x = ap (pattern_kind_view (λ (t : T). t)) (sym (rolls-Choose x)) ∙ fold-roll-PatternKind T (PatternKindData T) (FieldData T) (PatternData T) (pattern_kind_step (λ (t : T). t)) (field_step (λ (t : T). t)) (pattern_step (λ (t : T). t)) (PatternKind-F.Choose x)

  pub character_seen : (a : List ℕ) → pattern_kind_view (λ (t : T). t) (variant.CharLiteral a) ≡ character a
  character_seen a = ap (pattern_kind_view (λ (t : T). t)) (sym (rolls-CharLiteral a)) ∙ fold-roll-PatternKind T (PatternKindData T) (FieldData T) (PatternData T) (pattern_kind_step (λ (t : T). t)) (field_step (λ (t : T). t)) (pattern_step (λ (t : T). t)) (PatternKind-F.CharLiteral a)

  pub text_seen : (s : String Global) → pattern_kind_view (λ (t : T). t) (variant.String s) ≡ text (string_bytes s)
  text_seen s = ap (pattern_kind_view (λ (t : T). t)) (sym (rolls-String s)) ∙ fold-roll-PatternKind T (PatternKindData T) (FieldData T) (PatternData T) (pattern_kind_step (λ (t : T). t)) (field_step (λ (t : T). t)) (pattern_step (λ (t : T). t)) (PatternKind-F.String s)
