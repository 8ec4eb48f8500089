-- Patterns as plain data, over any type of selected parts.
use Rattle.std.specs.Prelude.{◌≡◌, ℕ, Bool, List, [], ◌∷◌, map, string_bytes}
use Rattle.lalrpop_norm_tree_names.specs.declared.names.Span.{Span}
use Rattle.lalrpop_norm_tree_parts.specs.Paths.{PathData, path_view}
use Rattle.lalrpop_norm_tree_patterns.specs.declared.pattern.Pattern.{Pattern}
use Rattle.lalrpop_norm_tree_patterns.specs.declared.pattern.FieldPattern.{FieldPattern}
use Rattle.lalrpop_norm_tree_patterns.specs.declared.pattern.PatternKind.{PatternKind}
use Rattle.lalrpop_norm_tree_patterns.specs.declared.pattern.PatternKind.TheOpen.{PatternKind-F, FieldPattern-F, Pattern-F}
use Rattle.lalrpop_norm_tree_patterns.specs.declared.pattern.PatternKind.TheFolds.{fold-PatternKind, fold-FieldPattern, fold-Pattern}

mutual
  pub data PatternKindData (T : Type 0) : Type 0 where
    enumerated : PathData → Patterns T → PatternKindData T
    structured : PathData → Fields T → Bool → PatternKindData T
    path : PathData → PatternKindData T
    tuple : Patterns T → PatternKindData T
    tuple_struct : PathData → Patterns T → PatternKindData T
    number : ℕ → PatternKindData T
    underscore : PatternKindData T
    dot_dot : PatternKindData T
    chosen : T → PatternKindData T
    character : List ℕ → PatternKindData T
    text : List ℕ → PatternKindData T

  pub data PatternData (T : Type 0) : Type 0 where
    pattern_at : Span → PatternKindData T → PatternData T

  pub data Patterns (T : Type 0) : Type 0 where
    no_patterns : Patterns T
    pattern_and : PatternData T → Patterns T → Patterns T

  pub data Fields (T : Type 0) : Type 0 where
    no_fields : Fields T
    field_and : Span → List ℕ → PatternData T → Fields T → Fields T

pub record FieldData (T : Type 0) : Type 0 where
  pub span : Span
  pub name : List ℕ
  pub pattern : PatternData T

abbrev pub patterns_of : {T : Type 0} → List (PatternData T) → Patterns T
patterns_of [] = no_patterns
patterns_of (p ∷ ps) = pattern_and p (patterns_of ps)

abbrev pub fields_of : {T : Type 0} → List (FieldData T) → Fields T
fields_of [] = no_fields
fields_of (f ∷ fs) = field_and f.span f.name f.pattern (fields_of fs)

-- one level of a pattern, with what is inside already seen as data, and each selected part through f
abbrev pub pattern_kind_step : {T V : Type 0} → (T → V) →
    PatternKind-F T (PatternKindData V) (FieldData V) (PatternData V) → PatternKindData V
pattern_kind_step f (PatternKind-F.Enum p ps) = enumerated (path_view p) (patterns_of ps.items)
pattern_kind_step f (PatternKind-F.Struct p fs rest) = structured (path_view p) (fields_of fs.items) rest
pattern_kind_step f (PatternKind-F.Path p) = path (path_view p)
pattern_kind_step f (PatternKind-F.Tuple ps) = tuple (patterns_of ps.items)
pattern_kind_step f (PatternKind-F.TupleStruct p ps) = tuple_struct (path_view p) (patterns_of ps.items)
pattern_kind_step f (PatternKind-F.Usize n) = number n
pattern_kind_step f PatternKind-F.Underscore = underscore
pattern_kind_step f PatternKind-F.DotDot = dot_dot
pattern_kind_step f (PatternKind-F.Choose t) = chosen (f t)
pattern_kind_step f (PatternKind-F.CharLiteral a) = character a
pattern_kind_step f (PatternKind-F.String s) = text (string_bytes s)

abbrev pub field_step : {T V : Type 0} → (T → V) →
    FieldPattern-F T (PatternKindData V) (FieldData V) (PatternData V) → FieldData V
field_step f p = record { span = p.field_span; name = p.field_name; pattern = p.pattern }

abbrev pub pattern_step : {T V : Type 0} → (T → V) →
    Pattern-F T (PatternKindData V) (FieldData V) (PatternData V) → PatternData V
pattern_step f p = pattern_at p.span p.kind

-- a pattern with each selected part seen through f
abbrev pub pattern_kind_view : {T V : Type 0} → (T → V) → PatternKind T → PatternKindData V
pattern_kind_view {T} {V} f =
    fold-PatternKind T (PatternKindData V) (FieldData V) (PatternData V) (pattern_kind_step f) (field_step f) (pattern_step f)

abbrev pub pattern_view : {T V : Type 0} → (T → V) → Pattern T → PatternData V
pattern_view {T} {V} f =
    fold-Pattern T (PatternKindData V) (FieldData V) (PatternData V) (pattern_kind_step f) (field_step f) (pattern_step f)

abbrev pub field_view : {T V : Type 0} → (T → V) → FieldPattern T → FieldData V
field_view {T} {V} f =
    fold-FieldPattern T (PatternKindData V) (FieldData V) (PatternData V) (pattern_kind_step f) (field_step f) (pattern_step f)

abbrev pub patterns_view : {T V : Type 0} → (T → V) → List (Pattern T) → Patterns V
patterns_view f ps = patterns_of (map (pattern_view f) ps)

abbrev pub fields_view : {T V : Type 0} → (T → V) → List (FieldPattern T) → Fields V
fields_view f fs = fields_of (map (field_view f) fs)

-- the same shape, with R between the selected parts
abbrev mutual
  pub SamePatternKind : {T : Type 0} → (T → T → Type 0) → PatternKindData T → PatternKindData T → Type 0
  SamePatternKind R (enumerated p ps) (enumerated q qs) = (p ≡ q) × SamePatterns R ps qs
  SamePatternKind R (structured p fs b) (structured q gs c) = (p ≡ q) × SameFields R fs gs × (b ≡ c)
  SamePatternKind R (path p) (path q) = p ≡ q
  SamePatternKind R (tuple ps) (tuple qs) = SamePatterns R ps qs
  SamePatternKind R (tuple_struct p ps) (tuple_struct q qs) = (p ≡ q) × SamePatterns R ps qs
  SamePatternKind R (number m) (number n) = m ≡ n
  SamePatternKind R underscore underscore = Unit {0}
  SamePatternKind R dot_dot dot_dot = Unit {0}
  SamePatternKind R (chosen t) (chosen u) = R t u
  SamePatternKind R (character a) (character b) = a ≡ b
  SamePatternKind R (text a) (text b) = a ≡ b
  SamePatternKind R _ _ = ⊥

  pub SamePattern : {T : Type 0} → (T → T → Type 0) → PatternData T → PatternData T → Type 0
  SamePattern R (pattern_at s k) (pattern_at t l) = (s ≡ t) × SamePatternKind R k l

  pub SamePatterns : {T : Type 0} → (T → T → Type 0) → Patterns T → Patterns T → Type 0
  SamePatterns R no_patterns no_patterns = Unit {0}
  SamePatterns R (pattern_and p ps) (pattern_and q qs) = SamePattern R p q × SamePatterns R ps qs
  SamePatterns R _ _ = ⊥

  pub SameFields : {T : Type 0} → (T → T → Type 0) → Fields T → Fields T → Type 0
  SameFields R no_fields no_fields = Unit {0}
  SameFields R (field_and s n p fs) (field_and t m q gs) = (s ≡ t) × (n ≡ m) × SamePattern R p q × SameFields R fs gs
  SameFields R _ _ = ⊥

abbrev pub SameField : {T : Type 0} → (T → T → Type 0) → FieldData T → FieldData T → Type 0
SameField R f g = (f.span ≡ g.span) × (f.name ≡ g.name) × SamePattern R f.pattern g.pattern
