-- One more pattern on both sides, and copies of one level.
use Rattle.std.proofs.Common.{◌≡◌, ℕ, Result, Ok, Err, IfOk, Bool, List, [], ◌∷◌, ◌++◌, String, Vec, Global, refl, sym}
use Rattle.std.specs.Prelude.{string_bytes}
use Rattle.lalrpop_norm_tree_parts.specs.declared.path.Path.{Path}
use Rattle.lalrpop_norm_tree_patterns.specs.declared.pattern.Pattern.{Pattern}
use Rattle.lalrpop_norm_tree_patterns.specs.declared.pattern.FieldPattern.{FieldPattern}
use Rattle.lalrpop_norm_tree_patterns.specs.declared.pattern.PatternKind.{PatternKind}
use Rattle.lalrpop_norm_tree_patterns.specs.declared.pattern.PatternKind.TheVariants as variant
use Rattle.lalrpop_norm_tree_parts.specs.Paths.{path_view}
use Rattle.lalrpop_norm_tree_patterns.specs.Patterns.{PatternKindData, enumerated, structured, tuple_struct, FieldData, SamePatternKind, pattern_kind_view, pattern_view, field_view, patterns_view, fields_view, SamePattern, SamePatterns, SameField, SameFields}
use Rattle.lalrpop_norm_tree_patterns.proofs.PatternSeen.{pattern_is, field_is, enum_seen, struct_seen, path_seen, tuple_seen, tuple_struct_seen, number_seen, underscore_seen, dot_dot_seen, chosen_seen, character_seen, text_seen}

pub same_more : {T : Type 0} (R : T → T → Type 0) (ps qs : List (Pattern T)) (p q : Pattern T) → SamePatterns R (patterns_view (λ t. t) ps) (patterns_view (λ t. t) qs) → SamePattern R (pattern_view (λ t. t) p) (pattern_view (λ t. t) q) → SamePatterns R (patterns_view (λ t. t) (ps ++ p ∷ [])) (patterns_view (λ t. t) (qs ++ q ∷ []))
same_more R [] [] p q h k = (k, tt)
same_more R [] (y ∷ qs) p q h k = absurd h
same_more R (x ∷ ps) [] p q h k = absurd h
same_more R (x ∷ ps) (y ∷ qs) p q h k = (h.0, same_more R ps qs p q h.1 k)

pub same_more_fields : {T : Type 0} (R : T → T → Type 0) (ps qs : List (FieldPattern T)) (p q : FieldPattern T) → SameFields R (fields_view (λ t. t) ps) (fields_view (λ t. t) qs) → SameField R (field_view (λ t. t) p) (field_view (λ t. t) q) → SameFields R (fields_view (λ t. t) (ps ++ p ∷ [])) (fields_view (λ t. t) (qs ++ q ∷ []))
same_more_fields R [] [] p q h k = (k.0, k.1, k.2, tt)
same_more_fields R [] (y ∷ qs) p q h k = absurd h
same_more_fields R (x ∷ ps) [] p q h k = absurd h
same_more_fields R (x ∷ ps) (y ∷ qs) p q h k = (h.0, h.1, h.2, same_more_fields R ps qs p q h.3 k)

-- what is made of copied parts is a copy
kind_copied : {T E : Type 0} (R : T → T → Type 0) (r : Result (PatternKind T) E) (from to : PatternKindData T) → IfOk r (λ k. pattern_kind_view (λ t. t) k ≡ to) → SamePatternKind R from to → IfOk r (λ k. SamePatternKind R from (pattern_kind_view (λ t. t) k))
kind_copied R (Ok k) from to e s = rw (e) s
kind_copied R (Err _) from to e s = tt

module _ {T E : Type 0} (R : T → T → Type 0) (r : Result (PatternKind T) E) (k : PatternKind T) (p : Path) where
  pub enumerated_copied : (ps : Vec (Pattern T) Global) (qs : List (Pattern T)) → k ≡ variant.Enum p ps → SamePatterns R (patterns_view (λ t. t) ps.items) (patterns_view (λ t. t) qs) → IfOk r (λ l. pattern_kind_view (λ t. t) l ≡ enumerated (path_view p) (patterns_view (λ t. t) qs)) → IfOk r (λ l. SamePatternKind R (pattern_kind_view (λ t. t) k) (pattern_kind_view (λ t. t) l))
  enumerated_copied ps qs is same made = rw (is, enum_seen p ps) (kind_copied R r (enumerated (path_view p) (patterns_view (λ t. t) ps.items)) (enumerated (path_view p) (patterns_view (λ t. t) qs)) made (refl, same))

  pub structured_copied : (fs : Vec (FieldPattern T) Global) (gs : List (FieldPattern T)) (rest : Bool) → k ≡ variant.Struct p fs rest → SameFields R (fields_view (λ t. t) fs.items) (fields_view (λ t. t) gs) → IfOk r (λ l. pattern_kind_view (λ t. t) l ≡ structured (path_view p) (fields_view (λ t. t) gs) rest) → IfOk r (λ l. SamePatternKind R (pattern_kind_view (λ t. t) k) (pattern_kind_view (λ t. t) l))
  structured_copied fs gs rest is same made = rw (is, struct_seen p fs rest) (kind_copied R r (structured (path_view p) (fields_view (λ t. t) fs.items) rest) (structured (path_view p) (fields_view (λ t. t) gs) rest) made (refl, same, refl))

  pub tuple_struct_copied : (ps : Vec (Pattern T) Global) (qs : List (Pattern T)) → k ≡ variant.TupleStruct p ps → SamePatterns R (patterns_view (λ t. t) ps.items) (patterns_view (λ t. t) qs) → IfOk r (λ l. pattern_kind_view (λ t. t) l ≡ tuple_struct (path_view p) (patterns_view (λ t. t) qs)) → IfOk r (λ l. SamePatternKind R (pattern_kind_view (λ t. t) k) (pattern_kind_view (λ t. t) l))
  tuple_struct_copied ps qs is same made = rw (is, tuple_struct_seen p ps) (kind_copied R r (tuple_struct (path_view p) (patterns_view (λ t. t) ps.items)) (tuple_struct (path_view p) (patterns_view (λ t. t) qs)) made (refl, same))

-- the kinds of pattern that are copied in place
module _ {T : Type 0} (R : T → T → Type 0) (k : PatternKind T) where
  pub path_copied : (p q : Path) → k ≡ variant.Path p → path_view q ≡ path_view p → SamePatternKind R (pattern_kind_view (λ t. t) k) (pattern_kind_view (λ t. t) (variant.Path q))
  path_copied p q is same = rw (is, path_seen p, path_seen q) (sym same)

  pub tuple_copied : (ps qs : Vec (Pattern T) Global) → k ≡ variant.Tuple ps → SamePatterns R (patterns_view (λ t. t) ps.items) (patterns_view (λ t. t) qs.items) → SamePatternKind R (pattern_kind_view (λ t. t) k) (pattern_kind_view (λ t. t) (variant.Tuple qs))
  tuple_copied ps qs is same = rw (is, tuple_seen ps, tuple_seen qs) same

  pub number_copied : (n : ℕ) → k ≡ variant.Usize n → SamePatternKind R (pattern_kind_view (λ t. t) k) (pattern_kind_view (λ t. t) (variant.Usize n))
  number_copied n is = rw (is, number_seen n) refl

  pub underscore_copied : k ≡ variant.Underscore → SamePatternKind R (pattern_kind_view (λ t. t) k) (pattern_kind_view (λ (t : T). t) variant.Underscore)
  underscore_copied is = rw (is, underscore_seen {T = T}) tt

  pub dot_dot_copied : k ≡ variant.DotDot → SamePatternKind R (pattern_kind_view (λ t. t) k) (pattern_kind_view (λ (t : T). t) variant.DotDot)
  dot_dot_copied is = rw (is, dot_dot_seen {T = T}) tt

  pub chosen_copied : (t u : T) → k ≡ variant.Choose t → R t u → SamePatternKind R (pattern_kind_view (λ t. t) k) (pattern_kind_view (λ t. t) (variant.Choose u))
  chosen_copied t u is same = rw (is, chosen_seen t, chosen_seen u) same

  pub character_copied : (a b : List ℕ) → k ≡ variant.CharLiteral a → b ≡ a → SamePatternKind R (pattern_kind_view (λ t. t) k) (pattern_kind_view (λ t. t) (variant.CharLiteral b))
  character_copied a b is same = rw (is, character_seen {T = T} a, character_seen {T = T} b) (sym same)

  pub text_copied : (a b : String Global) → k ≡ variant.String a → string_bytes b ≡ string_bytes a → SamePatternKind R (pattern_kind_view (λ t. t) k) (pattern_kind_view (λ t. t) (variant.String b))
  text_copied a b is same = rw (is, text_seen {T = T} a, text_seen {T = T} b) (sym same)

-- a pattern, and a field, whose part was copied
module _ {T : Type 0} (R : T → T → Type 0) where
  pub pattern_copied : (p q : Pattern T) → p.span ≡ q.span → SamePatternKind R (pattern_kind_view (λ t. t) p.kind) (pattern_kind_view (λ t. t) q.kind) → SamePattern R (pattern_view (λ t. t) p) (pattern_view (λ t. t) q)
  pattern_copied p q at same = rw (pattern_is p, pattern_is q) (at, same)

  field_copied_as : {E : Type 0} (r : Result (FieldPattern T) E) (from to : FieldData T) → IfOk r (λ d. field_view (λ t. t) d ≡ to) → SameField R from to → IfOk r (λ d. SameField R from (field_view (λ t. t) d))
  field_copied_as (Ok d) from to e s = rw (e) s
  field_copied_as (Err _) from to e s = tt

  pub field_copied : {E : Type 0} (d : FieldPattern T) (r : Result (FieldPattern T) E) (q : Pattern T) → IfOk r (λ e. field_view (λ t. t) e ≡ (let f : FieldData T = record { span = d.field_span; name = d.field_name; pattern = pattern_view (λ t. t) q } in f))
      → SamePattern R (pattern_view (λ t. t) d.pattern) (pattern_view (λ t. t) q) → IfOk r (λ e. SameField R (field_view (λ t. t) d) (field_view (λ t. t) e))
  field_copied d r q made same = rw (field_is d) (field_copied_as r (let f : FieldData T = record { span = d.field_span; name = d.field_name; pattern = pattern_view (λ t. t) d.pattern } in f) (let f : FieldData T = record { span = d.field_span; name = d.field_name; pattern = pattern_view (λ t. t) q } in f) made (refl, refl, same))
