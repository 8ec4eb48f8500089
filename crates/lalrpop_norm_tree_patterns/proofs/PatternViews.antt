-- Patterns that are the same apart from their selected parts, seen through a view of those.
use Rattle.std.proofs.Common.{◌≡◌, List, [], ◌∷◌, map, refl, sym, ap, subst, ◌∙◌}
use Rattle.lalrpop_norm_tree_names.specs.declared.names.Span.{Span}
use Rattle.lalrpop_norm_tree_patterns.specs.declared.pattern.FieldPattern.{FieldPattern}
use Rattle.lalrpop_norm_tree_patterns.specs.declared.pattern.Pattern.{Pattern}
use Rattle.lalrpop_norm_tree_patterns.specs.declared.pattern.PatternKind.{PatternKind}
use Rattle.lalrpop_norm_tree_patterns.specs.declared.pattern.PatternKind.TheFolds.{ind-Pattern, fold-roll-PatternKind, fold-roll-FieldPattern, fold-roll-Pattern, map-PatternKind, map-FieldPattern, map-Pattern}
use Rattle.lalrpop_norm_tree_patterns.specs.declared.pattern.PatternKind.TheOpen.{PatternKind-F, FieldPattern-F, Pattern-F}
use Rattle.lalrpop_norm_tree_patterns.specs.declared.pattern.PatternKind.TheViews.{roll-PatternKind, roll-FieldPattern, roll-Pattern, rolls-struct-Pattern}
use Rattle.lalrpop_norm_tree_patterns.specs.MappedPatterns.{mapped_kind, mapped_pattern, mapped_patterns, mapped_fields, mapped_field}
use Rattle.lalrpop_norm_tree_parts.specs.Paths.{path_view}
use Rattle.lalrpop_norm_tree_patterns.specs.Patterns.{PatternKindData, enumerated, structured, path, tuple, tuple_struct, number, underscore, dot_dot, chosen, character, text, PatternData, pattern_at, Patterns, no_patterns, pattern_and, Fields, no_fields, field_and, FieldData, patterns_of, fields_of, pattern_kind_step, field_step, pattern_step, pattern_kind_view, field_view, pattern_view, SamePatternKind, SamePattern, SamePatterns, SameFields}

-- the same shape with related parts, where f takes related parts to one value
mutual
  same_mapped_kind : {T V : Type 0} (R : T → T → Type 0) (f : T → V) → ((t u : T) → R t u → f u ≡ f t) → (k l : PatternKindData T) → SamePatternKind R k l → mapped_kind f l ≡ mapped_kind f k
  same_mapped_kind R f one (enumerated p ps) (enumerated q qs) h = let e = same_mapped_patterns R f one ps qs h.1 in cc h.0
  same_mapped_kind R f one (structured p fs b) (structured q gs c) h = let e = same_mapped_fields R f one fs gs h.1 in cc (h.0, h.2)
  same_mapped_kind R f one (path p) (path q) h = cc
  same_mapped_kind R f one (tuple ps) (tuple qs) h = ap tuple (same_mapped_patterns R f one ps qs h)
  same_mapped_kind R f one (tuple_struct p ps) (tuple_struct q qs) h = let e = same_mapped_patterns R f one ps qs h.1 in cc h.0
  same_mapped_kind R f one (number m) (number n) h = cc
  same_mapped_kind R f one underscore underscore h = refl
  same_mapped_kind R f one dot_dot dot_dot h = refl
  same_mapped_kind R f one (chosen t) (chosen u) h = ap chosen (one t u h)
  same_mapped_kind R f one (character a) (character b) h = cc
  same_mapped_kind R f one (text a) (text b) h = cc
  same_mapped_kind R f one _ _ h = absurd h

  same_mapped : {T V : Type 0} (R : T → T → Type 0) (f : T → V) → ((t u : T) → R t u → f u ≡ f t) → (p q : PatternData T) → SamePattern R p q → mapped_pattern f q ≡ mapped_pattern f p
  same_mapped R f one (pattern_at s k) (pattern_at t l) h = let e = same_mapped_kind R f one k l h.1 in cc h.0

  same_mapped_patterns : {T V : Type 0} (R : T → T → Type 0) (f : T → V) → ((t u : T) → R t u → f u ≡ f t) → (ps qs : Patterns T) → SamePatterns R ps qs → mapped_patterns f qs ≡ mapped_patterns f ps
  same_mapped_patterns R f one no_patterns no_patterns h = refl
  same_mapped_patterns R f one (pattern_and p ps) (pattern_and q qs) h =
      let first = same_mapped R f one p q h.0 in
      let rest = same_mapped_patterns R f one ps qs h.1 in
      cc
  same_mapped_patterns R f one _ _ h = absurd h

  same_mapped_fields : {T V : Type 0} (R : T → T → Type 0) (f : T → V) → ((t u : T) → R t u → f u ≡ f t) → (fs gs : Fields T) → SameFields R fs gs → mapped_fields f gs ≡ mapped_fields f fs
  same_mapped_fields R f one no_fields no_fields h = refl
  same_mapped_fields R f one (field_and s n p fs) (field_and t m q gs) h =
      let first = same_mapped R f one p q h.2 in
      let rest = same_mapped_fields R f one fs gs h.3 in
      cc (h.0, h.1)
  same_mapped_fields R f one _ _ h = absurd h

-- a view through f is the plain view with each part through f
abbrev KindClaim : {T V : Type 0} → (T → V) → PatternKind T → Type 0
KindClaim f k = pattern_kind_view f k ≡ mapped_kind f (pattern_kind_view (λ t. t) k)

abbrev FieldClaim : {T V : Type 0} → (T → V) → FieldPattern T → Type 0
FieldClaim f d = field_view f d ≡ mapped_field f (field_view (λ t. t) d)

abbrev pub PatternClaim : {T V : Type 0} → (T → V) → Pattern T → Type 0
PatternClaim f p = pattern_view f p ≡ mapped_pattern f (pattern_view (λ t. t) p)

each_pattern : {T V : Type 0} (f : T → V) (es : List ((p : Pattern T) × PatternClaim f p)) → patterns_of (map (pattern_view f) (map (λ e. e.0) es)) ≡ mapped_patterns f (patterns_of (map (pattern_view (λ t. t)) (map (λ e. e.0) es)))
each_pattern f [] = refl
each_pattern f (e ∷ es) =
    let first = e.1 in
    let rest = each_pattern f es in
    cc

each_field : {T V : Type 0} (f : T → V) (es : List ((p : FieldPattern T) × FieldClaim f p)) → fields_of (map (field_view f) (map (λ e. e.0) es)) ≡ mapped_fields f (fields_of (map (field_view (λ t. t)) (map (λ e. e.0) es)))
each_field f [] = refl
each_field f (e ∷ es) =
    let first = ap (λ d. field_and d.span d.name d.pattern (fields_of (map (field_view f) (map (λ e. e.0) es)))) e.1 in
    first ∙ ap (field_and (field_view (λ t. t) e.0).span (field_view (λ t. t) e.0).name (mapped_pattern f (field_view (λ t. t) e.0).pattern)) (each_field f es)

-- one layer of a pattern, whose parts are already known to meet the claim
abbrev kind_parts : {T V : Type 0} (f : T → V) (y : PatternKind-F T ((k : PatternKind T) × KindClaim f k) ((d : FieldPattern T) × FieldClaim f d) ((p : Pattern T) × PatternClaim f p)) → PatternKind-F T (PatternKind T) (FieldPattern T) (Pattern T)
kind_parts {T} f y = map-PatternKind T ((k : PatternKind T) × KindClaim f k) ((d : FieldPattern T) × FieldClaim f d) ((p : Pattern T) × PatternClaim f p) (PatternKind T) (FieldPattern T) (Pattern T) (λ e. e.0) (λ e. e.0) (λ e. e.0) y

kind_layer : {T V : Type 0} (f : T → V) (y : PatternKind-F T ((k : PatternKind T) × KindClaim f k) ((d : FieldPattern T) × FieldClaim f d) ((p : Pattern T) × PatternClaim f p)) → pattern_kind_step f (map-PatternKind T (PatternKind T) (FieldPattern T) (Pattern T) (PatternKindData V) (FieldData V) (PatternData V) (pattern_kind_view f) (field_view f) (pattern_view f) (kind_parts f y)) ≡ mapped_kind f (pattern_kind_step (λ (t : T). t) (map-PatternKind T (PatternKind T) (FieldPattern T) (Pattern T) (PatternKindData T) (FieldData T) (PatternData T) (pattern_kind_view (λ (t : T). t)) (field_view (λ (t : T). t)) (pattern_view (λ (t : T). t)) (kind_parts f y)))
kind_layer f (PatternKind-F.Enum p ps) = ap (enumerated (path_view p)) (each_pattern f ps.items)
kind_layer f (PatternKind-F.Struct p fs rest) = ap (λ gs. structured (path_view p) gs rest) (each_field f fs.items)
kind_layer f (PatternKind-F.Path p) = refl
kind_layer f (PatternKind-F.Tuple ps) = ap tuple (each_pattern f ps.items)
kind_layer f (PatternKind-F.TupleStruct p ps) = ap (tuple_struct (path_view p)) (each_pattern f ps.items)
kind_layer f (PatternKind-F.Usize n) = refl
kind_layer f PatternKind-F.Underscore = refl
kind_layer f PatternKind-F.DotDot = refl
kind_layer f (PatternKind-F.Choose t) = refl
kind_layer f (PatternKind-F.CharLiteral a) = refl
kind_layer f (PatternKind-F.String s) = refl

kind_claim : {T V : Type 0} (f : T → V) (y : PatternKind-F T ((k : PatternKind T) × KindClaim f k) ((d : FieldPattern T) × FieldClaim f d) ((p : Pattern T) × PatternClaim f p)) → KindClaim f (roll-PatternKind T (kind_parts f y))
kind_claim {T} {V} f y =
    fold-roll-PatternKind T (PatternKindData V) (FieldData V) (PatternData V) (pattern_kind_step f) (field_step f) (pattern_step f) (kind_parts f y)
    ∙ kind_layer f y
    ∙ ap (mapped_kind f) (sym (fold-roll-PatternKind T (PatternKindData T) (FieldData T) (PatternData T) (pattern_kind_step (λ (t : T). t)) (field_step (λ (t : T). t)) (pattern_step (λ (t : T). t)) (kind_parts f y)))

field_claim : {T V : Type 0} (f : T → V) (y : FieldPattern-F T ((k : PatternKind T) × KindClaim f k) ((d : FieldPattern T) × FieldClaim f d) ((p : Pattern T) × PatternClaim f p)) → FieldClaim f (roll-FieldPattern T (map-FieldPattern T ((k : PatternKind T) × KindClaim f k) ((d : FieldPattern T) × FieldClaim f d) ((p : Pattern T) × PatternClaim f p) (PatternKind T) (FieldPattern T) (Pattern T) (λ e. e.0) (λ e. e.0) (λ e. e.0) y))
field_claim {T} {V} f y =
    let parts : FieldPattern-F T (PatternKind T) (FieldPattern T) (Pattern T) = map-FieldPattern T ((k : PatternKind T) × KindClaim f k) ((d : FieldPattern T) × FieldClaim f d) ((p : Pattern T) × PatternClaim f p) (PatternKind T) (FieldPattern T) (Pattern T) (λ e. e.0) (λ e. e.0) (λ e. e.0) y in
    fold-roll-FieldPattern T (PatternKindData V) (FieldData V) (PatternData V) (pattern_kind_step f) (field_step f) (pattern_step f) parts
    ∙ ap (λ (d : PatternData V). let r : FieldData V = record { span = y.field_span; name = y.field_name; pattern = d } in r) y.pattern.1
    ∙ ap (mapped_field f) (sym (fold-roll-FieldPattern T (PatternKindData T) (FieldData T) (PatternData T) (pattern_kind_step (λ (t : T). t)) (field_step (λ (t : T). t)) (pattern_step (λ (t : T). t)) parts))

pattern_claim : {T V : Type 0} (f : T → V) (y : Pattern-F T ((k : PatternKind T) × KindClaim f k) ((d : FieldPattern T) × FieldClaim f d) ((p : Pattern T) × PatternClaim f p)) → PatternClaim f (roll-Pattern T (map-Pattern T ((k : PatternKind T) × KindClaim f k) ((d : FieldPattern T) × FieldClaim f d) ((p : Pattern T) × PatternClaim f p) (PatternKind T) (FieldPattern T) (Pattern T) (λ e. e.0) (λ e. e.0) (λ e. e.0) y))
pattern_claim {T} {V} f y =
    let parts : Pattern-F T (PatternKind T) (FieldPattern T) (Pattern T) = map-Pattern T ((k : PatternKind T) × KindClaim f k) ((d : FieldPattern T) × FieldClaim f d) ((p : Pattern T) × PatternClaim f p) (PatternKind T) (FieldPattern T) (Pattern T) (λ e. e.0) (λ e. e.0) (λ e. e.0) y in
    fold-roll-Pattern T (PatternKindData V) (FieldData V) (PatternData V) (pattern_kind_step f) (field_step f) (pattern_step f) parts
    ∙ ap (λ (k : PatternKindData V). pattern_at y.span k) y.kind.1
    ∙ ap (mapped_pattern f) (sym (fold-roll-Pattern T (PatternKindData T) (FieldData T) (PatternData T) (pattern_kind_step (λ (t : T). t)) (field_step (λ (t : T). t)) (pattern_step (λ (t : T). t)) parts))

-- a pattern seen through f is the pattern itself, with each part through f
pub view_mapped : {T V : Type 0} (f : T → V) (p : Pattern T) → PatternClaim f p
view_mapped {T} f p =
    ind-Pattern T (KindClaim f) (FieldClaim f) (PatternClaim f)
    (λ x y is. subst (λ z. KindClaim f (roll-PatternKind T z)) is (kind_claim f y))
    (λ x y is. subst (λ z. FieldClaim f (roll-FieldPattern T z)) is (field_claim f y))
    (λ x y is. subst (λ z. PatternClaim f (roll-Pattern T z)) is (pattern_claim f y))
    p

-- patterns that are the same apart from related parts have equal views, where f takes related parts to one value
pub same_views : {T V : Type 0} (R : T → T → Type 0) (f : T → V) → ((t u : T) → R t u → f u ≡ f t) → (p q : Pattern T) → SamePattern R (pattern_view (λ (t : T). t) p) (pattern_view (λ (t : T). t) q) → pattern_view f q ≡ pattern_view f p
same_views R f one p q h = view_mapped f q ∙ same_mapped R f one _ _ h ∙ sym (view_mapped f p)

-- one level of a pattern's view
pub pattern_seen : {T V : Type 0} (f : T → V) (s : Span) (k : PatternKind T) → pattern_view f (let p : Pattern T = record { span = s; kind = k } in p) ≡ pattern_at s (pattern_kind_view f k)
pattern_seen {T} {V} f s k =
    let x : Pattern-F T (PatternKind T) (FieldPattern T) (Pattern T) = record { span = s; kind = k } in
    ap (pattern_view f) (sym (rolls-struct-Pattern x))
    ∙ fold-roll-Pattern T (PatternKindData V) (FieldData V) (PatternData V) (pattern_kind_step f) (field_step f) (pattern_step f) x
