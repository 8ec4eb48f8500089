-- Mapping twice is mapping the composition.
use Rattle.std.proofs.Common.{◌≡◌, Bor, Result, Ok, map, refl, sym, ap, ◌∙◌}
use Rattle.std.proofs.lemmas.List.{map-id}
use Rattle.std.proofs.lemmas.Simd.{map-map}
use Rattle.std.specs.Fn.{Mut, CalledAt}
use Rattle.lalrpop_norm_tree_names.specs.declared.names.Span.{Span}
use Rattle.lalrpop_norm_tree_patterns.specs.declared.pattern.Pattern.{Pattern}
use Rattle.lalrpop_norm_tree_patterns.specs.declared.pattern.PatternKind.{PatternKind}
use Rattle.lalrpop_norm_tree_patterns.specs.declared.pattern.FieldPattern.{FieldPattern}
use Rattle.lalrpop_norm_tree_parts.specs.declared.bound.TypeBound.{TypeBound}
use Rattle.lalrpop_norm_tree_parts.specs.declared.bound.TypeBoundParameter.{TypeBoundParameter}
use Rattle.lalrpop_norm_tree_patterns.specs.Patterns.{FieldData, pattern_at, pattern_view}
use Rattle.lalrpop_norm_tree_patterns.specs.MappedPatterns.{mapped_pattern}
use Rattle.lalrpop_norm_tree_parts.specs.Bounds.{BoundParameterData, lifetime_parameter, type_parameter, associated_type, bound_view, bound_parameter_view}
use Rattle.lalrpop_norm_tree_parts.specs.MappedBounds.{mapped_bound, bound_parameter_shape, types_in_parameter}
use Rattle.lalrpop_norm_tree_parts.proofs.AnsweredWalks.{answered_mapped}
use Rattle.lalrpop_norm_tree_patterns.proofs.MapLaws.{pattern_map_gives, pattern_twice}
use Rattle.lalrpop_norm_tree_patterns.proofs.PatternSeen.{field_is}
use Rattle.lalrpop_norm_tree_patterns.proofs.PatternViews.{pattern_seen}
use Rattle.lalrpop_norm_tree_parts.proofs.BoundMapLaws.{bound_map_gives, bound_twice}
use Rattle.lalrpop_norm.specs.Maps.{Computes, IsMapped, IsMappedKind, IsMappedField, IsMappedBound, IsMappedParameter, PatternsCompose, PatternKindsCompose, FieldPatternsCompose, BoundsCompose, BoundParametersCompose}

mapped_by : {S T U E : Type 0} (calls : Mut S (Bor T × Unit {0}) (Result U E)) (f : T → U) → Computes calls f → (p : Pattern T) (q : Pattern U) →
    IsMapped calls p q → pattern_view (λ u. u) q ≡ mapped_pattern f (pattern_view (λ t. t) p)
mapped_by calls f each p q m = pattern_map_gives calls (λ t. t) (λ u. u) f each m.before m.after p (Ok q) m.kept m.answered

bound_mapped_by : {S T U E : Type 0} (calls : Mut S (Bor T × Unit {0}) (Result U E)) (f : T → U) → Computes calls f → (b : TypeBound T) (c : TypeBound U) →
    IsMappedBound calls b c → bound_view (λ u. u) c ≡ mapped_bound f (bound_view (λ t. t) b)
bound_mapped_by calls f each b c m = bound_map_gives calls (λ t. t) (λ u. u) f each m.before m.after b (Ok c) m.kept m.answered

-- a pattern of that kind
abbrev of_kind : {T : Type 0} → Span → PatternKind T → Pattern T
of_kind s k = record { span = s; kind = k }

-- what is mapped as a kind is mapped as the kind of a pattern
kind_in_pattern : {S T U E : Type 0} (calls : Mut S (Bor T × Unit {0}) (Result U E)) (s : Span) (k : PatternKind T) (l : PatternKind U) → IsMappedKind calls k l → IsMapped calls (of_kind s k) (of_kind s l)
kind_in_pattern calls s k l m = record {
  before = m.before;
  after = m.after;
  kept = rw (pattern_seen (λ u. u) s l, pattern_seen (λ t. t) s k) (ap (pattern_at s) m.kept);
  answered = rw (pattern_seen (λ u. u) s l, pattern_seen (λ t. t) s k) m.answered;
}

-- the pattern of a field that is mapped is mapped
pattern_of_field : {S T U E : Type 0} (calls : Mut S (Bor T × Unit {0}) (Result U E)) (d : FieldPattern T) (e : FieldPattern U) → IsMappedField calls d e → IsMapped calls d.pattern e.pattern
pattern_of_field calls d e m = record {
  before = m.before;
  after = m.after;
  kept = ap (λ (x : FieldData (Unit {0})). x.pattern) (rw (field_is e, field_is d) at m.kept);
  answered = rw (field_is e, field_is d) at m.answered;
}

span_kept : {S T U E : Type 0} (calls : Mut S (Bor T × Unit {0}) (Result U E)) (d : FieldPattern T) (e : FieldPattern U) → IsMappedField calls d e → e.field_span ≡ d.field_span
span_kept calls d e m = ap (λ (x : FieldData (Unit {0})). x.span) (rw (field_is e, field_is d) at m.kept)

name_kept : {S T U E : Type 0} (calls : Mut S (Bor T × Unit {0}) (Result U E)) (d : FieldPattern T) (e : FieldPattern U) → IsMappedField calls d e → e.field_name ≡ d.field_name
name_kept calls d e m = ap (λ (x : FieldData (Unit {0})). x.name) (rw (field_is e, field_is d) at m.kept)

-- the types of a mapped parameter
types_mapped_by : {S T U E : Type 0} (calls : Mut S (Bor T × Unit {0}) (Result U E)) (f : T → U) → Computes calls f → (p : TypeBoundParameter T) (q : TypeBoundParameter U) → IsMappedParameter calls p q
    → types_in_parameter (bound_parameter_view (λ u. u) q) ≡ map f (types_in_parameter (bound_parameter_view (λ t. t) p))
types_mapped_by calls f each p q m =
    sym (map-id (types_in_parameter (bound_parameter_view (λ u. u) q)))
    ∙ answered_mapped (CalledAt calls) (λ _. Unit {0}) (λ u. u) f (λ s s' t u is k. (each s s' k.shown u k.called ∙ ap f k.shows, tt)) m.before m.after
    (types_in_parameter (bound_parameter_view (λ t. t) p)) (types_in_parameter (bound_parameter_view (λ u. u) q)) tt m.answered

-- parameters of one shape with the same types are the same
same_by_types : {V : Type 0} (p q : BoundParameterData V) → bound_parameter_shape p ≡ bound_parameter_shape q → types_in_parameter p ≡ types_in_parameter q → p ≡ q
same_by_types (lifetime_parameter l) (lifetime_parameter m) e h = cc
same_by_types (type_parameter t) (type_parameter u) e h = cc
same_by_types (associated_type a t) (associated_type b u) e h = cc
same_by_types _ _ e h = cc

module _ {R S B T U V E : Type 0} (first : Mut R (Bor T × Unit {0}) (Result U E)) (second : Mut S (Bor U × Unit {0}) (Result V E))
    (both : Mut B (Bor T × Unit {0}) (Result V E)) where
  pub patterns_compose : PatternsCompose first second both
  patterns_compose f g by_f by_g by_both p q twice once one two whole =
      mapped_by second g by_g q twice two
      ∙ ap (mapped_pattern g) (mapped_by first f by_f p q one)
      ∙ pattern_twice f g (pattern_view (λ t. t) p)
      ∙ sym (mapped_by both (λ t. g (f t)) by_both p once whole)

  pub kinds_compose : PatternKindsCompose first second both
  kinds_compose f g by_f by_g by_both k l twice once one two whole =
      let s : Span = record { 0 = 0; 1 = 0 } in
      let same = patterns_compose f g by_f by_g by_both (of_kind s k) (of_kind s l) (of_kind s twice) (of_kind s once) (kind_in_pattern first s k l one) (kind_in_pattern second s l twice two) (kind_in_pattern both s k once whole) in
      let seen = rw (pattern_seen (λ v. v) s twice, pattern_seen (λ v. v) s once) at same in
      cc

  pub fields_compose : FieldPatternsCompose first second both
  fields_compose f g by_f by_g by_both d e twice once one two whole =
      let same = patterns_compose f g by_f by_g by_both d.pattern e.pattern twice.pattern once.pattern (pattern_of_field first d e one) (pattern_of_field second e twice two) (pattern_of_field both d once whole) in
      let span = span_kept second e twice two ∙ span_kept first d e one ∙ sym (span_kept both d once whole) in
      let name = name_kept second e twice two ∙ name_kept first d e one ∙ sym (name_kept both d once whole) in
      rw (field_is twice, field_is once, span, name, same) refl

  pub bounds_compose : BoundsCompose first second both
  bounds_compose f g by_f by_g by_both b c twice once one two whole =
      bound_mapped_by second g by_g c twice two
      ∙ ap (mapped_bound g) (bound_mapped_by first f by_f b c one)
      ∙ bound_twice f g (bound_view (λ t. t) b)
      ∙ sym (bound_mapped_by both (λ t. g (f t)) by_both b once whole)

  pub parameters_compose : BoundParametersCompose first second both
  parameters_compose f g by_f by_g by_both p q twice once one two whole =
      same_by_types (bound_parameter_view (λ v. v) twice) (bound_parameter_view (λ v. v) once)
      (two.kept ∙ one.kept ∙ sym whole.kept)
      (types_mapped_by second g by_g q twice two
      ∙ ap (map g) (types_mapped_by first f by_f p q one)
      ∙ map-map g f (types_in_parameter (bound_parameter_view (λ t. t) p))
      ∙ sym (types_mapped_by both (λ t. g (f t)) by_both p once whole))
