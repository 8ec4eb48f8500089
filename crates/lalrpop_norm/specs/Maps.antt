-- Mapping twice is mapping the composition.
use Rattle.std.specs.Prelude.{◌≡◌, Result, Ok}
use Rattle.std.specs.Borrow.{Bor}
use Rattle.std.specs.Fn.{Mut, Called, CalledAt}
use Rattle.lalrpop_norm_tree_patterns.specs.declared.pattern.Pattern.{Pattern}
use Rattle.lalrpop_norm_tree_patterns.specs.declared.pattern.PatternKind.{PatternKind}
use Rattle.lalrpop_norm_tree_patterns.specs.declared.pattern.FieldPattern.{FieldPattern}
use Rattle.lalrpop_norm_tree_parts.specs.declared.bound.TypeBound.{TypeBound}
use Rattle.lalrpop_norm_tree_parts.specs.declared.bound.TypeBoundParameter.{TypeBoundParameter}
use Rattle.lalrpop_norm_tree_parts.specs.Walks.{Answered}
use Rattle.lalrpop_norm_tree_patterns.specs.Patterns.{pattern_view, pattern_kind_view, field_view}
use Rattle.lalrpop_norm_tree_patterns.specs.MappedPatterns.{pattern_shape, kind_shape, field_shape, chosen_in_pattern}
use Rattle.lalrpop_norm_tree_patterns.specs.MappedPatterns.{chosen_in_kind}
use Rattle.lalrpop_norm_tree_parts.specs.Bounds.{bound_view, bound_parameter_view}
use Rattle.lalrpop_norm_tree_parts.specs.MappedBounds.{bound_shape, bound_parameter_shape, types_in_bound}
use Rattle.lalrpop_norm_tree_parts.specs.MappedBounds.{types_in_parameter}

module _ {S T U E : Type 0} (calls : Mut S (Bor T × Unit {0}) (Result U E)) where
  -- each call that answers Ok answers f of what it is given
  abbrev pub Computes : (T → U) → Type 0
  Computes f = (s s' : S) (t : Bor T) (u : U) → Called calls s (t, tt) (Ok u) s' → u ≡ f t.now

  -- what the map of a pattern promises of its answer
  pub record IsMapped (p : Pattern T) (q : Pattern U) : Type 0 where
    pub before : S
    pub after : S
    pub kept : pattern_shape (pattern_view (λ u. u) q) ≡ pattern_shape (pattern_view (λ t. t) p)
    pub answered : Answered (CalledAt calls) before (chosen_in_pattern (pattern_view (λ t. t) p))
        (chosen_in_pattern (pattern_view (λ u. u) q)) after

  -- that of a pattern kind
  pub record IsMappedKind (k : PatternKind T) (l : PatternKind U) : Type 0 where
    pub before : S
    pub after : S
    pub kept : kind_shape (pattern_kind_view (λ u. u) l) ≡ kind_shape (pattern_kind_view (λ t. t) k)
    pub answered : Answered (CalledAt calls) before (chosen_in_kind (pattern_kind_view (λ t. t) k))
        (chosen_in_kind (pattern_kind_view (λ u. u) l)) after

  -- that of a field pattern
  pub record IsMappedField (d : FieldPattern T) (e : FieldPattern U) : Type 0 where
    pub before : S
    pub after : S
    pub kept : field_shape (field_view (λ u. u) e) ≡ field_shape (field_view (λ t. t) d)
    pub answered : Answered (CalledAt calls) before (chosen_in_pattern (field_view (λ t. t) d).pattern)
        (chosen_in_pattern (field_view (λ u. u) e).pattern) after

  -- that of a bound
  pub record IsMappedBound (b : TypeBound T) (c : TypeBound U) : Type 0 where
    pub before : S
    pub after : S
    pub kept : bound_shape (bound_view (λ u. u) c) ≡ bound_shape (bound_view (λ t. t) b)
    pub answered : Answered (CalledAt calls) before (types_in_bound (bound_view (λ t. t) b))
        (types_in_bound (bound_view (λ u. u) c)) after

  -- and that of a parameter of a bound
  pub record IsMappedParameter (p : TypeBoundParameter T) (q : TypeBoundParameter U) : Type 0 where
    pub before : S
    pub after : S
    pub kept : bound_parameter_shape (bound_parameter_view (λ u. u) q)
        ≡ bound_parameter_shape (bound_parameter_view (λ t. t) p)
    pub answered : Answered (CalledAt calls) before (types_in_parameter (bound_parameter_view (λ t. t) p))
        (types_in_parameter (bound_parameter_view (λ u. u) q)) after

module _ {R S B T U V E : Type 0} (first : Mut R (Bor T × Unit {0}) (Result U E))
    (second : Mut S (Bor U × Unit {0}) (Result V E))
    (both : Mut B (Bor T × Unit {0}) (Result V E)) where
  -- what is mapped by f and then by g is mapped as by their composition
  abbrev pub PatternsCompose : Type 0
  PatternsCompose = (f : T → U) (g : U → V) → Computes first f → Computes second g → Computes both (λ t. g (f t)) →
      (p : Pattern T) (q : Pattern U) (twice once : Pattern V) → IsMapped first p q → IsMapped second q twice →
      IsMapped both p once →
      pattern_view (λ v. v) twice ≡ pattern_view (λ v. v) once

  abbrev pub PatternKindsCompose : Type 0
  PatternKindsCompose = (f : T → U) (g : U → V) → Computes first f → Computes second g → Computes both (λ t. g (f t)) →
      (k : PatternKind T) (l : PatternKind U) (twice once : PatternKind V) → IsMappedKind first k l →
      IsMappedKind second l twice →
      IsMappedKind both k once → pattern_kind_view (λ v. v) twice ≡ pattern_kind_view (λ v. v) once

  abbrev pub FieldPatternsCompose : Type 0
  FieldPatternsCompose = (f : T → U) (g : U → V) → Computes first f → Computes second g → Computes both (λ t. g (f t)) →
      (d : FieldPattern T) (e : FieldPattern U) (twice once : FieldPattern V) → IsMappedField first d e →
      IsMappedField second e twice →
      IsMappedField both d once → field_view (λ v. v) twice ≡ field_view (λ v. v) once

  abbrev pub BoundsCompose : Type 0
  BoundsCompose = (f : T → U) (g : U → V) → Computes first f → Computes second g → Computes both (λ t. g (f t)) →
      (b : TypeBound T) (c : TypeBound U) (twice once : TypeBound V) → IsMappedBound first b c →
      IsMappedBound second c twice →
      IsMappedBound both b once → bound_view (λ v. v) twice ≡ bound_view (λ v. v) once

  abbrev pub BoundParametersCompose : Type 0
  BoundParametersCompose = (f : T → U) (g : U → V) → Computes first f → Computes second g →
      Computes both (λ t. g (f t)) →
      (p : TypeBoundParameter T) (q : TypeBoundParameter U) (twice once : TypeBoundParameter V) →
      IsMappedParameter first p q → IsMappedParameter second q twice →
      IsMappedParameter both p once →
      bound_parameter_view (λ v. v) twice ≡ bound_parameter_view (λ v. v) once
