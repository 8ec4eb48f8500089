-- What the walks over patterns go down by: what a pattern holds is less deep than the pattern.
use Rattle.std.proofs.Common.{◌≡◌, ℕ, ◌+◌, ◌*◌, ◌<◌, length, get_or, Bool, List, Vec, Global, arith}
use denote.Param.Weighed.{most, at_most}
use Rattle.lalrpop_norm_tree_parts.specs.declared.path.Path.{Path}
use Rattle.lalrpop_norm_tree_patterns.specs.declared.pattern.Pattern.{Pattern}
use Rattle.lalrpop_norm_tree_patterns.specs.declared.pattern.FieldPattern.{FieldPattern}
use Rattle.lalrpop_norm_tree_patterns.specs.declared.pattern.PatternKind.{PatternKind}
use Rattle.lalrpop_norm_tree_patterns.specs.declared.pattern.PatternKind.TheVariants as variant
use Rattle.lalrpop_norm_tree_patterns.specs.declared.pattern.PatternKind.TheViews.{size-Pattern, size-FieldPattern, size-PatternKind, size_is-Pattern, size_is-FieldPattern, sized-Enum, sized-Struct, sized-Tuple, sized-TupleStruct}

module _ {T : Type 0} (t : ℕ) where
  pub to_kind : (p : Pattern T) → 2 * size-Pattern T p + 0 ≡ t → 2 * size-PatternKind T p.kind + 0 < t
  to_kind p is = omega (arith, size_is-Pattern T p)

  pub to_pattern : (d : FieldPattern T) → 2 * size-FieldPattern T d + 0 ≡ t → 2 * size-Pattern T d.pattern + 0 < t
  to_pattern d is = omega (arith, size_is-FieldPattern T d)

  pub to_one : (ps : List (Pattern T)) (i : ℕ) (p : Pattern T) → i < length ps → p ≡ get_or ps i p → 2 * most (size-Pattern T) ps + 1 ≡ t → 2 * size-Pattern T p + 0 < t
  to_one ps i p h at is = rw (at) (omega (arith, at_most (size-Pattern T) ps i p h))

  pub to_one_field : (fs : List (FieldPattern T)) (i : ℕ) (d : FieldPattern T) → i < length fs → d ≡ get_or fs i d → 2 * most (size-FieldPattern T) fs + 1 ≡ t → 2 * size-FieldPattern T d + 0 < t
  to_one_field fs i d h at is = rw (at) (omega (arith, at_most (size-FieldPattern T) fs i d h))

  module _ (k : PatternKind T) where
    pub to_enum : (p : Path) (ps : Vec (Pattern T) Global) (xs : List (Pattern T)) → k ≡ variant.Enum p ps → xs ≡ ps.items → 2 * size-PatternKind T k + 0 ≡ t → 2 * most (size-Pattern T) xs + 1 < t
    to_enum p ps xs of at is = rw (at) (omega (arith, rw (of) at is, sized-Enum T p ps))

    pub to_struct : (p : Path) (fs : Vec (FieldPattern T) Global) (rest : Bool) (xs : List (FieldPattern T)) → k ≡ variant.Struct p fs rest → xs ≡ fs.items → 2 * size-PatternKind T k + 0 ≡ t → 2 * most (size-FieldPattern T) xs + 1 < t
    to_struct p fs rest xs of at is = rw (at) (omega (arith, rw (of) at is, sized-Struct T p fs rest))

    pub to_tuple : (ps : Vec (Pattern T) Global) (xs : List (Pattern T)) → k ≡ variant.Tuple ps → xs ≡ ps.items → 2 * size-PatternKind T k + 0 ≡ t → 2 * most (size-Pattern T) xs + 1 < t
    to_tuple ps xs of at is = rw (at) (omega (arith, rw (of) at is, sized-Tuple T ps))

    pub to_tuple_struct : (p : Path) (ps : Vec (Pattern T) Global) (xs : List (Pattern T)) → k ≡ variant.TupleStruct p ps → xs ≡ ps.items → 2 * size-PatternKind T k + 0 ≡ t → 2 * most (size-Pattern T) xs + 1 < t
    to_tuple_struct p ps xs of at is = rw (at) (omega (arith, rw (of) at is, sized-TupleStruct T p ps))

-- the same for the walk that writes, which has more steps from a pattern to those in it
module _ {T : Type 0} (t : ℕ) where
  pub shows_kind : (p : Pattern T) → 4 * size-Pattern T p + 0 ≡ t → 4 * size-PatternKind T p.kind + 0 < t
  shows_kind p is = omega (arith, size_is-Pattern T p)

  pub shows_pattern : (d : FieldPattern T) → 4 * size-FieldPattern T d + 0 ≡ t → 4 * size-Pattern T d.pattern + 0 < t
  shows_pattern d is = omega (arith, size_is-FieldPattern T d)

  module _ (k : PatternKind T) where
    pub shows_enum : (p : Path) (ps : Vec (Pattern T) Global) → k ≡ variant.Enum p ps → 4 * size-PatternKind T k + 0 ≡ t → 4 * most (size-Pattern T) ps.items + 2 < t
    shows_enum p ps of is = omega (arith, rw (of) at is, sized-Enum T p ps)

    pub shows_struct : (p : Path) (fs : Vec (FieldPattern T) Global) (rest : Bool) → k ≡ variant.Struct p fs rest → 4 * size-PatternKind T k + 0 ≡ t → 4 * most (size-FieldPattern T) fs.items + 3 < t
    shows_struct p fs rest of is = omega (arith, rw (of) at is, sized-Struct T p fs rest)

    pub shows_tuple : (ps : Vec (Pattern T) Global) → k ≡ variant.Tuple ps → 4 * size-PatternKind T k + 0 ≡ t → 4 * most (size-Pattern T) ps.items + 1 < t
    shows_tuple ps of is = omega (arith, rw (of) at is, sized-Tuple T ps)

    pub shows_tuple_struct : (p : Path) (ps : Vec (Pattern T) Global) → k ≡ variant.TupleStruct p ps → 4 * size-PatternKind T k + 0 ≡ t → 4 * most (size-Pattern T) ps.items + 2 < t
    shows_tuple_struct p ps of is = omega (arith, rw (of) at is, sized-TupleStruct T p ps)

pub one_less : (a t : ℕ) → a + 2 ≡ t → a + 1 < t
one_less a t is = omega arith

pub two_less : (a t : ℕ) → a + 3 ≡ t → a + 2 < t
two_less a t is = omega arith
