-- What the walks over written types go down by: what a type holds is less deep than the type.
use Rattle.std.proofs.Common.{◌≡◌, ℕ, ◌+◌, ◌*◌, ◌<◌, length, get_or, Bool, List, Option, Box, Vec, Global, arith}
use denote.Param.Weighed.{most, at_most}
use Rattle.lalrpop_norm_tree_names.specs.declared.names.Lifetime.{Lifetime}
use Rattle.lalrpop_norm_tree_names.specs.declared.names.TypeParameter.{TypeParameter}
use Rattle.lalrpop_norm_tree_parts.specs.declared.path.Path.{Path}
use Rattle.lalrpop_norm_tree.specs.declared.types.TypeRef.{TypeRef}
use Rattle.lalrpop_norm_tree.specs.declared.types.TypeRef.TheVariants as variant
use Rattle.lalrpop_norm_tree.specs.declared.types.TypeRef.TheViews.{size-TypeRef, sized-Tuple, sized-Slice, sized-Nominal, sized-Ref, sized-TraitObject, sized-Fn}

module _ (t : ℕ) where
  module _ (k : TypeRef) where
    pub to_tuple : (ts : Vec TypeRef Global) (xs : List TypeRef) → k ≡ variant.Tuple ts → xs ≡ ts.items → 2 * size-TypeRef k + 0 ≡ t → 2 * most size-TypeRef xs + 1 < t
    to_tuple ts xs of at is = rw (at) (omega (arith, rw (of) at is, sized-Tuple ts))

    pub to_slice : (b : Box TypeRef Global) (x : TypeRef) → k ≡ variant.Slice b → x ≡ b.value → 2 * size-TypeRef k + 0 ≡ t → 2 * size-TypeRef x + 0 < t
    to_slice b x of at is = rw (at) (omega (arith, rw (of) at is, sized-Slice b))

    pub to_nominal : (p : Path) (ts : Vec TypeRef Global) (xs : List TypeRef) → k ≡ variant.Nominal p ts → xs ≡ ts.items → 2 * size-TypeRef k + 0 ≡ t → 2 * most size-TypeRef xs + 1 < t
    to_nominal p ts xs of at is = rw (at) (omega (arith, rw (of) at is, sized-Nominal p ts))

    pub to_referent : (l : Option Lifetime) (m : Bool) (b : Box TypeRef Global) (x : TypeRef) → k ≡ variant.Ref l m b → x ≡ b.value → 2 * size-TypeRef k + 0 ≡ t → 2 * size-TypeRef x + 0 < t
    to_referent l m b x of at is = rw (at) (omega (arith, rw (of) at is, sized-Ref l m b))

    pub to_object : (p : Path) (ts : Vec TypeRef Global) (xs : List TypeRef) → k ≡ variant.TraitObject p ts → xs ≡ ts.items → 2 * size-TypeRef k + 0 ≡ t → 2 * most size-TypeRef xs + 1 < t
    to_object p ts xs of at is = rw (at) (omega (arith, rw (of) at is, sized-TraitObject p ts))

    pub to_parameters : (fs : Vec TypeParameter Global) (p : Path) (ts : Vec TypeRef Global) (r : Option (Box TypeRef Global)) (xs : List TypeRef) → k ≡ variant.Fn fs p ts r → xs ≡ ts.items
        → 2 * size-TypeRef k + 0 ≡ t → 2 * most size-TypeRef xs + 1 < t
    to_parameters fs p ts r xs of at is = rw (at) (omega (arith, rw (of) at is, sized-Fn fs p ts r))

  pub to_one : (ts : List TypeRef) (i : ℕ) (u : TypeRef) → i < length ts → u ≡ get_or ts i u → 2 * most size-TypeRef ts + 1 ≡ t → 2 * size-TypeRef u + 0 < t
  to_one ts i u h at is = rw (at) (omega (arith, at_most size-TypeRef ts i u h))

-- the same for the walk that lowers, which has more steps from a type to those in it
module _ (t : ℕ) where
  module _ (k : TypeRef) where
    pub lowers_tuple : (ts : Vec TypeRef Global) (xs : List TypeRef) → k ≡ variant.Tuple ts → xs ≡ ts.items → 3 * size-TypeRef k + 0 ≡ t → 3 * most size-TypeRef xs + 1 < t
    lowers_tuple ts xs of at is = rw (at) (omega (arith, rw (of) at is, sized-Tuple ts))

    pub lowers_slice : (b : Box TypeRef Global) (x : TypeRef) → k ≡ variant.Slice b → x ≡ b.value → 3 * size-TypeRef k + 0 ≡ t → 3 * size-TypeRef x + 0 < t
    lowers_slice b x of at is = rw (at) (omega (arith, rw (of) at is, sized-Slice b))

    pub lowers_nominal : (p : Path) (ts : Vec TypeRef Global) (xs : List TypeRef) → k ≡ variant.Nominal p ts → xs ≡ ts.items → 3 * size-TypeRef k + 0 ≡ t → 3 * most size-TypeRef xs + 2 < t
    lowers_nominal p ts xs of at is = rw (at) (omega (arith, rw (of) at is, sized-Nominal p ts))

    pub lowers_referent : (l : Option Lifetime) (m : Bool) (b : Box TypeRef Global) (x : TypeRef) → k ≡ variant.Ref l m b → x ≡ b.value → 3 * size-TypeRef k + 0 ≡ t → 3 * size-TypeRef x + 0 < t
    lowers_referent l m b x of at is = rw (at) (omega (arith, rw (of) at is, sized-Ref l m b))

    pub lowers_object : (p : Path) (ts : Vec TypeRef Global) (xs : List TypeRef) → k ≡ variant.TraitObject p ts → xs ≡ ts.items → 3 * size-TypeRef k + 0 ≡ t → 3 * most size-TypeRef xs + 2 < t
    lowers_object p ts xs of at is = rw (at) (omega (arith, rw (of) at is, sized-TraitObject p ts))

    pub lowers_parameters : (fs : Vec TypeParameter Global) (p : Path) (ts : Vec TypeRef Global) (r : Option (Box TypeRef Global)) (xs : List TypeRef) → k ≡ variant.Fn fs p ts r → xs ≡ ts.items
        → 3 * size-TypeRef k + 0 ≡ t → 3 * most size-TypeRef xs + 1 < t
    lowers_parameters fs p ts r xs of at is = rw (at) (omega (arith, rw (of) at is, sized-Fn fs p ts r))

  pub lowers_one : (ts : List TypeRef) (i : ℕ) (u : TypeRef) → i < length ts → u ≡ get_or ts i u → 3 * most size-TypeRef ts + 1 ≡ t → 3 * size-TypeRef u + 0 < t
  lowers_one ts i u h at is = rw (at) (omega (arith, at_most size-TypeRef ts i u h))

  pub lowers_arguments : (ts : List TypeRef) → 3 * most size-TypeRef ts + 2 ≡ t → 3 * most size-TypeRef ts + 1 < t
  lowers_arguments ts is = omega arith
