-- What the walks over written types go down by: what a type holds is less deep than the type.
use Rattle.std.proofs.Common.{◌≡◌, ℕ, suc, ◌+◌, ◌*◌, ◌<◌, ◌≤◌, length, get_or, Bool, List, Option, Box, Vec, Global, arith}
use denote.Param.Weighed.{most, at_most}
use Rattle.lalrpop_norm_tree_names.specs.declared.names.Lifetime.{Lifetime}
use Rattle.lalrpop_norm_tree_names.specs.declared.names.TypeParameter.{TypeParameter}
use Rattle.lalrpop_norm_tree_parts.specs.declared.path.Path.{Path}
use Rattle.lalrpop_norm_tree.specs.declared.types.TypeRef.{TypeRef}
use Rattle.lalrpop_norm_tree.specs.declared.types.TypeRef.TheVariants as variant
use Rattle.lalrpop_norm_tree.specs.declared.types.TypeRef.TheViews.{size-TypeRef, sized-Tuple, sized-Slice, sized-Nominal, sized-Ref, sized-TraitObject, sized-Fn}

module _ (k : TypeRef) where
  pub in_tuple : (ts : Vec TypeRef Global) (xs : List TypeRef) → k ≡ variant.Tuple ts → xs ≡ ts.items → most size-TypeRef xs < size-TypeRef k
  in_tuple ts xs of at = rw (of, at) (omega (arith, sized-Tuple ts))

  pub in_slice : (b : Box TypeRef Global) (x : TypeRef) → k ≡ variant.Slice b → x ≡ b.value → size-TypeRef x < size-TypeRef k
  in_slice b x of at = rw (of, at) (omega (arith, sized-Slice b))

  pub in_nominal : (p : Path) (ts : Vec TypeRef Global) (xs : List TypeRef) → k ≡ variant.Nominal p ts → xs ≡ ts.items → most size-TypeRef xs < size-TypeRef k
  in_nominal p ts xs of at = rw (of, at) (omega (arith, sized-Nominal p ts))

  pub in_reference : (l : Option Lifetime) (m : Bool) (b : Box TypeRef Global) (x : TypeRef) → k ≡ variant.Ref l m b → x ≡ b.value → size-TypeRef x < size-TypeRef k
  in_reference l m b x of at = rw (of, at) (omega (arith, sized-Ref l m b))

  pub in_object : (p : Path) (ts : Vec TypeRef Global) (xs : List TypeRef) → k ≡ variant.TraitObject p ts → xs ≡ ts.items → most size-TypeRef xs < size-TypeRef k
  in_object p ts xs of at = rw (of, at) (omega (arith, sized-TraitObject p ts))

  pub in_parameters : (fs : Vec TypeParameter Global) (p : Path) (ts : Vec TypeRef Global) (r : Option (Box TypeRef Global)) (xs : List TypeRef) → k ≡ variant.Fn fs p ts r → xs ≡ ts.items
      → most size-TypeRef xs < size-TypeRef k
  in_parameters fs p ts r xs of at = rw (of, at) (omega (arith, sized-Fn fs p ts r))

pub in_row : (ts : List TypeRef) (i : ℕ) (u : TypeRef) → i < length ts → u ≡ get_or ts i u → size-TypeRef u ≤ most size-TypeRef ts
in_row ts i u h at = rw (at) (at_most size-TypeRef ts i u h)

-- the functions that make types have five ranks, and those that add names three
module _ (t a b : ℕ) where
  pub under_five : (r k : ℕ) → r + suc k ≡ 5 → b < a → 5 * a + 0 ≡ t → 5 * b + r < t
  under_five r k low h is = omega arith

  pub of_five : (r k : ℕ) → b ≤ a → 5 * a + (r + suc k) ≡ t → 5 * b + r < t
  of_five r k h is = omega arith

  pub under_three : (r k : ℕ) → r + suc k ≡ 3 → b < a → 3 * a + 0 ≡ t → 3 * b + r < t
  under_three r k low h is = omega arith

  pub of_three : (r k : ℕ) → b ≤ a → 3 * a + (r + suc k) ≡ t → 3 * b + r < t
  of_three r k h is = omega arith

-- to a function of a lower rank, with the same type
pub next_rank : (t a r k : ℕ) → a + (r + suc k) ≡ t → a + r < t
next_rank t a r k is = omega arith
