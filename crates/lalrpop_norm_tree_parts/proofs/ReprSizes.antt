-- What the walks over lowered types go down by: what a type holds is less deep than the type.
use Rattle.std.proofs.Common.{◌≡◌, ℕ, ◌+◌, ◌*◌, ◌<◌, length, get_or, Bool, List, Option, Box, Vec, Global, arith}
use denote.Param.Weighed.{most, at_most}
use Rattle.lalrpop_norm_tree_names.specs.declared.names.Lifetime.{Lifetime}
use Rattle.lalrpop_norm_tree_parts.specs.declared.lowered.TypeRepr.{TypeRepr}
use Rattle.lalrpop_norm_tree_parts.specs.declared.lowered.NominalTypeRepr.{NominalTypeRepr}
use Rattle.lalrpop_norm_tree_parts.specs.declared.lowered.TypeRepr.TheVariants as variant
use Rattle.lalrpop_norm_tree_parts.specs.declared.lowered.TypeRepr.TheViews.{size-TypeRepr, size-NominalTypeRepr, size_is-NominalTypeRepr, sized-Tuple, sized-Slice, sized-Nominal, sized-Ref, sized-TraitObject}

module _ (t : ℕ) where
  module _ (k : TypeRepr) where
    pub to_tuple : (ts : Vec TypeRepr Global) → k ≡ variant.Tuple ts → 2 * size-TypeRepr k + 0 ≡ t → 2 * most size-TypeRepr ts.items + 1 < t
    to_tuple ts of is = omega (arith, rw (of) at is, sized-Tuple ts)

    pub to_slice : (b : Box TypeRepr Global) → k ≡ variant.Slice b → 2 * size-TypeRepr k + 0 ≡ t → 2 * size-TypeRepr b.value + 1 < t
    to_slice b of is = omega (arith, rw (of) at is, sized-Slice b)

    pub to_nominal : (n : NominalTypeRepr) → k ≡ variant.Nominal n → 2 * size-TypeRepr k + 0 ≡ t → 2 * size-NominalTypeRepr n + 0 < t
    to_nominal n of is = omega (arith, rw (of) at is, sized-Nominal n)

    pub to_referent : (l : Option Lifetime) (m : Bool) (b : Box TypeRepr Global) → k ≡ variant.Ref l m b → 2 * size-TypeRepr k + 0 ≡ t → 2 * size-TypeRepr b.value + 1 < t
    to_referent l m b of is = omega (arith, rw (of) at is, sized-Ref l m b)

    pub to_object : (n : NominalTypeRepr) → k ≡ variant.TraitObject n → 2 * size-TypeRepr k + 0 ≡ t → 2 * size-NominalTypeRepr n + 0 < t
    to_object n of is = omega (arith, rw (of) at is, sized-TraitObject n)

  pub to_arguments : (n : NominalTypeRepr) → 2 * size-NominalTypeRepr n + 0 ≡ t → 2 * most size-TypeRepr n.types.items + 1 < t
  to_arguments n is = omega (arith, size_is-NominalTypeRepr n)

  pub to_value : (a b : TypeRepr) → b ≡ a → 2 * size-TypeRepr a + 1 ≡ t → 2 * size-TypeRepr b + 0 < t
  to_value a b at is = rw (at) (omega arith)

  pub to_one : (ts : List TypeRepr) (i : ℕ) (p : TypeRepr) (all : List TypeRepr) → i < length ts → p ≡ get_or ts i p → ts ≡ all → 2 * most size-TypeRepr all + 1 ≡ t → 2 * size-TypeRepr p + 0 < t
  to_one ts i p all h at same is = rw (at) (omega (arith, rw (← same) at is, at_most size-TypeRepr ts i p h))
