-- What the walk over tuple patterns goes down by: what a pattern holds is less deep than the pattern.
use Rattle.std.proofs.Common.{◌≡◌, ℕ, ◌+◌, ◌*◌, ◌<◌, length, get_or, List, arith}
use denote.Param.Weighed.{most, at_most}
use Rattle.lalrpop_norm_tree.specs.declared.symbol.ArgPattern.{ArgPattern}
use Rattle.lalrpop_norm_tree.specs.declared.symbol.ArgPattern.TheVariants as variant
use Rattle.lalrpop_norm_tree.specs.declared.symbol.ArgPattern.TheViews.{size-ArgPattern, size-Tuple, size_is-Tuple, sized-Tuple}
use Rattle.lalrpop_norm_tree.specs.declared.symbol.Tuple.{Tuple}

module _ (t : ℕ) where
  pub to_tuple : (k : ArgPattern) (x : Tuple) → k ≡ variant.Tuple x → 4 * size-ArgPattern k + 0 ≡ t → 4 * size-Tuple x + 0 < t
  to_tuple k x of is = omega (arith, rw (of) at is, sized-Tuple x)

  pub to_parts : (x : Tuple) (ps : List ArgPattern) → ps ≡ x.tuples.items → 4 * size-Tuple x + 0 ≡ t → 4 * most size-ArgPattern ps + 3 < t
  to_parts x ps at is = rw (at) (omega (arith, size_is-Tuple x))

  pub to_one : (ps : List ArgPattern) (i : ℕ) (p : ArgPattern) → i < length ps → p ≡ get_or ps i p → 4 * most size-ArgPattern ps + 1 ≡ t → 4 * size-ArgPattern p + 0 < t
  to_one ps i p h at is = rw (at) (omega (arith, at_most size-ArgPattern ps i p h))

  -- to a function of a lower rank, with the same patterns
  pub next_rank : (a r : ℕ) → a + (r + 1) ≡ t → a + r < t
  next_rank a r is = omega arith
