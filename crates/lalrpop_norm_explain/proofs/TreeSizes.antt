-- What the walks over trees go down by: what a tree holds is less deep than the tree.
use Rattle.std.proofs.Common.{◌≡◌, ℕ, suc, ◌+◌, ◌*◌, ◌<◌, length, get_or, List, Vec, Global, arith}
use denote.Param.Weighed.{most, at_most}
use Rattle.lalrpop_norm_tree_names.specs.declared.names.NonterminalString.{NonterminalString}
use Rattle.lalrpop_norm_explain.specs.declared.trees.LoweredTree.{LoweredTree}
use Rattle.lalrpop_norm_explain.specs.declared.trees.LoweredTree.TheViews as lowered
use Rattle.lalrpop_norm_explain.specs.declared.trees.LoweredTree.TheViews.{size-LoweredTree}
use Rattle.lalrpop_norm_explain.specs.declared.trees.WrittenTree.{WrittenTree}
use Rattle.lalrpop_norm_explain.specs.declared.trees.WrittenTree.TheViews as written
use Rattle.lalrpop_norm_explain.specs.declared.trees.WrittenTree.TheViews.{size-WrittenTree}

module _ (t : ℕ) where
  -- to a function of a lower rank, with the same tree
  pub falls_by : (a r k : ℕ) → a + (r + suc k) ≡ t → a + r < t
  falls_by a r k is = omega arith

  pub to_children : (u : LoweredTree) (n : NonterminalString) (p : ℕ) (us : Vec LoweredTree Global) (xs : List LoweredTree) → u ≡ lowered.Node n p us → xs ≡ us.items →
      3 * size-LoweredTree u + 0 ≡ t → 3 * most size-LoweredTree xs + 2 < t
  to_children u n p us xs of at is = rw (at) (omega (arith, rw (of) at is, lowered.sized-Node n p us))

  pub to_child : (us : List LoweredTree) (i : ℕ) (u : LoweredTree) → i < length us → u ≡ get_or us i u → 3 * most size-LoweredTree us + 2 ≡ t → 3 * size-LoweredTree u + 1 < t
  to_child us i u h at is = rw (at) (omega (arith, at_most size-LoweredTree us i u h))

  pub to_list : (w : WrittenTree) (ts : Vec WrittenTree Global) (xs : List WrittenTree) → w ≡ written.List ts → xs ≡ ts.items → 6 * size-WrittenTree w + 0 ≡ t → 6 * most size-WrittenTree xs + 5 < t
  to_list w ts xs of at is = rw (at) (omega (arith, rw (of) at is, written.sized-List ts))

  pub to_node : (w : WrittenTree) (n : NonterminalString) (k : ℕ) (ts : Vec WrittenTree Global) (xs : List WrittenTree) → w ≡ written.Node n k ts → xs ≡ ts.items →
      6 * size-WrittenTree w + 0 ≡ t → 6 * most size-WrittenTree xs + 5 < t
  to_node w n k ts xs of at is = rw (at) (omega (arith, rw (of) at is, written.sized-Node n k ts))

  pub to_one : (ts : List WrittenTree) (i : ℕ) (w : WrittenTree) → i < length ts → w ≡ get_or ts i w → 6 * most size-WrittenTree ts + 3 ≡ t → 6 * size-WrittenTree w + 2 < t
  to_one ts i w h at is = rw (at) (omega (arith, at_most size-WrittenTree ts i w h))
