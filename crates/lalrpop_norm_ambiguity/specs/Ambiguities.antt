-- Ambiguity: two different trees with one yield.
use Rattle.std.specs.Prelude.{◌≡◌, ℕ, zero, suc, List, [], ◌∷◌, Option, Some, None}
use Rattle.lalrpop_norm_theory.specs.Symbols.{ClosedSymbol}
use Rattle.lalrpop_norm_theory.specs.Meaning.{Meaning}
use Rattle.lalrpop_norm_theory.specs.WrittenTrees.{WrittenTree, WrittenTrees, leaf, nothing, list, node, no_trees, tree_and}
use Rattle.lalrpop_norm_theory.specs.WrittenTrees.{IsTreeOf, yield}
use Rattle.lalrpop_norm_theory.specs.LoweredTrees.{LoweredTree, LoweredSymbol, ProductionTable, IsDerivation, lowered_yield}

-- two different written trees of a ground symbol, with one yield
pub record AreTwoTrees (M : Meaning) (g : ClosedSymbol) (t s : WrittenTree) : Type 0 where
  pub first : IsTreeOf M t g
  pub second : IsTreeOf M s g
  pub same_yields : yield t ≡ yield s
  pub differ : t ≡ s → ⊥

-- a ground symbol is ambiguous in the written grammar
abbrev pub IsAmbiguous : Meaning → ClosedSymbol → Type 0
IsAmbiguous M g = (t : WrittenTree) × (s : WrittenTree) × AreTwoTrees M g t s

-- two different derivation trees of a symbol of the lowered grammar, with one yield
pub record AreTwoDerivations (P : ProductionTable) (x : LoweredSymbol) (u v : LoweredTree) : Type 0 where
  pub first : IsDerivation P u x
  pub second : IsDerivation P v x
  pub same_yields : lowered_yield u ≡ lowered_yield v
  pub differ : u ≡ v → ⊥

-- a symbol is ambiguous in the lowered grammar
abbrev pub IsAmbiguousIn : ProductionTable → LoweredSymbol → Type 0
IsAmbiguousIn P x = (u : LoweredTree) × (v : LoweredTree) × AreTwoDerivations P x u v

-- ---- trees within trees

abbrev pub children : WrittenTree → WrittenTrees
children (leaf a) = no_trees
children nothing = no_trees
children (list ts) = ts
children (node n k ts) = ts

abbrev pub child_at : ℕ → WrittenTrees → Option WrittenTree
child_at i no_trees = None
child_at zero (tree_and t ts) = Some t
child_at (suc i) (tree_and t ts) = child_at i ts

-- the path, of child indices, leads from t to s
abbrev pub IsAt : List ℕ → WrittenTree → WrittenTree → Type 0
IsAt [] t s = t ≡ s
IsAt (i ∷ p) t s = (c : WrittenTree) × (child_at i (children t) ≡ Some c) × IsAt p c s
