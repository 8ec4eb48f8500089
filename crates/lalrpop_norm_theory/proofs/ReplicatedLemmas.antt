-- One symbol so many times: its trees, and what holds of each of its symbols.
use Rattle.std.proofs.Common.{◌≡◌, ℕ, zero, suc, List, refl, ap, arith}
use Rattle.lalrpop_norm_theory.specs.Symbols.{Name, ClosedSymbol, ClosedSymbols, no_symbols, symbol_and, replicated}
use Rattle.lalrpop_norm_theory.specs.Meaning.{Meaning}
use Rattle.lalrpop_norm_theory.specs.WrittenTrees.{WrittenTrees, no_trees, tree_and, tree_count, AreTreesOf, EachTreeOf}
use Rattle.lalrpop_norm_theory.specs.LoweredTrees.{lowered_and}
use Rattle.lalrpop_norm_theory.specs.Translations.{lowered_tree, lowered_all, lowered_each}
use Rattle.lalrpop_norm_theory.specs.Met.{IsResolvedIn, AreResolvedIn}
use Rattle.lalrpop_norm_theory.specs.Leveled.{leveled_symbol, leveled_symbols}

module _ (M : Meaning) (x : ClosedSymbol) where
  -- so many trees of one symbol are one tree for each of so many symbols, and the other way round
  pub one_for_each : (ts : WrittenTrees) (n : ℕ) → tree_count ts ≡ n → EachTreeOf M ts x → AreTreesOf M ts (replicated n x)
  one_for_each no_trees zero e h = tt
  one_for_each no_trees (suc n) e h = let none : 0 ≡ suc n = e in absurd (omega arith)
  one_for_each (tree_and t ts) zero e h = let some : suc (tree_count ts) ≡ 0 = e in absurd (omega arith)
  one_for_each (tree_and t ts) (suc n) e h =
      let all : suc (tree_count ts) ≡ suc n = e in let left : tree_count ts ≡ n = omega arith in (h.0, one_for_each ts n left h.1)

  pub each_of_one : (ts : WrittenTrees) (n : ℕ) → AreTreesOf M ts (replicated n x) → (tree_count ts ≡ n) × EachTreeOf M ts x
  each_of_one no_trees zero h = (refl, tt)
  each_of_one no_trees (suc n) h = absurd h
  each_of_one (tree_and t ts) zero h = absurd h
  each_of_one (tree_and t ts) (suc n) h = let r = each_of_one ts n h.1 in (ap suc r.0, (h.0, r.1))

  -- and they are lowered one by one either way
  pub lowered_one_by_one : (name : ClosedSymbol → Name) (ts : WrittenTrees) (n : ℕ) → tree_count ts ≡ n →
      lowered_all M name ts (replicated n x) ≡ lowered_each M name ts x
  lowered_one_by_one name no_trees zero e = refl
  lowered_one_by_one name no_trees (suc n) e = let none : 0 ≡ suc n = e in absurd (omega arith)
  lowered_one_by_one name (tree_and t ts) zero e = let some : suc (tree_count ts) ≡ 0 = e in absurd (omega arith)
  lowered_one_by_one name (tree_and t ts) (suc n) e =
      let all : suc (tree_count ts) ≡ suc n = e in let left : tree_count ts ≡ n = omega arith in ap (lowered_and (lowered_tree M name t x)) (lowered_one_by_one name ts n left)

pub leveled_replicated : (l : Name → ℕ → Name) (n : ℕ) (x : ClosedSymbol) → leveled_symbols l (replicated n x) ≡ replicated n (leveled_symbol l x)
leveled_replicated l zero x = refl
leveled_replicated l (suc n) x = ap (symbol_and (leveled_symbol l x)) (leveled_replicated l n x)

pub replicated_resolved : (declared : List ClosedSymbol) (n : ℕ) (x : ClosedSymbol) → IsResolvedIn declared x → AreResolvedIn declared (replicated n x)
replicated_resolved declared zero x h = tt
replicated_resolved declared (suc n) x h = (h, replicated_resolved declared n x h)
