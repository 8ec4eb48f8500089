-- What a pair says: each of the corresponding trees is a tree of the symbol, and is the translation of the other.
use Rattle.std.proofs.Common.{◌≡◌, ℕ, refl}
use Rattle.std.specs.Prelude.{slice_get, Option, Some}
use Rattle.std.proofs.lemmas.Option.{slice_get-map}
use Rattle.lalrpop_norm_theory.specs.Symbols.{Name, ClosedSymbol, ClosedSymbols, reference, call, group, star, plus, question, times, lookahead, lookbehind}
use Rattle.lalrpop_norm_theory.specs.Meaning.{Meaning, HasLevels}
use Rattle.lalrpop_norm_theory.specs.WrittenTrees.{WrittenTree, WrittenTrees, leaf, nothing, list, node, no_trees, tree_and, IsNonempty, IsTreeOf, AreTreesOf, EachTreeOf, append}
use Rattle.lalrpop_norm_theory.specs.LoweredTrees.{LoweredTree, LoweredTrees, lowered_node, no_lowered, lowered_and, ProductionTable, nonterminal_symbol, IsDerivation, AreDerivations}
use Rattle.lalrpop_norm_theory.specs.Clauses.{Clause, clauses, symbol_of, symbols_of, clause_production, IsNonterminal}
use Rattle.lalrpop_norm_theory.specs.Pairs.{Pairs, AllPairs, terminal_pair, error_pair, wrapped_pair, lookahead_pair, lookbehind_pair, group_pair, rule_pair, step_pair, call_pair, star_empty_pair, star_some_pair, plus_one_pair, plus_more_pair, question_some_pair, question_empty_pair, times_pair, no_pairs, pair_and}
use Rattle.lalrpop_norm_theory.specs.Tables.{AllKnown, Realizes}
use Rattle.lalrpop_norm_theory.proofs.ReplicatedLemmas.{each_of_one}

nonempty_append : (ts : WrittenTrees) (t : WrittenTree) → IsNonempty (append ts (tree_and t no_trees))
nonempty_append no_trees t = tt
nonempty_append (tree_and s ts) t = tt

each_append : (M : Meaning) (x : ClosedSymbol) (ts : WrittenTrees) (t : WrittenTree) → EachTreeOf M ts x → IsTreeOf M t x →
    EachTreeOf M (append ts (tree_and t no_trees)) x
each_append M x no_trees t hs h = (h, tt)
each_append M x (tree_and s ts) t hs h = (hs.0, each_append M x ts t hs.1 h)

-- a tree within the lower bound is one within the bound
pub raised : (M : Meaning) → HasLevels M → (n : Name) (b c : Option ℕ) → M.previous n b ≡ Some c → (t : WrittenTree) →
    IsTreeOf M t (reference n c) → IsTreeOf M t (reference n b)
raised M V n b c e (leaf a) h = absurd h
raised M V n b c e nothing h = absurd h
raised M V n b c e (list ts) h = absurd h
raised M V n b c e (node m k ts) (same, parts, at, hs) = (same, parts, V.chained n b c k parts e at, hs)

module _ (M : Meaning) (name : ClosedSymbol → Name) (V : HasLevels M) where
  mutual
    pub tree_of : {g : ClosedSymbol} {t : WrittenTree} {u : LoweredTree} → Pairs M name g t u → IsTreeOf M t g
    tree_of (terminal_pair a) = refl
    tree_of error_pair = refl
    tree_of (wrapped_pair w g t u h) = tree_of h
    tree_of lookahead_pair = tt
    tree_of lookbehind_pair = tt
    tree_of (group_pair gs ts us h) = trees_of h
    tree_of (rule_pair n k p b parts ts us e i h) = (refl, parts, V.own n b k parts e, trees_of h)
    tree_of (step_pair n p b c t u e i h) = raised M V n b c e t (tree_of h)
    tree_of (call_pair n k p args parts ts us e i h) = (refl, parts, e, trees_of h)
    tree_of (star_empty_pair x) = tt
    tree_of (star_some_pair x ts u h) = (tree_of h).1
    tree_of (plus_one_pair x t u h) = (tt, (tree_of h, tt))
    tree_of (plus_more_pair x ts t v w h i) =
        (nonempty_append ts t, each_append M x ts t (tree_of h).1 (tree_of i))
    tree_of (question_some_pair x t u h) = (tt, (tree_of h, tt))
    tree_of (question_empty_pair x) = (tt, tt)
    tree_of (times_pair n x ts us h) = each_of_one M x ts n (trees_of h)

    pub trees_of : {gs : ClosedSymbols} {ts : WrittenTrees} {us : LoweredTrees} → AllPairs M name gs ts us → AreTreesOf M ts gs
    trees_of no_pairs = tt
    trees_of (pair_and g gs t ts u us h hs) = (tree_of h, trees_of hs)

module _ (M : Meaning) (name : ClosedSymbol → Name) (P : ProductionTable) (Known : ClosedSymbol → Type 0)
    (R : Realizes M name P Known) where
  -- the production at a clause's index
  pub production_at : (g : ClosedSymbol) → IsNonterminal g → Known g → (p : ℕ) (c : Clause) → slice_get (clauses M g) p ≡ Some c →
      slice_get (P (name g)) p ≡ Some (clause_production name c)
  production_at g n k p c h =
      rw (R.productions g n k, slice_get-map (clause_production name) (clauses M g) p, h) refl

  -- a node over the children of a clause
  node_derived : (g : ClosedSymbol) → IsNonterminal g → Known g → (p : ℕ) (c : Clause) → slice_get (clauses M g) p ≡ Some c →
      (us : LoweredTrees) → AreDerivations P us (symbols_of name c.parts) → IsDerivation P (lowered_node (name g) p us) (nonterminal_symbol (name g))
  node_derived g n k p c h us d =
      (refl, clause_production name c, production_at g n k p c h, d)

  mutual
    pub derivation_of : {g : ClosedSymbol} {t : WrittenTree} {u : LoweredTree} → Pairs M name g t u → Known g → IsDerivation P u (symbol_of name g)
    derivation_of (terminal_pair a) k = refl
    derivation_of error_pair k = refl
    derivation_of (wrapped_pair w g t u h) k = derivation_of h (R.inner w g k)
    derivation_of lookahead_pair k = node_derived lookahead tt k 0 _ refl no_lowered tt
    derivation_of lookbehind_pair k = node_derived lookbehind tt k 0 _ refl no_lowered tt
    derivation_of (group_pair gs ts us h) k =
        node_derived (group gs) tt k 0 _ refl us (derivations_of h (R.parts_known (group gs) 0 _ k refl))
    derivation_of (rule_pair n j p b parts ts us e i h) k =
        node_derived (reference n b) tt k p _ i us (derivations_of h (R.parts_known (reference n b) p _ k i))
    derivation_of (step_pair n p b c t u e i h) k =
        node_derived (reference n b) tt k p _ i (lowered_and u no_lowered)
        (derivation_of h (R.parts_known (reference n b) p _ k i).0, tt)
    derivation_of (call_pair n j p args parts ts us e i h) k =
        node_derived (call n args) tt k p _ i us (derivations_of h (R.parts_known (call n args) p _ k i))
    derivation_of (star_empty_pair x) k = node_derived (star x) tt k 0 _ refl no_lowered tt
    derivation_of (star_some_pair x ts u h) k =
        node_derived (star x) tt k 1 _ refl (lowered_and u no_lowered)
        (derivation_of h (R.parts_known (star x) 1 _ k refl).0, tt)
    derivation_of (plus_one_pair x t u h) k =
        node_derived (plus x) tt k 0 _ refl (lowered_and u no_lowered)
        (derivation_of h (R.parts_known (plus x) 0 _ k refl).0, tt)
    derivation_of (plus_more_pair x ts t v w h i) k =
        node_derived (plus x) tt k 1 _ refl (lowered_and v (lowered_and w no_lowered)) (
          derivation_of h (R.parts_known (plus x) 1 _ k refl).0,
          (derivation_of i (R.parts_known (plus x) 1 _ k refl).1.0, tt),
        )
    derivation_of (question_some_pair x t u h) k =
        node_derived (question x) tt k 0 _ refl (lowered_and u no_lowered)
        (derivation_of h (R.parts_known (question x) 0 _ k refl).0, tt)
    derivation_of (question_empty_pair x) k = node_derived (question x) tt k 1 _ refl no_lowered tt
    derivation_of (times_pair n x ts us h) k =
        node_derived (times n x) tt k 0 _ refl us (derivations_of h (R.parts_known (times n x) 0 _ k refl))

    pub derivations_of : {gs : ClosedSymbols} {ts : WrittenTrees} {us : LoweredTrees} → AllPairs M name gs ts us → AllKnown Known gs → AreDerivations P us (symbols_of name gs)
    derivations_of no_pairs k = tt
    derivations_of (pair_and g gs t ts u us h hs) k =
        (derivation_of h k.0, derivations_of hs k.1)
