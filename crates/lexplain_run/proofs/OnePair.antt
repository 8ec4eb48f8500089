-- Each tree has at most one corresponding tree.
use Rattle.std.proofs.Common.{◌≡◌, ℕ, [], sym, ap, ap₂, refl, ◌∙◌}
use Rattle.std.specs.Prelude.{slice_get, Option, Some, None}
use Rattle.lalrpop_norm_theory.specs.Symbols.{Name, ClosedSymbol, ClosedSymbols, reference, call, group, star, plus, question, times, wrapped, no_symbols, symbol_and}
use Rattle.lalrpop_norm_theory.specs.Meaning.{Meaning, HasLevels}
use Rattle.lalrpop_norm_theory.specs.WrittenTrees.{WrittenTree, WrittenTrees, leaf, nothing, list, node, no_trees, tree_and, IsTreeOf}
use Rattle.lalrpop_norm_theory.specs.LoweredTrees.{LoweredTree, LoweredTrees, lowered_leaf, lowered_node, no_lowered, lowered_and}
use Rattle.lalrpop_norm_theory.specs.Clauses.{Clause, clauses}
use Rattle.lalrpop_norm_theory.specs.Pairs.{Pairs, AllPairs, wrapped_pair, group_pair, rule_pair, step_pair, call_pair, star_some_pair, plus_one_pair, plus_more_pair, question_some_pair, times_pair, no_pairs, pair_and}
use Rattle.lalrpop_norm_theory.specs.Translations.{made_by}
use Rattle.lalrpop_norm_theory.proofs.PairSides.{tree_of}
use Rattle.lalrpop_norm_theory.proofs.PairTranslations.{lowered_to}

module _ (M : Meaning) (name : ClosedSymbol → Name) where
  -- what the clause of a node's production makes of its children
  abbrev seen_by : Option Clause → (ClosedSymbols → WrittenTrees) → WrittenTree
  seen_by None below = nothing
  seen_by (Some c) below = made_by c.origin (below c.parts)

  -- the written tree that a lowered tree is, seen as one of a ground symbol
  abbrev mutual
    seen_as : LoweredTree → ClosedSymbol → WrittenTree
    seen_as u (wrapped w g) = seen_as u g
    seen_as (lowered_leaf a) g = leaf a
    seen_as (lowered_node n p us) g = seen_by (slice_get (clauses M g) p) (λ gs. seen_each us gs)

    seen_each : LoweredTrees → ClosedSymbols → WrittenTrees
    seen_each no_lowered gs = no_trees
    seen_each (lowered_and u us) no_symbols = no_trees
    seen_each (lowered_and u us) (symbol_and g gs) = tree_and (seen_as u g) (seen_each us gs)

  at_clause : (g : ClosedSymbol) (p : ℕ) (c : Clause) → slice_get (clauses M g) p ≡ Some c → (us : LoweredTrees) (ts : WrittenTrees) →
      seen_each us c.parts ≡ ts → seen_by (slice_get (clauses M g) p) (λ gs. seen_each us gs) ≡ made_by c.origin ts
  at_clause g p c h us ts e = ap (λ x. seen_by x (λ gs. seen_each us gs)) h ∙ ap (made_by c.origin) e

  mutual
    seen_again : {g : ClosedSymbol} {t : WrittenTree} {u : LoweredTree} → Pairs M name g t u → seen_as u g ≡ t
    seen_again (wrapped_pair w g t u h) = seen_again h
    seen_again (group_pair gs ts us h) = at_clause (group gs) 0 _ refl us ts (seen_each_again h)
    seen_again (rule_pair n k p b parts ts us e i h) = at_clause (reference n b) p _ i us ts (seen_each_again h)
    seen_again (step_pair n p b c t u e i h) =
        at_clause (reference n b) p _ i (lowered_and u no_lowered) (tree_and t no_trees) (ap (λ r. tree_and r no_trees) (seen_again h))
    seen_again (call_pair n k p args parts ts us e i h) = at_clause (call n args) p _ i us ts (seen_each_again h)
    seen_again (star_some_pair x ts u h) =
        at_clause (star x) 1 _ refl (lowered_and u no_lowered) (tree_and (list ts) no_trees) (ap (λ r. tree_and r no_trees) (seen_again h))
    seen_again (plus_one_pair x t u h) =
        at_clause (plus x) 0 _ refl (lowered_and u no_lowered) (tree_and t no_trees) (ap (λ r. tree_and r no_trees) (seen_again h))
    seen_again (plus_more_pair x ts t v w h i) =
        at_clause (plus x) 1 _ refl (lowered_and v (lowered_and w no_lowered)) (tree_and (list ts) (tree_and t no_trees))
        (ap₂ (λ r s. tree_and r (tree_and s no_trees)) (seen_again h) (seen_again i))
    seen_again (question_some_pair x t u h) =
        at_clause (question x) 0 _ refl (lowered_and u no_lowered) (tree_and t no_trees) (ap (λ r. tree_and r no_trees) (seen_again h))
    seen_again (times_pair n x ts us h) = at_clause (times n x) 0 _ refl us ts (seen_each_again h)
    seen_again _ = refl

    seen_each_again : {gs : ClosedSymbols} {ts : WrittenTrees} {us : LoweredTrees} → AllPairs M name gs ts us → seen_each us gs ≡ ts
    seen_each_again no_pairs = refl
    seen_each_again (pair_and g gs t ts u us h hs) = ap₂ tree_and (seen_again h) (seen_each_again hs)

  -- two written trees of a ground symbol that correspond to one lowered tree are the same
  pub one_written_tree : {g : ClosedSymbol} {t r : WrittenTree} {u : LoweredTree} → Pairs M name g t u → Pairs M name g r u → t ≡ r
  one_written_tree h i = sym (seen_again h) ∙ seen_again i

  -- two lowered trees that correspond to one written tree are the same
  pub one_lowered_tree : HasLevels M → {g : ClosedSymbol} {t : WrittenTree} {u v : LoweredTree} → Pairs M name g t u → Pairs M name g t v → u ≡ v
  one_lowered_tree V h i = sym (lowered_to M name V h) ∙ lowered_to M name V i

  -- ---- the rule of a tree

  rule_of_tree : (t : WrittenTree) (n m : Name) (b c : Option ℕ) → IsTreeOf M t (reference n b) → IsTreeOf M t (reference m c) → n ≡ m
  rule_of_tree (leaf a) n m b c h i = absurd h
  rule_of_tree nothing n m b c h i = absurd h
  rule_of_tree (list ts) n m b c h i = absurd h
  rule_of_tree (node l k ts) n m b c (same, parts, at, hs) (other, more, there, is) = sym same ∙ other

  pub one_written_rule : HasLevels M → (t : WrittenTree) (u v : LoweredTree) (n m : Name) → Pairs M name (reference n None) t u →
      Pairs M name (reference m None) t v → n ≡ m
  one_written_rule V t u v n m h i = rule_of_tree t n m None None (tree_of M name V h) (tree_of M name V i)

  abbrev root_name : LoweredTree → Name
  root_name (lowered_leaf a) = []
  root_name (lowered_node n p us) = n

  -- at a rule, the root has its name
  abbrev IsNamedBy : ClosedSymbol → LoweredTree → Type 0
  IsNamedBy (reference n b) u = root_name u ≡ name (reference n b)
  IsNamedBy _ u = Unit {0}

  root_named : {g : ClosedSymbol} {t : WrittenTree} {u : LoweredTree} → Pairs M name g t u → IsNamedBy g u
  root_named (rule_pair n k p b parts ts us e i h) = refl
  root_named (step_pair n p b c t u e i h) = refl
  root_named _ = tt

  pub one_name : (t r : WrittenTree) (u : LoweredTree) (n m : Name) → Pairs M name (reference n None) t u → Pairs M name (reference m None) r u →
      name (reference n None) ≡ name (reference m None)
  one_name t r u n m h i = sym (root_named h) ∙ root_named i
