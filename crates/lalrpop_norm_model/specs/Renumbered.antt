-- Enabled alternatives by their ranks: what is left of the written indices without the disabled alternatives.
use Rattle.std.specs.Prelude.{◌≡◌, ℕ, ◌<◌, List, map, length, take, Option, Some, None}
use Rattle.lalrpop_norm_tree.specs.Items.{GrammarData}
use Rattle.lalrpop_norm_theory.specs.Symbols.{Name, ClosedSymbol, ClosedSymbols}
use Rattle.lalrpop_norm_theory.specs.Meaning.{Meaning}
use Rattle.lalrpop_norm_theory.specs.WrittenTrees.{WrittenTree, WrittenTrees, leaf, nothing, list, node, no_trees, tree_and}
use Rattle.lalrpop_norm_theory.specs.WrittenTrees.{IsTreeOf, yield, alternatives}
use Rattle.lalrpop_norm_theory.specs.LoweredTrees.{Origin, written, LoweredTree, ProductionTable, IsDerivation, lowered_yield}
use Rattle.lalrpop_norm_theory.specs.LoweredTrees.{written_origins}
use Rattle.lalrpop_norm_theory.specs.Clauses.{Clause, clause, symbol_of}
use Rattle.lalrpop_norm_theory.specs.Pairs.{Pairs}
use Rattle.lalrpop_norm_theory.specs.Laws.{ExactlyOne}
use Rattle.lalrpop_norm_model.specs.Features.{Features}
use Rattle.lalrpop_norm_model.specs.Enabled.{present, enabled_grammar}
use Rattle.lalrpop_norm_model.specs.Scopes.{resolved_grammar}
use Rattle.lalrpop_norm_model.specs.WrittenRules.{WrittenRule, rule_named}

-- the grammar as the pass on levels gets it: enabled, its names resolved
abbrev pub prepared_grammar : Features → GrammarData → GrammarData
prepared_grammar fs g = resolved_grammar (enabled_grammar fs g)

-- the rule without its holes: the alternatives that are there, in order, from index 0 on
abbrev pub closed_up : WrittenRule → WrittenRule
closed_up r = record r { places = map Some (present r.places) }

-- ---- ranks

-- the rank of index k: how many alternatives are before it
abbrev pub rank_in : {A : Type 0} → List (Option A) → ℕ → ℕ
rank_in ps k = length (present (take k ps))

abbrev pub rank_of : Option WrittenRule → ℕ → ℕ
rank_of None k = 0
rank_of (Some r) k = rank_in r.places k

-- the rank of index k in the rule of a name
abbrev pub rank_by : List WrittenRule → Name → ℕ → ℕ
rank_by rs n k = rank_of (rule_named rs n) k

-- ---- alternatives

-- The alternatives of two rules are the same but for their numbers, each of the first with its rank in the second.
pub record AreRanked (before after : ℕ → Option ClosedSymbols) (rank : ℕ → ℕ) : Type 0 where
  -- an alternative has the same parts under its rank
  pub kept : (k : ℕ) (parts : ClosedSymbols) → before k ≡ Some parts → after (rank k) ≡ Some parts
  -- each number with parts is the rank of just one alternative, which has these parts
  pub reached : (j : ℕ) (parts : ClosedSymbols) → after j ≡ Some parts →
      ExactlyOne (λ k. (rank k ≡ j) × (before k ≡ Some parts))
  -- ranks follow one another as the alternatives do
  pub in_order : (k l : ℕ) (first second : ClosedSymbols) → before k ≡ Some first → before l ≡ Some second →
      k < l → rank k < rank l

-- Two grammars are the same but for the numbers of alternatives: number k of a rule or macro in the first is its rank in the
-- second.
pub record IsRenumbered (M N : Meaning) (rank : Name → ℕ → ℕ) : Type 0 where
  pub rules : (n : Name) (b : Option ℕ) → AreRanked (M.reference_parts n b) (N.reference_parts n b) (rank n)
  pub levels : (n : Name) (b : Option ℕ) → AreRanked (M.own_parts n b) (N.own_parts n b) (rank n)
  pub macros : (n : Name) (args : ClosedSymbols) → AreRanked (M.call_parts n args) (N.call_parts n args) (rank n)
  -- as many numbers as alternatives are there
  pub rule_counts : (n : Name) → N.reference_count n ≡ rank n (M.reference_count n)
  pub macro_counts : (n : Name) → N.call_count n ≡ rank n (M.call_count n)
  -- the same levels
  pub previous : (n : Name) (b : Option ℕ) → N.previous n b ≡ M.previous n b
  pub depth : (n : Name) (b : Option ℕ) → N.depth n b ≡ M.depth n b

-- ---- clauses

-- an origin with the rank of its alternative, if it is one of an alternative
abbrev pub ranked_origin : (Name → ℕ → ℕ) → Origin → Origin
ranked_origin rank (written n k) = written n (rank n k)
ranked_origin rank o = o

abbrev pub ranked_clause : (Name → ℕ → ℕ) → Clause → Clause
ranked_clause rank c = clause (ranked_origin rank c.origin) c.parts

-- ---- trees

-- the tree with the number of each node as its rank
abbrev mutual
  pub renumbered : (Name → ℕ → ℕ) → WrittenTree → WrittenTree
  renumbered rank (leaf a) = leaf a
  renumbered rank nothing = nothing
  renumbered rank (list ts) = list (renumbered_trees rank ts)
  renumbered rank (node n k ts) = node n (rank n k) (renumbered_trees rank ts)

  pub renumbered_trees : (Name → ℕ → ℕ) → WrittenTrees → WrittenTrees
  renumbered_trees rank no_trees = no_trees
  renumbered_trees rank (tree_and t ts) = tree_and (renumbered rank t) (renumbered_trees rank ts)

-- an alternative, by its rule or macro and its number, with its rank for its number
abbrev pub ranked : (Name → ℕ → ℕ) → Name × ℕ → Name × ℕ
ranked rank a = (a.0, rank a.0 a.1)

-- the written trees of each ground symbol correspond one to one by renumbering, with the same words and the same alternatives but
-- for their numbers
pub record TreesAreRenumbered (M N : Meaning) (rank : Name → ℕ → ℕ) : Type 0 where
  pub down : (t : WrittenTree) (s : ClosedSymbol) → IsTreeOf M t s → IsTreeOf N (renumbered rank t) s
  pub up : (u : WrittenTree) (s : ClosedSymbol) → IsTreeOf N u s →
      ExactlyOne (λ t. IsTreeOf M t s × (renumbered rank t ≡ u))
  pub same_yields : (t : WrittenTree) → yield (renumbered rank t) ≡ yield t
  pub same_alternatives : (t : WrittenTree) → alternatives (renumbered rank t) ≡ map (ranked rank) (alternatives t)

-- the written trees of s in M and the derivation trees of its symbol correspond one to one: a tree of M corresponds to what its
-- renumbered tree of N corresponds to; with the same words, and with the alternatives by their ranks
pub record OneToOneByRank (M N : Meaning) (rank : Name → ℕ → ℕ) (name : ClosedSymbol →
    Name) (P : ProductionTable) (s : ClosedSymbol) : Type 0 where
  pub down : (t : WrittenTree) → IsTreeOf M t s →
      ExactlyOne (λ u. IsDerivation P u (symbol_of name s) × Pairs N name s (renumbered rank t) u)
  pub up : (u : LoweredTree) → IsDerivation P u (symbol_of name s) →
      ExactlyOne (λ t. IsTreeOf M t s × Pairs N name s (renumbered rank t) u)
  pub same_yields : (t : WrittenTree) (u : LoweredTree) → Pairs N name s (renumbered rank t) u → yield t ≡ lowered_yield u
  pub same_alternatives : (t : WrittenTree) (u : LoweredTree) → Pairs N name s (renumbered rank t) u →
      map (ranked rank) (alternatives t) ≡ written_origins P u
