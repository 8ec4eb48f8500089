-- The rounds of an expansion: new are the shortest chains, in the order in which they are first reached; if nothing is new it is
-- complete.
use Rattle.std.proofs.Common.{◌≡◌, inl, inr, ℕ, zero, suc, List, [], ◌∷◌, ◌++◌, subst, arith}
use Rattle.std.specs.Prelude.{flat_map, slice_get, Some}
use Rattle.lalrpop_norm_theory.specs.Symbols.{ClosedSymbol, ClosedSymbols, terminal, error, reference, call, group, star, plus, question, times, wrapped, lookahead, lookbehind, no_symbols, symbol_and}
use Rattle.lalrpop_norm_theory.specs.Meaning.{Meaning}
use Rattle.lalrpop_norm_theory.specs.Clauses.{Clause, clauses}
use Rattle.lalrpop_norm_theory.specs.Rounds.{In, Chain}
use Rattle.lalrpop_norm_theory.specs.Same.{same_symbol}
use Rattle.lalrpop_norm_theory.specs.Met.{meets, meets_all, rule_meets, expansion, expanded_symbols, BecomesRule, AreDeclaredIn, IsResolvedIn}
use Rattle.lalrpop_norm_theory.specs.Laws.{RoundsAreShortestChains, RoundsAreInOrder, NothingNewIsWhole, IsWhole, ExpansionsStand, ExpansionsAreOneToOne}
use Rattle.lalrpop_norm_theory.proofs.RoundsLemmas.{After, after_rounds, fresh_is_new, closed, in_left, in_right, in_cases, in_reverse, of_reverse, in_flat, of_flat}
use Rattle.lalrpop_norm_theory.proofs.TableLemmas.{rules_realize}
use Rattle.lalrpop_norm_theory.proofs.Trees.{one_to_one}
use Rattle.lalrpop_norm_theory.proofs.OrderLemmas.{fresh_in_order}
use Rattle.lalrpop_norm_theory.proofs.SameLemmas.{symbol_test}
use Rattle.lalrpop_norm_theory.proofs.ResolvedLemmas.{all_declared_from, clause_resolved, chain_resolved}

pub rounds_shortest : RoundsAreShortestChains
rounds_shortest M declared k x = fresh_is_new same_symbol symbol_test (rule_meets M) (flat_map (rule_meets M) declared) k x

pub rounds_in_order : RoundsAreInOrder
rounds_in_order M declared = (
  fresh_in_order same_symbol symbol_test [] (flat_map (rule_meets M) declared),
  λ k. fresh_in_order same_symbol symbol_test _ _,
)

-- what is reached last is the symbol itself
met_itself : (g h : ClosedSymbol) → BecomesRule g → In h (g ∷ []) → BecomesRule h
met_itself g h e (inl s) = subst (λ (x : ClosedSymbol). BecomesRule x) s' e
  where
    s' : g ≡ h
    s' = cc s
met_itself g h e (inr i) = absurd i

mutual
  meets_expanded : (g h : ClosedSymbol) → In h (meets g) → BecomesRule h
  meets_expanded (terminal a) h i = absurd i
  meets_expanded error h i = absurd i
  meets_expanded (reference n b) h i = absurd i
  meets_expanded (wrapped w g) h i = meets_expanded g h i
  meets_expanded (call n args) h i = elim (in_cases h (meets_all args) _ i) [
    | inl j ↦ all_meet_expanded args h j
    | inr j ↦ met_itself (call n args) h tt j
  ]
  meets_expanded (group gs) h i = elim (in_cases h (meets_all gs) _ i) [
    | inl j ↦ all_meet_expanded gs h j
    | inr j ↦ met_itself (group gs) h tt j
  ]
  meets_expanded (star x) h i = elim (in_cases h (meets x) _ i) [
    | inl j ↦ meets_expanded x h j
    | inr j ↦ met_itself (star x) h tt j
  ]
  meets_expanded (plus x) h i = elim (in_cases h (meets x) _ i) [
    | inl j ↦ meets_expanded x h j
    | inr j ↦ met_itself (plus x) h tt j
  ]
  meets_expanded (question x) h i = elim (in_cases h (meets x) _ i) [
    | inl j ↦ meets_expanded x h j
    | inr j ↦ met_itself (question x) h tt j
  ]
  meets_expanded (times n x) h i = elim (in_cases h (meets x) _ i) [
    | inl j ↦ meets_expanded x h j
    | inr j ↦ met_itself (times n x) h tt j
  ]
  meets_expanded lookahead h i = met_itself lookahead h tt i
  meets_expanded lookbehind h i = met_itself lookbehind h tt i

  all_meet_expanded : (gs : ClosedSymbols) (h : ClosedSymbol) → In h (meets_all gs) → BecomesRule h
  all_meet_expanded no_symbols h i = absurd i
  all_meet_expanded (symbol_and g gs) h i = elim (in_cases h (meets g) _ i) [
    | inl j ↦ meets_expanded g h j
    | inr j ↦ all_meet_expanded gs h j
  ]

rule_meets_expanded : (M : Meaning) (g h : ClosedSymbol) → In h (rule_meets M g) → BecomesRule h
rule_meets_expanded M g h i =
    let (c, there, j) = of_flat (λ (c : Clause). meets_all c.parts) h (clauses M g) i in all_meet_expanded c.parts h j

chain_expanded : (M : Meaning) (declared : List ClosedSymbol) (k : ℕ) (h : ClosedSymbol) →
    Chain (rule_meets M) (flat_map (rule_meets M) declared) k h → BecomesRule h
chain_expanded M declared zero h i = let (g, there, j) = of_flat (rule_meets M) h declared i in rule_meets_expanded M g h j
chain_expanded M declared (suc k) h (g, c, i) = rule_meets_expanded M g h i

-- what was seen and the symbols of the generated rules are the same symbols
seen_made : (M : Meaning) (declared : List ClosedSymbol) (k : ℕ) (x : ClosedSymbol) → In x (expansion M declared k).seen →
    In x (expanded_symbols M declared k)
seen_made M declared zero x i = i
seen_made M declared (suc k) x i = elim (in_cases x (expansion M declared k).seen (expansion M declared k).fresh i) [
  | inl s ↦ in_left x (expanded_symbols M declared k) _ (seen_made M declared k x s)
  | inr f ↦ in_right x (expanded_symbols M declared k) _ (in_reverse x (expansion M declared k).fresh f)
]

made_seen : (M : Meaning) (declared : List ClosedSymbol) (k : ℕ) (x : ClosedSymbol) → In x (expanded_symbols M declared k) →
    In x (expansion M declared k).seen
made_seen M declared zero x i = i
made_seen M declared (suc k) x i = elim (in_cases x (expanded_symbols M declared k) _ i) [
  | inl m ↦ in_left x (expansion M declared k).seen _ (made_seen M declared k x m)
  | inr f ↦ in_right x (expansion M declared k).seen _ (of_reverse x (expansion M declared k).fresh f)
]

pub nothing_new_whole : NothingNewIsWhole
nothing_new_whole M declared k none = record {
  done = λ g h i j. elim (in_cases g declared (expanded_symbols M declared k) i) [
    | inl d ↦ found h (known.all_found h 0 (omega arith) (in_flat (rule_meets M) h g declared d j))
    | inr s ↦ seen_made M declared k h (closed same_symbol symbol_test (rule_meets M) start k none g h (made_seen M declared k g s) j)
  ];
  expanded = λ g i. let (j, l, c) = known.seen_chain g (made_seen M declared k g i) in chain_expanded M declared j g c;
  reached = λ g i. let (j, l, c) = known.seen_chain g (made_seen M declared k g i) in (j, c);
}
  where
    start : List ClosedSymbol
    start = flat_map (rule_meets M) declared

    known : After (rule_meets M) (flat_map (rule_meets M) declared) k (expansion M declared k)
    known = after_rounds same_symbol symbol_test (rule_meets M) (flat_map (rule_meets M) declared) k

    found : (h : ClosedSymbol) → In h ((expansion M declared k).seen ++ (expansion M declared k).fresh) → In h (expanded_symbols M declared k)
    found h i = elim (in_cases h _ _ i) [
      | inl s ↦ seen_made M declared k h s
      | inr f ↦ absurd (subst (λ (ys : List ClosedSymbol). In h ys) none f)
    ]

pub expansion_stands : ExpansionsStand
expansion_stands M V declared D own k none name one roots shared = record {
  distinct = one;
  shared = shared;
  resolved = λ g i p c e. elim (in_cases g declared _ i) [
    | inl d ↦ of_resolved g (own g d) p c e
    | inr s ↦ (let (j, chain) = whole.reached g s in of_resolved g (chain_resolved M declared D V declared own j g chain) p c e)
  ];
  done = λ g h i m. whole.done g h i m;
}
  where
    whole : IsWhole M declared (expanded_symbols M declared k)
    whole = nothing_new_whole M declared k none

    of_resolved : (g : ClosedSymbol) → IsResolvedIn declared g → (p : ℕ) (c : Clause) → slice_get (clauses M g) p ≡ Some c →
        AreDeclaredIn declared c.parts
    of_resolved g r p c e = all_declared_from declared c.parts (clause_resolved M declared D V g p c r e)

pub expansions_one_to_one : ExpansionsAreOneToOne
expansions_one_to_one M C V declared D own k none name one roots shared g known =
    one_to_one M C V name _ _
    (rules_realize M name roots declared (expanded_symbols M declared k) (expansion_stands M V declared D own k none name one roots shared))
    g known
