-- Written trees and their trees in the grammar with levels: forward, and what a pair of them is.
use Rattle.std.proofs.Common.{◌≡◌, ◌≤◌, le_refl, inl, inr, ℕ, zero, suc, ◌+◌, ◌<◌, ◌++◌, append-nil, refl, sym, ap, ap₂, ◌∙◌, subst, arith}
use Rattle.std.specs.Prelude.{List, slice_get, unwrap_or, Option, Some, None, length}
use Rattle.lalrpop_norm_theory.specs.Symbols.{Name, ClosedSymbol, ClosedSymbols, terminal, error, lookahead, lookbehind, reference, call, group, star, plus, question, times, wrapped, no_symbols, symbol_and, only}
use Rattle.lalrpop_norm_theory.specs.Meaning.{Meaning, HasLevels, HasCounts}
use Rattle.lalrpop_norm_theory.specs.WrittenTrees.{WrittenTree, WrittenTrees, leaf, nothing, list, node, no_trees, tree_and, IsTreeOf, AreTreesOf, EachTreeOf, yield, yields}
use Rattle.lalrpop_norm_theory.specs.LoweredTrees.{Origin, written}
use Rattle.lalrpop_norm_theory.specs.Clauses.{Clause, clause, clauses, own_clauses, step_clauses}
use Rattle.lalrpop_norm_theory.specs.Translations.{lowered_place}
use Rattle.lalrpop_norm_theory.specs.Leveled.{level_reference, leveled_symbols, IsLeveled}
use Rattle.lalrpop_norm_theory.specs.Steps.{Steps, AllSteps, EachSteps, terminal_kept, error_kept, wrapped_kept, lookahead_kept, lookbehind_kept, group_kept, star_kept, plus_kept, question_kept, times_kept, call_kept, at_level, below_level, all_done, all_and, each_done, each_and, own_level, step_level, tree_through_levels, clause_number, leveled_tree, leveled_all, leveled_each}
use Rattle.lalrpop_norm_theory.proofs.Numbered.{numbered_complete, own_clause_at, step_clause_last, left_at}
use Rattle.lalrpop_norm_theory.proofs.PairSides.{raised}
use Rattle.lalrpop_norm_theory.proofs.PairTranslations.{place_is}
use Rattle.lalrpop_norm_theory.proofs.PairTotal.{step_place}
use Rattle.lalrpop_norm_theory.proofs.CallLemmas.{call_there}

module _ (M L : Meaning) (l : Name → ℕ → Name) (V : HasLevels M) where
  mutual
    -- the first tree is a bounded one of the symbol
    pub bounded_tree : {g : ClosedSymbol} {t m : WrittenTree} → Steps M L l g t m → IsTreeOf M t g
    bounded_tree (terminal_kept a) = refl
    bounded_tree error_kept = refl
    bounded_tree (wrapped_kept w g t m h) = bounded_tree h
    bounded_tree lookahead_kept = tt
    bounded_tree lookbehind_kept = tt
    bounded_tree (group_kept gs ts ms h) = bounded_trees h
    bounded_tree (star_kept x ts ms h) = bounded_each h
    bounded_tree (plus_kept x ts ms n h) = (n, bounded_each h)
    bounded_tree (question_kept x ts ms n h) = (n, bounded_each h)
    bounded_tree (times_kept n x ts ms e h) = (e, bounded_each h)
    bounded_tree (call_kept n k j p args parts ts ms e at there h) = (refl, parts, e, bounded_trees h)
    bounded_tree (at_level n k p b parts ts ms e i h) = (refl, parts, V.own n b k parts e, bounded_trees h)
    bounded_tree (below_level n p b c t m e i h) = raised M V n b c e t (bounded_tree h)

    pub bounded_trees : {gs : ClosedSymbols} {ts ms : WrittenTrees} → AllSteps M L l gs ts ms → AreTreesOf M ts gs
    bounded_trees all_done = tt
    bounded_trees (all_and g gs t ts m ms h hs) = (bounded_tree h, bounded_trees hs)

    pub bounded_each : {x : ClosedSymbol} {ts ms : WrittenTrees} → EachSteps M L l x ts ms → EachTreeOf M ts x
    bounded_each (each_done x) = tt
    bounded_each (each_and x t ts m ms h hs) = (bounded_tree h, bounded_each hs)

module _ (M L : Meaning) (l : Name → ℕ → Name) (C : HasCounts M) where
  level_own_stepped : (m : Name) (k : ℕ) (b : Option ℕ) (parts : ClosedSymbols) (ts ms : WrittenTrees) →
      M.own_parts m b k ≡ Some parts → AllSteps M L l parts ts ms →
      Steps M L l (reference m b) (node m k ts) (node (level_reference l m b) (lowered_place (M.own_parts m b) 0 k) ms)
  level_own_stepped m k b parts ts ms e h =
      let z : 0 + k ≡ k = omega arith in
      let at = numbered_complete m (M.own_parts m b) 0 (M.reference_count m) k parts (rw z e) (C.of_rules m b k parts e) in
      let at' = left_at (own_clauses M m b) (step_clauses m (M.previous m b)) (lowered_place (M.own_parts m b) 0 k) _ (rw z at at) in
      at_level m k (lowered_place (M.own_parts m b) 0 k) b parts ts ms e at' h

module _ (M L : Meaning) (l : Name → ℕ → Name) (origin : Name → ℕ → Origin) (declared : List ClosedSymbol)
    (I : IsLeveled M L l origin declared) (C : HasCounts M) (V : HasLevels M) where
  level_rule_stepped : (m : Name) (k : ℕ) (children : ClosedSymbols → WrittenTrees) (ts : WrittenTrees) (parts : ClosedSymbols) →
      AllSteps M L l parts ts (children parts) → (depth : ℕ) (b : Option ℕ) → M.depth m b ≤ depth →
      M.reference_parts m b k ≡ Some parts → Steps M L l (reference m b) (node m k ts) (tree_through_levels M l m k children depth b)
  level_rule_stepped m k children ts parts h zero b d e = elim (V.split m b k parts e) [
    | inl own ↦ rw own (level_own_stepped M L l C m k b parts ts (children parts) own h)
    | inr r ↦ absurd (let deep : M.depth m r.0 < M.depth m b = V.deeper m b r.0 r.2 in omega arith)
  ]
  level_rule_stepped m k children ts parts h (suc depth) b d e = elim (V.split m b k parts e) [
    | inl own ↦ rw own (level_own_stepped M L l C m k b parts ts (children parts) own h)
    | inr r ↦
        let deep : M.depth m r.0 < M.depth m b = V.deeper m b r.0 r.2 in
        let less : M.depth m r.0 ≤ depth = omega arith in
        rw (r.1, r.2)
        (below_level m (length (own_clauses M m b)) b r.0 (node m k ts) (tree_through_levels M l m k children depth r.0) r.2 (step_place M m b r.0 r.2)
        (level_rule_stepped m k children ts parts h depth r.0 less r.3))
  ]

  abbrev lower_number : (m : Name) (args : ClosedSymbols) → ℕ → ℕ
  lower_number m args q = clause_number (slice_get (clauses L (call m (leveled_symbols l args))) q)

  call_stepped : (n m : Name) (k : ℕ) (args parts : ClosedSymbols) (ts : WrittenTrees) (children : ClosedSymbols → WrittenTrees) → n ≡ m →
      M.call_parts m args k ≡ Some parts → AllSteps M L l parts ts (children parts) →
      Steps M L l (call m args) (node n k ts)
      (node m (lower_number m args (lowered_place (M.call_parts m args) 0 k)) (children (unwrap_or (M.call_parts m args k) no_symbols)))
  call_stepped n m k args parts ts children same e h =
      let q : ℕ = lowered_place (M.call_parts m args) 0 k in
      let z : 0 + k ≡ k = omega arith in
      let found = numbered_complete m (M.call_parts m args) 0 (M.call_count m) k parts (rw z e) (C.of_calls m args k parts e) in
      let at : slice_get (clauses M (call m args)) q ≡ Some (clause (written m k) parts) = rw z at found in
      let (j, there) = call_there M L l origin declared I m args q k parts at in
      subst (λ (x : Name). Steps M L l (call m args) (node x k ts) (node m (lower_number m args q) (children (unwrap_or (M.call_parts m args k) no_symbols)))) (sym same)
      (subst (λ (o : Option ClosedSymbols). Steps M L l (call m args) (node m k ts) (node m (lower_number m args q) (children (unwrap_or o no_symbols)))) (sym e)
      (subst (λ (o : Option Clause). Steps M L l (call m args) (node m k ts) (node m (clause_number o) (children parts))) (sym there)
      (call_kept m k j q args parts ts (children parts) e at there h)))

  mutual
    -- a bounded tree has its tree in the grammar with levels
    pub steps_leveled : (t : WrittenTree) (g : ClosedSymbol) → IsTreeOf M t g → Steps M L l g t (leveled_tree M L l t g)
    steps_leveled t (wrapped w g) h = wrapped_kept w g t _ (steps_leveled t g h)
    steps_leveled (leaf a) (terminal b) h = subst (λ c. Steps M L l (terminal c) (leaf a) (leaf a)) h (terminal_kept a)
    steps_leveled (leaf a) error h = subst (λ c. Steps M L l error (leaf c) (leaf c)) (sym h) error_kept
    steps_leveled nothing lookahead h = lookahead_kept
    steps_leveled nothing lookbehind h = lookbehind_kept
    steps_leveled (list ts) (group gs) h = group_kept gs ts _ (steps_leveled_all ts gs h)
    steps_leveled (list ts) (star x) h = star_kept x ts _ (steps_leveled_each ts x h)
    steps_leveled (list ts) (plus x) h = plus_kept x ts _ h.0 (steps_leveled_each ts x h.1)
    steps_leveled (list ts) (question x) h = question_kept x ts _ h.0 (steps_leveled_each ts x h.1)
    steps_leveled (list ts) (times n x) h = times_kept n x ts _ h.0 (steps_leveled_each ts x h.1)
    steps_leveled (node n k ts) (reference m b) (same, parts, e, hs) =
        rw same (level_rule_stepped m k (λ gs. leveled_all M L l ts gs) ts parts (steps_leveled_all ts parts hs) (M.depth m b) b (le_refl (M.depth m b)) e)
    steps_leveled (node n k ts) (call m args) (same, parts, e, hs) =
        call_stepped n m k args parts ts (λ gs. leveled_all M L l ts gs) same e (steps_leveled_all ts parts hs)
    steps_leveled _ _ h = absurd h

    pub steps_leveled_all : (ts : WrittenTrees) (gs : ClosedSymbols) → AreTreesOf M ts gs → AllSteps M L l gs ts (leveled_all M L l ts gs)
    steps_leveled_all no_trees no_symbols h = all_done
    steps_leveled_all no_trees (symbol_and g gs) h = absurd h
    steps_leveled_all (tree_and t ts) no_symbols h = absurd h
    steps_leveled_all (tree_and t ts) (symbol_and g gs) h = all_and g gs t ts _ _ (steps_leveled t g h.0) (steps_leveled_all ts gs h.1)

    pub steps_leveled_each : (ts : WrittenTrees) (x : ClosedSymbol) → EachTreeOf M ts x → EachSteps M L l x ts (leveled_each M L l ts x)
    steps_leveled_each no_trees x h = each_done x
    steps_leveled_each (tree_and t ts) x h = each_and x t ts _ _ (steps_leveled t x h.0) (steps_leveled_each ts x h.1)

module _ (M : Meaning) (l : Name → ℕ → Name) where
  leveled_own : (n : Name) (k : ℕ) (children : ClosedSymbols → WrittenTrees) (b : Option ℕ) (parts : ClosedSymbols) →
      M.own_parts n b k ≡ Some parts → (depth : ℕ) →
      tree_through_levels M l n k children depth b ≡ node (level_reference l n b) (lowered_place (M.own_parts n b) 0 k) (children parts)
  leveled_own n k children b parts e zero = rw e refl
  leveled_own n k children b parts e (suc depth) = rw e refl

  -- what is below the own alternatives, with so many steps at most
  abbrev below_own : (n : Name) (k : ℕ) (children : ClosedSymbols → WrittenTrees) → ℕ → Option ℕ → WrittenTree
  below_own n k children zero b = nothing
  below_own n k children (suc d) b = step_level M l n b (M.previous n b) (λ c. tree_through_levels M l n k children d c)

  unrolled : (n : Name) (k : ℕ) (children : ClosedSymbols → WrittenTrees) (d : ℕ) (b : Option ℕ) →
      tree_through_levels M l n k children d b ≡ own_level M l n k children b (M.own_parts n b k) (below_own n k children d b)
  unrolled n k children zero b = refl
  unrolled n k children (suc d) b = refl

module _ (M L : Meaning) (l : Name → ℕ → Name) (V : HasLevels M) where
  step_same : (n : Name) (b : Option ℕ) (d e : ℕ) (f g : Option ℕ → WrittenTree) →
      M.depth n b ≤ suc d → M.depth n b ≤ suc e →
      ((c : Option ℕ) → M.depth n c ≤ d → M.depth n c ≤ e → f c ≡ g c) →
      step_level M l n b (M.previous n b) f ≡ step_level M l n b (M.previous n b) g
  step_same n b d e f g i m h = at (M.previous n b) refl
    where
      at : (o : Option (Option ℕ)) → M.previous n b ≡ o → step_level M l n b o f ≡ step_level M l n b o g
      at None p = refl
      at (Some c) p =
          let less : M.depth n c < M.depth n b = V.deeper n b c p in
          ap (λ r. node (level_reference l n b) (length (own_clauses M n b)) (tree_and r no_trees)) (h c (omega arith) (omega arith))

  no_step : (n : Name) (b : Option ℕ) (f : Option ℕ → WrittenTree) →
      M.depth n b ≤ 0 → step_level M l n b (M.previous n b) f ≡ nothing
  no_step n b f i = at (M.previous n b) refl
    where
      at : (o : Option (Option ℕ)) → M.previous n b ≡ o → step_level M l n b o f ≡ nothing
      at None p = refl
      at (Some c) p = let less : M.depth n c < M.depth n b = V.deeper n b c p in absurd (omega arith)

  tail_same : (n : Name) (k : ℕ) (children : ClosedSymbols → WrittenTrees) (d e : ℕ) (b : Option ℕ) →
      M.depth n b ≤ d → M.depth n b ≤ e → below_own M l n k children d b ≡ below_own M l n k children e b
  tail_same n k children zero zero b i m = refl
  tail_same n k children zero (suc e) b i m = sym (no_step n b _ i)
  tail_same n k children (suc d) zero b i m = no_step n b _ m
  tail_same n k children (suc d) (suc e) b i m = step_same n b d e _ _ i m (λ c x y.
      unrolled M l n k children d c ∙
      ap (λ r. own_level M l n k children c (M.own_parts n c k) r) (tail_same n k children d e c x y) ∙
      sym (unrolled M l n k children e c))

  -- any bound on the steps serves
  enough : (n : Name) (k : ℕ) (children : ClosedSymbols → WrittenTrees) (d e : ℕ) (b : Option ℕ) →
      M.depth n b ≤ d → M.depth n b ≤ e → tree_through_levels M l n k children d b ≡ tree_through_levels M l n k children e b
  enough n k children d e b i m =
      unrolled M l n k children d b ∙
      ap (λ r. own_level M l n k children b (M.own_parts n b k) r) (tail_same n k children d e b i m) ∙
      sym (unrolled M l n k children e b)

  leveled_step : (n : Name) (b c : Option ℕ) → M.previous n b ≡ Some c →
      (t : WrittenTree) → IsTreeOf M t (reference n c) →
      leveled_tree M L l t (reference n b) ≡ node (level_reference l n b) (length (own_clauses M n b)) (tree_and (leveled_tree M L l t (reference n c)) no_trees)
  leveled_step n b c e (leaf a) h = absurd h
  leveled_step n b c e nothing h = absurd h
  leveled_step n b c e (list ts) h = absurd h
  leveled_step n b c e (node m k ts) (same, parts, at, hs) =
      deep (M.depth n b) (V.deeper n b c e)
    where
      deep : (depth : ℕ) → M.depth n c < depth →
          tree_through_levels M l n k (λ gs. leveled_all M L l ts gs) depth b ≡
          node (level_reference l n b) (length (own_clauses M n b)) (tree_and (tree_through_levels M l n k (λ gs. leveled_all M L l ts gs) (M.depth n c) c) no_trees)
      deep zero i = absurd (omega arith)
      deep (suc d) i =
          rw (V.apart n b c k parts e at, e)
          (ap (λ r. node (level_reference l n b) (length (own_clauses M n b)) (tree_and r no_trees))
          (enough n k (λ gs. leveled_all M L l ts gs) d (M.depth n c) c (omega arith) (omega arith)))

  mutual
    -- the tree in the grammar with levels is the only one
    pub leveled_to : {g : ClosedSymbol} {t m : WrittenTree} → Steps M L l g t m → leveled_tree M L l t g ≡ m
    leveled_to (terminal_kept a) = refl
    leveled_to error_kept = refl
    leveled_to (wrapped_kept w g t m h) = leveled_to h
    leveled_to lookahead_kept = refl
    leveled_to lookbehind_kept = refl
    leveled_to (group_kept gs ts ms h) = ap list (leveled_to_all h)
    leveled_to (star_kept x ts ms h) = ap list (leveled_to_each h)
    leveled_to (plus_kept x ts ms n h) = ap list (leveled_to_each h)
    leveled_to (question_kept x ts ms n h) = ap list (leveled_to_each h)
    leveled_to (times_kept n x ts ms e h) = ap list (leveled_to_each h)
    leveled_to (call_kept n k j p args parts ts ms e at there h) =
        ap₂ (λ q us. node n q us)
        (ap (λ q. clause_number (slice_get (clauses L (call n (leveled_symbols l args))) q)) (place_is n k p (M.call_parts n args) (M.call_count n) parts at)
        ∙ ap clause_number there)
        (ap (λ o. leveled_all M L l ts (unwrap_or o no_symbols)) e ∙ leveled_to_all h)
    leveled_to (at_level n k p b parts ts ms e i h) =
        leveled_own M l n k (λ gs. leveled_all M L l ts gs) b parts e (M.depth n b) ∙
        ap₂ (λ q r. node (level_reference l n b) q r)
        (place_is n k p (M.own_parts n b) (M.reference_count n) parts
        (own_clause_at n (M.own_parts n b) (M.reference_count n) (M.previous n b) p k parts i))
        (leveled_to_all h)
    leveled_to (below_level n p b c t m e i h) =
        leveled_step n b c e t (bounded_tree M L l V h) ∙
        ap₂ (λ q r. node (level_reference l n b) q (tree_and r no_trees))
        (sym (step_clause_last n (M.own_parts n b) (M.reference_count n) (M.previous n b) p (only (reference n c)) i))
        (leveled_to h)

    pub leveled_to_all : {gs : ClosedSymbols} {ts ms : WrittenTrees} → AllSteps M L l gs ts ms → leveled_all M L l ts gs ≡ ms
    leveled_to_all all_done = refl
    leveled_to_all (all_and g gs t ts m ms h hs) = ap₂ tree_and (leveled_to h) (leveled_to_all hs)

    pub leveled_to_each : {x : ClosedSymbol} {ts ms : WrittenTrees} → EachSteps M L l x ts ms → leveled_each M L l ts x ≡ ms
    leveled_to_each (each_done x) = refl
    leveled_to_each (each_and x t ts m ms h hs) = ap₂ tree_and (leveled_to h) (leveled_to_each hs)

module _ (M L : Meaning) (l : Name → ℕ → Name) where
  mutual
    -- both have one word
    pub steps_yield : {g : ClosedSymbol} {t m : WrittenTree} → Steps M L l g t m → yield t ≡ yield m
    steps_yield (terminal_kept a) = refl
    steps_yield error_kept = refl
    steps_yield (wrapped_kept w g t m h) = steps_yield h
    steps_yield lookahead_kept = refl
    steps_yield lookbehind_kept = refl
    steps_yield (group_kept gs ts ms h) = steps_yields h
    steps_yield (star_kept x ts ms h) = steps_yield_each h
    steps_yield (plus_kept x ts ms n h) = steps_yield_each h
    steps_yield (question_kept x ts ms n h) = steps_yield_each h
    steps_yield (times_kept n x ts ms e h) = steps_yield_each h
    steps_yield (call_kept n k j p args parts ts ms e at there h) = steps_yields h
    steps_yield (at_level n k p b parts ts ms e i h) = steps_yields h
    steps_yield (below_level n p b c t m e i h) = steps_yield h ∙ sym (append-nil (yield m))

    pub steps_yields : {gs : ClosedSymbols} {ts ms : WrittenTrees} → AllSteps M L l gs ts ms → yields ts ≡ yields ms
    steps_yields all_done = refl
    steps_yields (all_and g gs t ts m ms h hs) = ap₂ ◌++◌ (steps_yield h) (steps_yields hs)

    pub steps_yield_each : {x : ClosedSymbol} {ts ms : WrittenTrees} → EachSteps M L l x ts ms → yields ts ≡ yields ms
    steps_yield_each (each_done x) = refl
    steps_yield_each (each_and x t ts m ms h hs) = ap₂ ◌++◌ (steps_yield h) (steps_yield_each hs)
