-- The faults of a written tree are those of the written language.
use Rattle.std.proofs.Common.{◌≡◌, inl, inr, ◌⊎◌, ℕ, zero, suc, ◌+◌, ◌≤◌, Bool, true, false, List, [], ◌∷◌, ◌++◌, map, refl, sym, ap, ◌∙◌, arith, nat_eq, bytes_eq}
use Rattle.std.specs.Prelude.{Option, Some, None, if◌then◌else◌}
use Rattle.std.proofs.lemmas.Bool.Decides.{nat_tests}
use Rattle.std.proofs.lemmas.List.{append-nil}
use Rattle.lalrpop_norm_theory.specs.Symbols.{Name, Terminal, error_terminal, ClosedSymbol, ClosedSymbols, terminal, error, reference, call, group, star, plus, question, times, wrapped, lookahead, lookbehind, no_symbols, symbol_and, only, replicated}
use Rattle.lalrpop_norm_theory.specs.Same.{same_closed_terminal}
use Rattle.lalrpop_norm_theory.specs.Meaning.{Meaning, HasCounts, HasLevels}
use Rattle.lalrpop_norm_theory.specs.LoweredTrees.{ProductionTable, LoweredSymbol, level_step}
use Rattle.lalrpop_norm_theory.specs.WrittenTrees.{WrittenTree, WrittenTrees, leaf, nothing, list, node, no_trees, tree_and, tree_count}
use Rattle.lalrpop_norm_theory.specs.Clauses.{Clause, clause, clause_and, numbered, step_clauses, symbol_of, symbols_of, clause_production}
use Rattle.lalrpop_norm_theory.specs.Met.{IsKnown}
use Rattle.lalrpop_norm_theory.specs.Tables.{AllKnown, Realizes}
use Rattle.lalrpop_norm_theory.proofs.SameLemmas.{text_sound}
use Rattle.lalrpop_norm_theory.proofs.PairTotal.{step_place}
use Rattle.lalrpop_norm_explain.specs.declared.errors.ExplainFault.TheVariants.{Shape as NoShape}
use Rattle.lalrpop_norm_explain.specs.TreeFaults.{Found}
use Rattle.lalrpop_norm_explain.specs.Forms.{form_of}
use Rattle.lalrpop_norm_explain.specs.Plans.{TreePlan, plan, flat, own_plan, step, node_plan, is_one_for_each, each, fitting, list_at, nothing_at, node_at}
use Rattle.lalrpop_norm_explain.specs.TreeLowering.{shape_faults, shapes_faults, plan_faults}
use Rattle.lalrpop_norm_explain.specs.WrittenShapes.{symbol_count, only_if, one_tree_each, children_of, here_or_below, misshapen, all_misshapen}
use Rattle.lalrpop_norm_explain.specs.Laws.{IsRank, FaultsAreWritten}
use Rattle.lalrpop_norm_explain.proofs.Formed.{no_form, step_no_form}
use Rattle.lalrpop_norm_explain.proofs.NoFault.{own_absent, no_own_step, step_behind, rule_planned, call_planned, one_for_each}
use Rattle.lalrpop_norm_explain.proofs.ShapedTrees.{counted_replicated, some_more, two_more}

-- ---- plans, and the symbols of children

each_replicated : (name : ClosedSymbol → Name) (x : ClosedSymbol) (ts : WrittenTrees) → each (symbol_of name x) ts ≡ symbols_of name (replicated (tree_count ts) x)
each_replicated name x no_trees = refl
each_replicated name x (tree_and t ts) = ap (λ ss. symbol_of name x ∷ ss) (each_replicated name x ts)

counted_alike : (name : ClosedSymbol → Name) (ts : WrittenTrees) (gs : ClosedSymbols) → is_one_for_each ts (symbols_of name gs) ≡ nat_eq (tree_count ts) (symbol_count gs)
counted_alike name no_trees no_symbols = refl
counted_alike name no_trees (symbol_and g gs) = grind (arith, nat_tests)
counted_alike name (tree_and t ts) no_symbols = grind (arith, nat_tests)
counted_alike name (tree_and t ts) (symbol_and g gs) = counted_alike name ts gs ∙ grind (arith, nat_tests)

-- the alternatives of another rule are not found
own_other : (name : ClosedSymbol → Name) (N n m : Name) (f : ℕ → Option ClosedSymbols) (K : ℕ) → bytes_eq n m ≡ false → (rest : List Clause) →
    ((j : ℕ) → own_plan N m K j (map (clause_production name) rest) ≡ None) → (i k left : ℕ) →
    own_plan N m K i (map (clause_production name) (numbered n f k left ++ rest)) ≡ None
own_other name N n m f K e rest r i k zero = r i
own_other name N n m f K e rest r i k (suc left) = go (f k) (λ j. own_other name N n m f K e rest r j (suc k) left)
  where
    go : (o : Option ClosedSymbols) → ((j : ℕ) → own_plan N m K j (map (clause_production name) (numbered n f (suc k) left ++ rest)) ≡ None) →
        own_plan N m K i (map (clause_production name) (clause_and n k o (numbered n f (suc k) left) ++ rest)) ≡ None
    go None ih = ih i
    go (Some parts) ih = rw e (ih (suc i))

-- a step leads on if there is a plan below
no_step : (name : ClosedSymbol → Name) (N m : Name) (below : Name → Option TreePlan) (o : Option (Option ℕ)) →
    ((c : Option ℕ) → o ≡ Some c → below (name (reference m c)) ≡ None) → (j : ℕ) → step N below j (map (clause_production name) (step_clauses m o)) ≡ None
no_step name N m below None h j = refl
no_step name N m below (Some c) h j = rw (h c refl) refl

module _ (M : Meaning) (C : HasCounts M) (V : HasLevels M) (name : ClosedSymbol → Name) (P : ProductionTable) (Known : ClosedSymbol → Type 0)
    (R : Realizes M name P Known) where
  -- the plan wants the symbols that the children must be trees of, and these are known
  abbrev Agrees : Option TreePlan → Option ClosedSymbols → Type 0
  Agrees None None = Unit {0}
  Agrees (Some q) (Some gs) = (q.wanted ≡ symbols_of name gs) × AllKnown Known gs
  Agrees _ _ = ⊥

  agreed : (o : Option TreePlan) (r : Option ClosedSymbols) (below : List LoweredSymbol → List Found) (under : ClosedSymbols → List Found) → Agrees o r →
      ((gs : ClosedSymbols) → AllKnown Known gs → below (symbols_of name gs) ≡ under gs) → plan_faults o below ≡ here_or_below r under
  agreed None None below under h f = refl
  agreed (Some q) (Some gs) below under h f = ap below h.0 ∙ f gs h.1
  agreed None (Some gs) below under h f = absurd h
  agreed (Some q) None below under h f = absurd h

  agree_if : (b c : Bool) → b ≡ c → (q : TreePlan) (gs : ClosedSymbols) → q.wanted ≡ symbols_of name gs → AllKnown Known gs →
      Agrees (if b then Some q else None) (only_if c gs)
  agree_if true true e q gs w k = (w, k)
  agree_if false false e q gs w k = tt
  agree_if true false e q gs w k = absurd (cc e)
  agree_if false true e q gs w k = absurd (cc e)

  fitting_agrees : (ts : WrittenTrees) (o : Option TreePlan) (r : Option ClosedSymbols) → Agrees o r → Agrees (fitting ts o) (one_tree_each ts r)
  fitting_agrees ts None None h = tt
  fitting_agrees ts (Some q) (Some gs) h =
      agree_if (is_one_for_each ts q.wanted) (nat_eq (tree_count ts) (symbol_count gs)) (ap (is_one_for_each ts) h.0 ∙ counted_alike name ts gs) q gs h.0 h.1
  fitting_agrees ts None (Some gs) h = absurd h
  fitting_agrees ts (Some q) None h = absurd h

  replicated_known : (n : ℕ) (x : ClosedSymbol) → Known x → AllKnown Known (replicated n x)
  replicated_known zero x k = tt
  replicated_known (suc n) x k = (k, replicated_known n x k)

  no_reference_form : (m : Name) (b : Option ℕ) → Known (reference m b) → form_of (P (name (reference m b))) ≡ None
  no_reference_form m b k =
      rw (R.productions (reference m b) tt k)
      (no_form name m (M.own_parts m b) 0 (M.reference_count m) (step_clauses m (M.previous m b)) (step_no_form name m (M.previous m b)))

  no_call_form : (m : Name) (args : ClosedSymbols) → Known (call m args) → form_of (P (name (call m args))) ≡ None
  no_call_form m args k =
      let none = no_form name m (M.call_parts m args) 0 (M.call_count m) [] refl in
      let same = append-nil (numbered m (M.call_parts m args) 0 (M.call_count m)) in
      rw (R.productions (call m args) tt k) (rw same at none)

  -- ---- nothing, and lists

  nothing_agrees : (g : ClosedSymbol) → Known g → Agrees (nothing_at P (symbol_of name g)) (children_of M nothing g)
  nothing_agrees (wrapped w g) k = nothing_agrees g (R.inner w g k)
  nothing_agrees (terminal a) k = tt
  nothing_agrees error k = tt
  nothing_agrees (reference m b) k = rw (no_reference_form m b k) tt
  nothing_agrees (call m args) k = rw (no_call_form m args k) tt
  nothing_agrees (group gs) k = rw (R.productions (group gs) tt k) tt
  nothing_agrees (star x) k = rw (R.productions (star x) tt k) tt
  nothing_agrees (plus x) k = rw (R.productions (plus x) tt k) tt
  nothing_agrees (question x) k = rw (R.productions (question x) tt k) tt
  nothing_agrees (times n x) k = rw (R.productions (times n x) tt k) tt
  nothing_agrees lookahead k = rw (R.productions lookahead tt k) (refl, tt)
  nothing_agrees lookbehind k = rw (R.productions lookbehind tt k) (refl, tt)

  list_agrees : (ts : WrittenTrees) (g : ClosedSymbol) → Known g → Agrees (list_at P (symbol_of name g) ts) (children_of M (list ts) g)
  list_agrees ts (wrapped w g) k = list_agrees ts g (R.inner w g k)
  list_agrees ts (terminal a) k = tt
  list_agrees ts error k = tt
  list_agrees ts (reference m b) k = rw (no_reference_form m b k) tt
  list_agrees ts (call m args) k = rw (no_call_form m args k) tt
  list_agrees ts (group gs) k =
      rw (R.productions (group gs) tt k)
      (fitting_agrees ts (Some (plan (name (group gs)) (flat 0) (symbols_of name gs))) (Some gs) (refl, R.parts_known (group gs) 0 _ k refl))
  list_agrees no_trees (star x) k = rw (R.productions (star x) tt k) (refl, tt)
  list_agrees (tree_and t ts) (star x) k =
      let kp = (R.parts_known (star x) 1 _ k refl).0 in
      rw (R.productions (star x) tt k, R.productions (plus x) tt kp, one_for_each (symbol_of name x) ts)
      (each_replicated name x (tree_and t ts), replicated_known (tree_count (tree_and t ts)) x (R.parts_known (plus x) 0 _ kp refl).0)
  list_agrees no_trees (plus x) k = rw (R.productions (plus x) tt k) tt
  list_agrees (tree_and t ts) (plus x) k =
      rw (R.productions (plus x) tt k, one_for_each (symbol_of name x) ts, some_more (tree_count ts))
      (each_replicated name x (tree_and t ts), replicated_known (tree_count (tree_and t ts)) x (R.parts_known (plus x) 0 _ k refl).0)
  list_agrees no_trees (question x) k = rw (R.productions (question x) tt k) (refl, tt)
  list_agrees (tree_and t no_trees) (question x) k = rw (R.productions (question x) tt k) (refl, replicated_known 1 x (R.parts_known (question x) 0 _ k refl).0)
  list_agrees (tree_and t (tree_and s ts)) (question x) k = rw (R.productions (question x) tt k, two_more (tree_count ts)) tt
  list_agrees ts (times n x) k =
      rw (R.productions (times n x) tt k)
      (agree_if (is_one_for_each ts (symbols_of name (replicated n x))) (nat_eq (tree_count ts) n)
      (counted_alike name ts (replicated n x) ∙ ap (nat_eq (tree_count ts)) (counted_replicated n x))
      (plan (name (times n x)) (flat 0) (symbols_of name (replicated n x))) (replicated n x) refl (R.parts_known (times n x) 0 _ k refl))
  list_agrees ts lookahead k = rw (R.productions lookahead tt k) tt
  list_agrees ts lookbehind k = rw (R.productions lookbehind tt k) tt

  -- ---- nodes

  -- no own alternative, and no step
  unplanned : (fuel : ℕ) (N n : Name) (k : ℕ) → own_plan N n k 0 (P N) ≡ None → ((below : Name → Option TreePlan) → step N below 0 (P N) ≡ None) →
      node_plan P fuel N n k ≡ None
  unplanned zero N n k e s = e
  unplanned (suc fuel) N n k e s = rw e (s (λ c. node_plan P fuel c n k))

  -- the rule m has no parts of the alternative within the bound, or is another one
  abbrev Misses : Name → Name → ℕ → Option ClosedSymbols → Type 0
  Misses n m k o = (bytes_eq m n ≡ false) ⊎ ((n ≡ m) × (o ≡ None))

  own_missing : (m : Name) (k : ℕ) (b : Option ℕ) → M.reference_parts m b k ≡ None → M.own_parts m b k ≡ None
  own_missing m k b none = go (M.own_parts m b k) refl
    where
      go : (o : Option ClosedSymbols) → M.own_parts m b k ≡ o → o ≡ None
      go None e = refl
      go (Some parts) e = let bad : None ≡ Some parts = sym none ∙ V.own m b k parts e in absurd (cc bad)

  missing_below : (m : Name) (k : ℕ) (b c : Option ℕ) → M.previous m b ≡ Some c → M.reference_parts m b k ≡ None → M.reference_parts m c k ≡ None
  missing_below m k b c e none = go (M.reference_parts m c k) refl
    where
      go : (o : Option ClosedSymbols) → M.reference_parts m c k ≡ o → o ≡ None
      go None e' = refl
      go (Some parts) e' = let bad : None ≡ Some parts = sym none ∙ V.chained m b c k parts e e' in absurd (cc bad)

  no_own : (n m : Name) (k : ℕ) (b : Option ℕ) → Known (reference m b) → Misses n m k (M.reference_parts m b k) →
      own_plan (name (reference m b)) n k 0 (P (name (reference m b))) ≡ None
  no_own n m k b known (inl e) =
      rw (R.productions (reference m b) tt known)
      (own_other name (name (reference m b)) m n (M.own_parts m b) k e (step_clauses m (M.previous m b))
      (no_own_step name (name (reference m b)) n m k (M.previous m b)) 0 0 (M.reference_count m))
  no_own n m k b known (inr (same, none)) =
      rw (same, R.productions (reference m b) tt known)
      (own_absent name (name (reference m b)) m (M.own_parts m b) k (step_clauses m (M.previous m b)) (own_missing m k b none)
      (no_own_step name (name (reference m b)) m m k (M.previous m b)) 0 0 (M.reference_count m))

  misses_below : (n m : Name) (k : ℕ) (b c : Option ℕ) → M.previous m b ≡ Some c → Misses n m k (M.reference_parts m b k) → Misses n m k (M.reference_parts m c k)
  misses_below n m k b c e (inl other) = inl other
  misses_below n m k b c e (inr (same, none)) = inr (same, missing_below m k b c e none)

  no_rule : (fuel : ℕ) (n m : Name) (k : ℕ) (b : Option ℕ) → Known (reference m b) → Misses n m k (M.reference_parts m b k) →
      node_plan P fuel (name (reference m b)) n k ≡ None
  no_rule zero n m k b known miss = no_own n m k b known miss
  no_rule (suc fuel) n m k b known miss =
      let below = λ (c : Name). node_plan P fuel c n k in
      let s = step_behind name (name (reference m b)) m (M.own_parts m b) k below (step_clauses m (M.previous m b)) 0 0 (M.reference_count m) in
      let none = no_step name (name (reference m b)) m below (M.previous m b)
      (λ c e. no_rule fuel n m k c (R.parts_known (reference m b) _ (clause level_step (only (reference m c))) known (step_place M m b c e)).0 (misses_below n m k b c e miss)) s.0 in
      let steps : step (name (reference m b)) below 0 (P (name (reference m b))) ≡ None = rw (R.productions (reference m b) tt known) (s.1 ∙ none) in
      rw (no_own n m k b known miss) steps

  no_call : (fuel : ℕ) (n m : Name) (args : ClosedSymbols) (k : ℕ) → Known (call m args) → Misses n m k (M.call_parts m args k) →
      node_plan P fuel (name (call m args)) n k ≡ None
  no_call fuel n m args k known miss =
      unplanned fuel (name (call m args)) n k (own miss)
      (λ below.
      let s = step_behind name (name (call m args)) m (M.call_parts m args) k below [] 0 0 (M.call_count m) in
      let same = append-nil (numbered m (M.call_parts m args) 0 (M.call_count m)) in
      rw (R.productions (call m args) tt known) (rw same at s.1))
    where
      own : Misses n m k (M.call_parts m args k) → own_plan (name (call m args)) n k 0 (P (name (call m args))) ≡ None
      own (inl e) =
          let none = own_other name (name (call m args)) m n (M.call_parts m args) k e [] (λ j. refl) 0 0 (M.call_count m) in
          let same = append-nil (numbered m (M.call_parts m args) 0 (M.call_count m)) in
          rw (R.productions (call m args) tt known) (rw same at none)
      own (inr (is, missing)) =
          let none = own_absent name (name (call m args)) m (M.call_parts m args) k [] missing (λ j. refl) 0 0 (M.call_count m) in
          let same = append-nil (numbered m (M.call_parts m args) 0 (M.call_count m)) in
          rw (is, R.productions (call m args) tt known) (rw same at none)

  generated : (fuel : ℕ) (g : ClosedSymbol) (n : Name) (k : ℕ) (ts : WrittenTrees) → own_plan (name g) n k 0 (P (name g)) ≡ None →
      ((below : Name → Option TreePlan) → step (name g) below 0 (P (name g)) ≡ None) → Agrees (fitting ts (node_plan P fuel (name g) n k)) None
  generated fuel g n k ts e s = rw (unplanned fuel (name g) n k e s) tt

  module _ (fuel : ℕ) (rank : Name → Option ℕ → ℕ) (falls : IsRank M rank) (deep : (n : Name) (b : Option ℕ) → Known (reference n b) → rank n b ≤ fuel) where
    rule_agrees : (n m : Name) (k : ℕ) (ts : WrittenTrees) (b : Option ℕ) → Known (reference m b) → (is : Bool) → bytes_eq m n ≡ is →
        Agrees (fitting ts (node_plan P fuel (name (reference m b)) n k)) (if is then one_tree_each ts (M.reference_parts m b k) else None)
    rule_agrees n m k ts b known false e = rw (no_rule fuel n m k b known (inl e)) tt
    rule_agrees n m k ts b known true e = go (M.reference_parts m b k) refl
      where
        same : n ≡ m
        same = sym (text_sound m n e)

        go : (o : Option ClosedSymbols) → M.reference_parts m b k ≡ o → Agrees (fitting ts (node_plan P fuel (name (reference m b)) n k)) (one_tree_each ts o)
        go None none = rw (no_rule fuel n m k b known (inr (same, none))) tt
        go (Some parts) there =
            let r = rule_planned M C V name P Known R rank falls m k parts fuel b known (deep m b known) there in
            rw (same, r.1) (fitting_agrees ts (Some r.0) (Some parts) (r.2, r.3))

    call_agrees : (n m : Name) (k : ℕ) (ts : WrittenTrees) (args : ClosedSymbols) → Known (call m args) → (is : Bool) → bytes_eq m n ≡ is →
        Agrees (fitting ts (node_plan P fuel (name (call m args)) n k)) (if is then one_tree_each ts (M.call_parts m args k) else None)
    call_agrees n m k ts args known false e = rw (no_call fuel n m args k known (inl e)) tt
    call_agrees n m k ts args known true e = go (M.call_parts m args k) refl
      where
        same : n ≡ m
        same = sym (text_sound m n e)

        go : (o : Option ClosedSymbols) → M.call_parts m args k ≡ o → Agrees (fitting ts (node_plan P fuel (name (call m args)) n k)) (one_tree_each ts o)
        go None none = rw (no_call fuel n m args k known (inr (same, none))) tt
        go (Some parts) there =
            let r = call_planned M C V name P Known R m args k parts fuel known there in
            rw (same, r.1) (fitting_agrees ts (Some r.0) (Some parts) (r.2, r.3))

    node_agrees : (n : Name) (k : ℕ) (ts : WrittenTrees) (g : ClosedSymbol) → Known g → Agrees (node_at P fuel (symbol_of name g) n k ts) (children_of M (node n k ts) g)
    node_agrees n k ts (wrapped w g) known = node_agrees n k ts g (R.inner w g known)
    node_agrees n k ts (terminal a) known = tt
    node_agrees n k ts error known = tt
    node_agrees n k ts (reference m b) known = rule_agrees n m k ts b known (bytes_eq m n) refl
    node_agrees n k ts (call m args) known = call_agrees n m k ts args known (bytes_eq m n) refl
    node_agrees n k ts (group gs) known =
        generated fuel (group gs) n k ts (rw (R.productions (group gs) tt known) refl) (λ below. rw (R.productions (group gs) tt known) refl)
    node_agrees n k ts (star x) known =
        generated fuel (star x) n k ts (rw (R.productions (star x) tt known) refl) (λ below. rw (R.productions (star x) tt known) refl)
    node_agrees n k ts (plus x) known =
        generated fuel (plus x) n k ts (rw (R.productions (plus x) tt known) refl) (λ below. rw (R.productions (plus x) tt known) refl)
    node_agrees n k ts (question x) known =
        generated fuel (question x) n k ts (rw (R.productions (question x) tt known) refl) (λ below. rw (R.productions (question x) tt known) refl)
    node_agrees n k ts (times c x) known =
        generated fuel (times c x) n k ts (rw (R.productions (times c x) tt known) refl) (λ below. rw (R.productions (times c x) tt known) refl)
    node_agrees n k ts lookahead known =
        generated fuel lookahead n k ts (rw (R.productions lookahead tt known) refl) (λ below. rw (R.productions lookahead tt known) refl)
    node_agrees n k ts lookbehind known =
        generated fuel lookbehind n k ts (rw (R.productions lookbehind tt known) refl) (λ below. rw (R.productions lookbehind tt known) refl)

    -- ---- trees

    leaf_by : (b : Bool) → (if b then [] else (NoShape, []) ∷ []) ≡ here_or_below (only_if b no_symbols) (λ gs. [])
    leaf_by true = refl
    leaf_by false = refl

    leaf_same : (a : Terminal) (g : ClosedSymbol) → shape_faults P fuel (leaf a) (symbol_of name g) ≡ misshapen M (leaf a) g
    leaf_same a (wrapped w g) = leaf_same a g
    leaf_same a (terminal b) = leaf_by (same_closed_terminal b a)
    leaf_same a error = leaf_by (same_closed_terminal error_terminal a)
    leaf_same a _ = refl

    mutual
      same_faults : (t : WrittenTree) (g : ClosedSymbol) → Known g → shape_faults P fuel t (symbol_of name g) ≡ misshapen M t g
      same_faults (leaf a) g k = leaf_same a g
      same_faults nothing g k = agreed (nothing_at P (symbol_of name g)) (children_of M nothing g) (λ _. []) (λ gs. []) (nothing_agrees g k) (λ gs known. refl)
      same_faults (list ts) g k =
          agreed (list_at P (symbol_of name g) ts) (children_of M (list ts) g) (λ ss. shapes_faults P fuel ts ss 0) (λ gs. all_misshapen M ts gs 0)
          (list_agrees ts g k) (λ gs known. all_same ts gs known 0)
      same_faults (node n j ts) g k =
          agreed (node_at P fuel (symbol_of name g) n j ts) (children_of M (node n j ts) g) (λ ss. shapes_faults P fuel ts ss 0) (λ gs. all_misshapen M ts gs 0)
          (node_agrees n j ts g k) (λ gs known. all_same ts gs known 0)

      all_same : (ts : WrittenTrees) (gs : ClosedSymbols) → AllKnown Known gs → (i : ℕ) → shapes_faults P fuel ts (symbols_of name gs) i ≡ all_misshapen M ts gs i
      all_same no_trees gs k i = refl
      all_same (tree_and t ts) no_symbols k i = refl
      all_same (tree_and t ts) (symbol_and g gs) k i = rw (same_faults t g k.0, all_same ts gs k.1 (i + 1)) refl

pub faults_written : FaultsAreWritten
faults_written M C V name P declared met R fuel rank falls deep g known t = same_faults M C V name P (IsKnown declared met) R fuel rank falls deep t g known
