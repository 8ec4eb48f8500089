-- A written tree of a known symbol has no fault.
use Rattle.std.proofs.Common.{◌≡◌, inl, inr, ℕ, zero, suc, ◌+◌, ◌<◌, ◌≤◌, ◌≢◌, Bool, true, false, List, [], ◌∷◌, ◌++◌, map, refl, sym, ap, ◌∙◌, arith, nat_eq}
use Rattle.std.specs.Prelude.{Option, Some, None}
use Rattle.std.proofs.lemmas.Bool.{eqb-true, eq-eqb}
use Rattle.std.proofs.lemmas.List.{append-nil}
use Rattle.lalrpop_norm_theory.specs.Symbols.{Name, ClosedSymbol, ClosedSymbols, terminal, error, reference, call, group, star, plus, question, times, wrapped, lookahead, lookbehind, no_symbols, symbol_and, only, replicated}
use Rattle.lalrpop_norm_theory.specs.Same.{same_closed_terminal}
use Rattle.lalrpop_norm_theory.specs.Meaning.{Meaning, HasCounts, HasLevels}
use Rattle.lalrpop_norm_theory.specs.LoweredTrees.{ProductionTable, LoweredSymbol, level_step}
use Rattle.lalrpop_norm_theory.specs.WrittenTrees.{WrittenTree, WrittenTrees, leaf, nothing, list, node, no_trees, tree_and, IsTreeOf, AreTreesOf, EachTreeOf}
use Rattle.lalrpop_norm_theory.specs.Clauses.{Clause, clause, clause_and, numbered, own_clauses, step_clauses, symbol_of, symbols_of, clause_production}
use Rattle.lalrpop_norm_theory.specs.Met.{IsKnown}
use Rattle.lalrpop_norm_theory.specs.Tables.{AllKnown, Realizes}
use Rattle.lalrpop_norm_theory.specs.Translations.{lowered_place}
use Rattle.lalrpop_norm_theory.proofs.ReplicatedLemmas.{one_for_each as trees_of_one}
use Rattle.lalrpop_norm_theory.proofs.Numbered.{alternative_clause, numbered_complete, left_at}
use Rattle.lalrpop_norm_theory.proofs.PairTotal.{step_place}
use Rattle.lalrpop_norm_theory.proofs.SameLemmas.{text_same}
use Rattle.lalrpop_norm_explain.specs.TreeFaults.{Found}
use Rattle.lalrpop_norm_explain.specs.Plans.{TreePlan, plan, flat, own_plan, step, node_plan, is_one_for_each, each, fitting}
use Rattle.lalrpop_norm_explain.specs.TreeLowering.{shape_faults, shapes_faults, plan_faults}
use Rattle.lalrpop_norm_explain.specs.Laws.{TreesHaveNoFault, IsRank}
use Rattle.lalrpop_norm_explain.proofs.Derivations.{leaf_found}

module _ (name : ClosedSymbol → Name) (N n : Name) (f : ℕ → Option ClosedSymbols) (K : ℕ) where
  differs : (k : ℕ) → nat_eq k K ≡ false → k ≢ K
  differs k e h = let same : nat_eq k K ≡ true = eq-eqb k K h in cc

  -- the alternative with the number K, if it has parts, is found among the clauses
  own_found : (parts : ClosedSymbols) (rest : List Clause) → f K ≡ Some parts → (i k left : ℕ) → k ≤ K → K < k + left →
      (p : ℕ) × (own_plan N n K i (map (clause_production name) (numbered n f k left ++ rest)) ≡ Some (plan N (flat p) (symbols_of name parts)))
  own_found parts rest h i k zero low high = absurd (omega arith)
  own_found parts rest h i k (suc left) low high = go (f k) refl (nat_eq k K) refl (λ j l. own_found parts rest h j (suc k) left l (omega arith))
    where
      go : (o : Option ClosedSymbols) → f k ≡ o → (b : Bool) → nat_eq k K ≡ b →
          ((j : ℕ) → suc k ≤ K → (p : ℕ) × (own_plan N n K j (map (clause_production name) (numbered n f (suc k) left ++ rest)) ≡ Some (plan N (flat p) (symbols_of name parts)))) →
          (p : ℕ) × (own_plan N n K i (map (clause_production name) (clause_and n k o (numbered n f (suc k) left) ++ rest)) ≡ Some (plan N (flat p) (symbols_of name parts)))
      go None e true w ih = let same : k ≡ K = eqb-true k K w in let bad : None ≡ Some parts = sym e ∙ ap f same ∙ h in absurd (cc bad)
      go None e false w ih = let ne : k ≢ K = differs k w in ih i (omega arith)
      go (Some own_parts) e true w ih =
          let same : k ≡ K = eqb-true k K w in
          let both : Some own_parts ≡ Some parts = sym e ∙ ap f same ∙ h in
          let are : own_parts ≡ parts = cc in
          (i, rw (text_same n, w, are) refl)
      go (Some own_parts) e false w ih =
          let ne : k ≢ K = differs k w in
          let r = ih (suc i) (omega arith) in
          (r.0, rw (text_same n, w) r.1)

  -- and without parts it is not found
  pub own_absent : (rest : List Clause) → f K ≡ None → ((j : ℕ) → own_plan N n K j (map (clause_production name) rest) ≡ None) → (i k left : ℕ) →
      own_plan N n K i (map (clause_production name) (numbered n f k left ++ rest)) ≡ None
  own_absent rest h r i k zero = r i
  own_absent rest h r i k (suc left) = go (f k) refl (nat_eq k K) refl (λ j. own_absent rest h r j (suc k) left)
    where
      go : (o : Option ClosedSymbols) → f k ≡ o → (b : Bool) → nat_eq k K ≡ b →
          ((j : ℕ) → own_plan N n K j (map (clause_production name) (numbered n f (suc k) left ++ rest)) ≡ None) →
          own_plan N n K i (map (clause_production name) (clause_and n k o (numbered n f (suc k) left) ++ rest)) ≡ None
      go None e b w ih = ih i
      go (Some parts) e true w ih =
          let same : k ≡ K = eqb-true k K w in
          let bad : Some parts ≡ None = sym e ∙ ap f same ∙ h in absurd (cc bad)
      go (Some parts) e false w ih = rw (text_same n, w) (ih (suc i))

  -- own alternatives are no steps
  pub step_behind : (below : Name → Option TreePlan) (rest : List Clause) (i k left : ℕ) →
      (j : ℕ) × (step N below i (map (clause_production name) (numbered n f k left ++ rest)) ≡ step N below j (map (clause_production name) rest))
  step_behind below rest i k zero = (i, refl)
  step_behind below rest i k (suc left) = go (f k) (λ j. step_behind below rest j (suc k) left)
    where
      go : (o : Option ClosedSymbols) →
          ((j : ℕ) → (l : ℕ) × (step N below j (map (clause_production name) (numbered n f (suc k) left ++ rest)) ≡ step N below l (map (clause_production name) rest))) →
          (l : ℕ) × (step N below i (map (clause_production name) (clause_and n k o (numbered n f (suc k) left) ++ rest)) ≡ step N below l (map (clause_production name) rest))
      go None ih = ih i
      go (Some parts) ih = ih (suc i)

pub one_for_each : (x : LoweredSymbol) (ts : WrittenTrees) → is_one_for_each ts (each x ts) ≡ true
one_for_each x no_trees = refl
one_for_each x (tree_and t ts) = one_for_each x ts

one_for_all : (M : Meaning) (name : ClosedSymbol → Name) (ts : WrittenTrees) (gs : ClosedSymbols) → AreTreesOf M ts gs → is_one_for_each ts (symbols_of name gs) ≡ true
one_for_all M name no_trees no_symbols h = refl
one_for_all M name (tree_and t ts) (symbol_and g gs) h = one_for_all M name ts gs h.1
one_for_all M name _ _ h = absurd h

pub no_own_step : (name : ClosedSymbol → Name) (N n m : Name) (K : ℕ) (o : Option (Option ℕ)) (j : ℕ) → own_plan N n K j (map (clause_production name) (step_clauses m o)) ≡ None
no_own_step name N n m K None j = refl
no_own_step name N n m K (Some b) j = refl

own_alone : (name : ClosedSymbol → Name) (N n : Name) (f : ℕ → Option ClosedSymbols) (K : ℕ) (parts : ClosedSymbols) → f K ≡ Some parts → (left : ℕ) → K < left →
    (p : ℕ) × (own_plan N n K 0 (map (clause_production name) (numbered n f 0 left)) ≡ Some (plan N (flat p) (symbols_of name parts)))
own_alone name N n f K parts h left l =
    let r = own_found name N n f K parts [] h 0 0 left (omega arith) (omega arith) in
    (r.0, (let e : numbered n f 0 left ++ [] ≡ numbered n f 0 left = append-nil (numbered n f 0 left) in rw e at r.1))

found_plan : (P : ProductionTable) (fuel : ℕ) (N n : Name) (K : ℕ) (q : TreePlan) → own_plan N n K 0 (P N) ≡ Some q → node_plan P fuel N n K ≡ Some q
found_plan P zero N n K q e = e
found_plan P (suc fuel) N n K q e = rw e refl

fitting_plan : (ts : WrittenTrees) (o : Option TreePlan) (q : TreePlan) (ss : List LoweredSymbol) (below : List LoweredSymbol → List Found) → o ≡ Some q → q.wanted ≡ ss →
    is_one_for_each ts ss ≡ true → below ss ≡ [] → plan_faults (fitting ts o) below ≡ []
fitting_plan ts o q ss below e w f h =
    let all : is_one_for_each ts q.wanted ≡ true = rw w f in
    let none : below q.wanted ≡ [] = rw w h in
    rw (e, all) none

module _ (M : Meaning) (C : HasCounts M) (V : HasLevels M) (name : ClosedSymbol → Name) (P : ProductionTable) (Known : ClosedSymbol → Type 0)
    (R : Realizes M name P Known) where
  own_planned : (m : Name) (k : ℕ) (parts : ClosedSymbols) (b : Option ℕ) → Known (reference m b) → M.own_parts m b k ≡ Some parts →
      (p : ℕ) × (own_plan (name (reference m b)) m k 0 (P (name (reference m b))) ≡ Some (plan (name (reference m b)) (flat p) (symbols_of name parts))) × AllKnown Known parts
  own_planned m k parts b known e =
      let z : 0 + k ≡ k = omega arith in
      let l : k < M.reference_count m = C.of_rules m b k parts e in
      let r = own_found name (name (reference m b)) m (M.own_parts m b) k parts (step_clauses m (M.previous m b)) e 0 0 (M.reference_count m) (omega arith) (omega arith) in
      let at = numbered_complete m (M.own_parts m b) 0 (M.reference_count m) k parts (rw z e) l in
      let there = left_at (own_clauses M m b) (step_clauses m (M.previous m b)) (lowered_place (M.own_parts m b) 0 k) (alternative_clause m k parts) (rw z at at) in
      (r.0, rw (R.productions (reference m b) tt known) r.1, R.parts_known (reference m b) (lowered_place (M.own_parts m b) 0 k) (alternative_clause m k parts) known there)

  stepped_down : (m : Name) (k : ℕ) (b c : Option ℕ) → Known (reference m b) → M.previous m b ≡ Some c → (below : Name → Option TreePlan) → (q : TreePlan) →
      below (name (reference m c)) ≡ Some q →
      (j : ℕ) × (step (name (reference m b)) below 0 (P (name (reference m b)))
      ≡ Some (record { steps = (name (reference m b), j) ∷ q.steps; name = q.name; shape = q.shape; wanted = q.wanted }))
  stepped_down m k b c known e below q found =
      let r = step_behind name (name (reference m b)) m (M.own_parts m b) k below (step_clauses m (M.previous m b)) 0 0 (M.reference_count m) in
      (r.0, rw (R.productions (reference m b) tt known) (r.1 ∙ (rw (e, found) refl)))

  module _ (rank : Name → Option ℕ → ℕ) (falls : IsRank M rank) where
    pub rule_planned : (m : Name) (k : ℕ) (parts : ClosedSymbols) (fuel : ℕ) (b : Option ℕ) → Known (reference m b) → rank m b ≤ fuel → M.reference_parts m b k ≡ Some parts →
        (q : TreePlan) × (node_plan P fuel (name (reference m b)) m k ≡ Some q) × (q.wanted ≡ symbols_of name parts) × AllKnown Known parts
    rule_planned m k parts zero b known deep h = elim (V.split m b k parts h) [
      | inl e ↦
          let r = own_planned m k parts b known e in
          (plan (name (reference m b)) (flat r.0) (symbols_of name parts), r.1, refl, r.2)
      | inr r ↦ absurd (let less : rank m r.0 < rank m b = falls m b r.0 r.2 in omega arith)
    ]
    rule_planned m k parts (suc fuel) b known deep h = elim (V.split m b k parts h) [
      | inl e ↦
          let r = own_planned m k parts b known e in
          (plan (name (reference m b)) (flat r.0) (symbols_of name parts), found_plan P (suc fuel) (name (reference m b)) m k _ r.1, refl, r.2)
      | inr r ↦
          let less : rank m r.0 < rank m b = falls m b r.0 r.2 in
          let inner = (R.parts_known (reference m b) _ (clause level_step (only (reference m r.0))) known (step_place M m b r.0 r.2)).0 in
          let i = rule_planned m k parts fuel r.0 inner (omega arith) r.3 in
          let none = own_absent name (name (reference m b)) m (M.own_parts m b) k (step_clauses m (M.previous m b)) r.1 (no_own_step name (name (reference m b)) m m k (M.previous m b)) 0 0 (M.reference_count m) in
          let s = stepped_down m k b r.0 known r.2 (λ c. node_plan P fuel c m k) i.0 i.1 in
          let nothing_own : own_plan (name (reference m b)) m k 0 (P (name (reference m b))) ≡ None = rw (R.productions (reference m b) tt known) none in
          (record { steps = (name (reference m b), s.0) ∷ i.0.steps; name = i.0.name; shape = i.0.shape; wanted = i.0.wanted }, rw (nothing_own, s.1) refl, i.2, i.3)
    ]

  pub call_planned : (m : Name) (args : ClosedSymbols) (k : ℕ) (parts : ClosedSymbols) (fuel : ℕ) → Known (call m args) → M.call_parts m args k ≡ Some parts →
      (q : TreePlan) × (node_plan P fuel (name (call m args)) m k ≡ Some q) × (q.wanted ≡ symbols_of name parts) × AllKnown Known parts
  call_planned m args k parts fuel known e =
      let z : 0 + k ≡ k = omega arith in
      let l : k < M.call_count m = C.of_calls m args k parts e in
      let r = own_alone name (name (call m args)) m (M.call_parts m args) k parts e (M.call_count m) l in
      let at = numbered_complete m (M.call_parts m args) 0 (M.call_count m) k parts (rw z e) l in (
        plan (name (call m args)) (flat r.0) (symbols_of name parts),
        found_plan P fuel (name (call m args)) m k _ (rw (R.productions (call m args) tt known) r.1),
        refl,
        R.parts_known (call m args) (lowered_place (M.call_parts m args) 0 k) (alternative_clause m k parts) known (rw z at at),
      )

  module _ (fuel : ℕ) (rank : Name → Option ℕ → ℕ) (falls : IsRank M rank) (deep : (n : Name) (b : Option ℕ) → Known (reference n b) → rank n b ≤ fuel) where
    mutual
      shape_ok : (t : WrittenTree) (g : ClosedSymbol) → Known g → IsTreeOf M t g → shape_faults P fuel t (symbol_of name g) ≡ []
      shape_ok t (wrapped w g) k h = shape_ok t g (R.inner w g k) h
      shape_ok (leaf a) (terminal b) k h =
          let same : same_closed_terminal b b ≡ true = leaf_found b in rw (h, same) refl
      shape_ok (leaf a) error k h = rw h refl
      shape_ok nothing lookahead k h = rw (R.productions lookahead tt k) refl
      shape_ok nothing lookbehind k h = rw (R.productions lookbehind tt k) refl
      shape_ok (list ts) (group gs) k h =
          rw (R.productions (group gs) tt k, one_for_all M name ts gs h) (shapes_ok ts gs (R.parts_known (group gs) 0 _ k refl) h 0)
      shape_ok (list no_trees) (star x) k h = rw (R.productions (star x) tt k) refl
      shape_ok (list (tree_and t ts)) (star x) k h =
          let kp = (R.parts_known (star x) 1 _ k refl).0 in
          rw (R.productions (star x) tt k, R.productions (plus x) tt kp, one_for_each (symbol_of name x) ts)
          (each_ok (tree_and t ts) x (R.parts_known (plus x) 0 _ kp refl).0 h 0)
      shape_ok (list no_trees) (plus x) k h = absurd h.0
      shape_ok (list (tree_and t ts)) (plus x) k h =
          rw (R.productions (plus x) tt k, one_for_each (symbol_of name x) ts) (each_ok (tree_and t ts) x (R.parts_known (plus x) 0 _ k refl).0 h.1 0)
      shape_ok (list no_trees) (question x) k h = rw (R.productions (question x) tt k) refl
      shape_ok (list (tree_and t no_trees)) (question x) k h =
          rw (R.productions (question x) tt k) (each_ok (tree_and t no_trees) x (R.parts_known (question x) 0 _ k refl).0 h.1 0)
      shape_ok (list (tree_and t (tree_and s ts))) (question x) k h = absurd h.0
      shape_ok (list ts) (times n x) k (count, hs) =
          let all : AreTreesOf M ts (replicated n x) = trees_of_one M x ts n count hs in
          rw (R.productions (times n x) tt k, one_for_all M name ts (replicated n x) all)
          (shapes_ok ts (replicated n x) (R.parts_known (times n x) 0 _ k refl) all 0)
      shape_ok (node n j ts) (reference m b) k (same, parts, e, hs) =
          let r = rule_planned rank falls m j parts fuel b k (deep m b k) e in
          rw same
          (fitting_plan ts (node_plan P fuel (name (reference m b)) m j) r.0 (symbols_of name parts) (λ ss. shapes_faults P fuel ts ss 0) r.1 r.2
          (one_for_all M name ts parts hs) (shapes_ok ts parts r.3 hs 0))
      shape_ok (node n j ts) (call m args) k (same, parts, e, hs) =
          let r = call_planned m args j parts fuel k e in
          rw same
          (fitting_plan ts (node_plan P fuel (name (call m args)) m j) r.0 (symbols_of name parts) (λ ss. shapes_faults P fuel ts ss 0) r.1 r.2
          (one_for_all M name ts parts hs) (shapes_ok ts parts r.3 hs 0))
      shape_ok _ _ k h = absurd h

      shapes_ok : (ts : WrittenTrees) (gs : ClosedSymbols) → AllKnown Known gs → AreTreesOf M ts gs → (i : ℕ) → shapes_faults P fuel ts (symbols_of name gs) i ≡ []
      shapes_ok no_trees no_symbols k h i = refl
      shapes_ok (tree_and t ts) (symbol_and g gs) k h i = rw (shape_ok t g k.0 h.0, shapes_ok ts gs k.1 h.1 (i + 1)) refl
      shapes_ok _ _ k h i = absurd h

      each_ok : (ts : WrittenTrees) (x : ClosedSymbol) → Known x → EachTreeOf M ts x → (i : ℕ) → shapes_faults P fuel ts (each (symbol_of name x) ts) i ≡ []
      each_ok no_trees x k h i = refl
      each_ok (tree_and t ts) x k h i = rw (shape_ok t x k h.0, each_ok ts x k h.1 (i + 1)) refl

pub no_fault : TreesHaveNoFault
no_fault M C V name P declared met R fuel rank falls deep g known t h = shape_ok M C V name P (IsKnown declared met) R fuel rank falls deep t g known h
