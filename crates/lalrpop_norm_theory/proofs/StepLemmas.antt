-- Written trees and the trees of the grammar with levels correspond one to one.
use Rattle.std.proofs.Common.{◌≡◌, inl, inr, List, ℕ, suc, ◌+◌, ◌∷◌, ◌++◌, append-nil, refl, sym, ap, ap₂, ◌∙◌, subst, arith}
use Rattle.std.specs.Prelude.{slice_get, Option, Some, None, option_map}
use Rattle.lalrpop_norm_theory.specs.Symbols.{Name, ClosedSymbol, ClosedSymbols, terminal, error, lookahead, lookbehind, reference, call, group, star, plus, question, times, wrapped, no_symbols, symbol_and, only}
use Rattle.lalrpop_norm_theory.specs.Meaning.{Meaning, HasLevels, HasCounts}
use Rattle.lalrpop_norm_theory.specs.WrittenTrees.{WrittenTree, WrittenTrees, leaf, nothing, list, node, no_trees, tree_and, IsNonempty, IsAtMostOne, tree_count, IsTreeOf, AreTreesOf, EachTreeOf, alternatives, alternatives_of}
use Rattle.lalrpop_norm_theory.specs.LoweredTrees.{Origin, written, level_step}
use Rattle.lalrpop_norm_theory.specs.Clauses.{Clause, clause, clauses, own_clauses, step_clauses}
use Rattle.lalrpop_norm_theory.specs.Translations.{first_tree, made_by, lowered_place}
use Rattle.lalrpop_norm_theory.specs.Rounds.{In}
use Rattle.lalrpop_norm_theory.specs.Met.{IsResolvedIn, AreResolvedIn, IsResolved}
use Rattle.lalrpop_norm_theory.specs.Leveled.{level_reference, leveled_symbol, leveled_symbols, IsLeveled}
use Rattle.lalrpop_norm_theory.specs.Steps.{Steps, AllSteps, EachSteps, terminal_kept, error_kept, wrapped_kept, lookahead_kept, lookbehind_kept, group_kept, star_kept, plus_kept, question_kept, times_kept, call_kept, at_level, below_level, all_done, all_and, each_done, each_and, unleveled_tree, unleveled_each, leveled_tree, written_alternatives, written_alternatives_of}
use Rattle.lalrpop_norm_theory.specs.Laws.{StepsAreOneToOne}
use Rattle.lalrpop_norm_theory.proofs.Numbered.{numbered_complete, split_at}
use Rattle.lalrpop_norm_theory.proofs.PairTotal.{numbered_clause_at, step_clause_at}
use Rattle.lalrpop_norm_theory.proofs.CallLemmas.{called_at, call_origin, call_back}
use Rattle.lalrpop_norm_theory.proofs.LeveledTrees.{bounded_tree, steps_leveled, leveled_to, steps_yield}

same_nonempty : (M L : Meaning) (l : Name → ℕ → Name) {x : ClosedSymbol} {ts ms : WrittenTrees} → EachSteps M L l x ts ms → IsNonempty ts → IsNonempty ms
same_nonempty M L l (each_done x) n = n
same_nonempty M L l (each_and x t ts m ms h hs) n = tt

same_most : (M L : Meaning) (l : Name → ℕ → Name) {x : ClosedSymbol} (ts ms : WrittenTrees) → EachSteps M L l x ts ms → IsAtMostOne ts → IsAtMostOne ms
same_most M L l no_trees no_trees h n = tt
same_most M L l (tree_and t no_trees) (tree_and m no_trees) h n = tt
same_most M L l (tree_and t (tree_and s ts)) ms h n = absurd n
same_most M L l (tree_and t no_trees) (tree_and m (tree_and o ms)) (each_and _ _ _ _ _ h i) n = elim i [ ]
same_most M L l no_trees (tree_and m ms) h n = elim h [ ]
same_most M L l (tree_and t no_trees) no_trees h n = elim h [ ]

same_count : (M L : Meaning) (l : Name → ℕ → Name) {x : ClosedSymbol} {ts ms : WrittenTrees} → EachSteps M L l x ts ms → tree_count ts ≡ tree_count ms
same_count M L l (each_done x) = refl
same_count M L l (each_and x t ts m ms h hs) = ap suc (same_count M L l hs)

un_nonempty : (origin : Name → ℕ → Origin) (ms : WrittenTrees) → IsNonempty ms → IsNonempty (unleveled_each origin ms)
un_nonempty origin no_trees n = n
un_nonempty origin (tree_and m ms) n = tt

un_most : (origin : Name → ℕ → Origin) (ms : WrittenTrees) → IsAtMostOne ms → IsAtMostOne (unleveled_each origin ms)
un_most origin no_trees n = tt
un_most origin (tree_and m no_trees) n = tt
un_most origin (tree_and m (tree_and o ms)) n = absurd n

un_count : (origin : Name → ℕ → Origin) (ms : WrittenTrees) → tree_count (unleveled_each origin ms) ≡ tree_count ms
un_count origin no_trees = refl
un_count origin (tree_and m ms) = ap suc (un_count origin ms)

some_clause : (l : Name → ℕ → Name) (o : Option Clause) (parts : ClosedSymbols) → option_map (λ (c : Clause). leveled_symbols l c.parts) o ≡ Some parts →
    (c : Clause) × (o ≡ Some c) × (parts ≡ leveled_symbols l c.parts)
some_clause l None parts h = absurd (grind arith)
some_clause l (Some c) parts h = (c, refl, (let same : leveled_symbols l c.parts ≡ parts = cc h in sym same))

first_step : (M L : Meaning) (l : Name → ℕ → Name) (g : ClosedSymbol) (gs : ClosedSymbols) (t m : WrittenTree) (ts ms : WrittenTrees) →
    AllSteps M L l (symbol_and g gs) (tree_and t ts) (tree_and m ms) → Steps M L l g t m
first_step M L l g gs t m ts ms (all_and _ _ _ _ _ _ h hs) = h

module _ (M L : Meaning) (l : Name → ℕ → Name) (origin : Name → ℕ → Origin) (declared : List ClosedSymbol)
    (I : IsLeveled M L l origin declared) (D : IsResolved M declared) (V : HasLevels M) (B : HasCounts L) where
  mutual
    -- the second tree is one of the symbol in the grammar with levels
    pub level_tree : {g : ClosedSymbol} {t m : WrittenTree} → Steps M L l g t m → IsResolvedIn declared g → IsTreeOf L m (leveled_symbol l g)
    level_tree (terminal_kept a) r = refl
    level_tree error_kept r = refl
    level_tree (wrapped_kept w g t m h) r = level_tree h r
    level_tree lookahead_kept r = tt
    level_tree lookbehind_kept r = tt
    level_tree (group_kept gs ts ms h) r = level_trees h r
    level_tree (star_kept x ts ms h) r = level_each h r
    level_tree (plus_kept x ts ms n h) r = (same_nonempty M L l h n, level_each h r)
    level_tree (question_kept x ts ms n h) r = (same_most M L l ts ms h n, level_each h r)
    level_tree (times_kept n x ts ms e h) r = (sym (same_count M L l h) ∙ e, level_each h r)
    level_tree (call_kept n k j p args parts ts ms e at there h) r = (
      refl,
      leveled_symbols l parts,
      called_at n (L.call_parts n (leveled_symbols l args)) (L.call_count n) p j (leveled_symbols l parts) there,
      level_trees h (D.macros n args k parts r e),
    )
    level_tree (at_level n k p b parts ts ms e i h) r =
        (refl, leveled_symbols l parts, rw (I.rules n b p r, i) refl, level_trees h (D.rules n b k parts r (V.own n b k parts e)))
    level_tree (below_level n p b c t m e i h) r =
        (refl, only (reference (level_reference l n c) None), rw (I.rules n b p r, i) refl, (level_tree h (D.levels n b c r e), tt))

    level_trees : {gs : ClosedSymbols} {ts ms : WrittenTrees} → AllSteps M L l gs ts ms → AreResolvedIn declared gs →
        AreTreesOf L ms (leveled_symbols l gs)
    level_trees all_done r = tt
    level_trees (all_and g gs t ts m ms h hs) r = (level_tree h r.0, level_trees hs r.1)

    level_each : {x : ClosedSymbol} {ts ms : WrittenTrees} → EachSteps M L l x ts ms → IsResolvedIn declared x →
        EachTreeOf L ms (leveled_symbol l x)
    level_each (each_done x) r = tt
    level_each (each_and x t ts m ms h hs) r = (level_tree h r, level_each hs r)

  mutual
    -- the origins give back the first tree
    pub unleveled_to : {g : ClosedSymbol} {t m : WrittenTree} → Steps M L l g t m → IsResolvedIn declared g → unleveled_tree origin m ≡ t
    unleveled_to (terminal_kept a) r = refl
    unleveled_to error_kept r = refl
    unleveled_to (wrapped_kept w g t m h) r = unleveled_to h r
    unleveled_to lookahead_kept r = refl
    unleveled_to lookbehind_kept r = refl
    unleveled_to (group_kept gs ts ms h) r = ap list (unleveled_to_all h r)
    unleveled_to (star_kept x ts ms h) r = ap list (unleveled_to_each h r)
    unleveled_to (plus_kept x ts ms n h) r = ap list (unleveled_to_each h r)
    unleveled_to (question_kept x ts ms n h) r = ap list (unleveled_to_each h r)
    unleveled_to (times_kept n x ts ms e h) r = ap list (unleveled_to_each h r)
    unleveled_to (call_kept n k j p args parts ts ms e at there h) r =
        rw (call_origin M L l origin declared I n args p k j parts at there) (ap (node n k) (unleveled_to_all h (D.macros n args k parts r e)))
    unleveled_to (at_level n k p b parts ts ms e i h) r =
        rw (I.rule_origins n b p _ r i) (ap (node n k) (unleveled_to_all h (D.rules n b k parts r (V.own n b k parts e))))
    unleveled_to (below_level n p b c t m e i h) r = rw (I.rule_origins n b p _ r i) (unleveled_to h (D.levels n b c r e))

    unleveled_to_all : {gs : ClosedSymbols} {ts ms : WrittenTrees} → AllSteps M L l gs ts ms → AreResolvedIn declared gs →
        unleveled_each origin ms ≡ ts
    unleveled_to_all all_done r = refl
    unleveled_to_all (all_and g gs t ts m ms h hs) r = ap₂ tree_and (unleveled_to h r.0) (unleveled_to_all hs r.1)

    unleveled_to_each : {x : ClosedSymbol} {ts ms : WrittenTrees} → EachSteps M L l x ts ms → IsResolvedIn declared x →
        unleveled_each origin ms ≡ ts
    unleveled_to_each (each_done x) r = refl
    unleveled_to_each (each_and x t ts m ms h hs) r = ap₂ tree_and (unleveled_to h r) (unleveled_to_each hs r)

  mutual
    -- both have the same written alternatives
    pub steps_alternatives : {g : ClosedSymbol} {t m : WrittenTree} → Steps M L l g t m → IsResolvedIn declared g →
        alternatives t ≡ written_alternatives origin m
    steps_alternatives (terminal_kept a) r = refl
    steps_alternatives error_kept r = refl
    steps_alternatives (wrapped_kept w g t m h) r = steps_alternatives h r
    steps_alternatives lookahead_kept r = refl
    steps_alternatives lookbehind_kept r = refl
    steps_alternatives (group_kept gs ts ms h) r = steps_alternatives_all h r
    steps_alternatives (star_kept x ts ms h) r = steps_alternatives_each h r
    steps_alternatives (plus_kept x ts ms n h) r = steps_alternatives_each h r
    steps_alternatives (question_kept x ts ms n h) r = steps_alternatives_each h r
    steps_alternatives (times_kept n x ts ms e h) r = steps_alternatives_each h r
    steps_alternatives (call_kept n k j p args parts ts ms e at there h) r =
        rw (call_origin M L l origin declared I n args p k j parts at there) (ap (λ z. (n, k) ∷ z) (steps_alternatives_all h (D.macros n args k parts r e)))
    steps_alternatives (at_level n k p b parts ts ms e i h) r =
        rw (I.rule_origins n b p _ r i)
        (ap (λ z. (n, k) ∷ z) (steps_alternatives_all h (D.rules n b k parts r (V.own n b k parts e))))
    steps_alternatives (below_level n p b c t m e i h) r =
        rw (I.rule_origins n b p _ r i)
        (steps_alternatives h (D.levels n b c r e) ∙ sym (append-nil (written_alternatives origin m)))

    steps_alternatives_all : {gs : ClosedSymbols} {ts ms : WrittenTrees} → AllSteps M L l gs ts ms → AreResolvedIn declared gs →
        alternatives_of ts ≡ written_alternatives_of origin ms
    steps_alternatives_all all_done r = refl
    steps_alternatives_all (all_and g gs t ts m ms h hs) r = ap₂ ◌++◌ (steps_alternatives h r.0) (steps_alternatives_all hs r.1)

    steps_alternatives_each : {x : ClosedSymbol} {ts ms : WrittenTrees} → EachSteps M L l x ts ms → IsResolvedIn declared x →
        alternatives_of ts ≡ written_alternatives_of origin ms
    steps_alternatives_each (each_done x) r = refl
    steps_alternatives_each (each_and x t ts m ms h hs) r = ap₂ ◌++◌ (steps_alternatives h r) (steps_alternatives_each hs r)

  -- the children of a node of the grammar with levels
  abbrev Below : WrittenTrees → Type 0
  Below ms = (gs : ClosedSymbols) → AreTreesOf L ms (leveled_symbols l gs) → AreResolvedIn declared gs →
      AllSteps M L l gs (unleveled_each origin ms) ms

  step_unleveled : (ms : WrittenTrees) → Below ms → (n : Name) (p : ℕ) (b c : Option ℕ) → In (reference n b) declared →
      M.previous n b ≡ Some c → slice_get (clauses M (reference n b)) p ≡ Some (clause level_step (only (reference n c))) →
      AreTreesOf L ms (leveled_symbols l (only (reference n c))) →
      Steps M L l (reference n b) (first_tree (unleveled_each origin ms)) (node (level_reference l n b) p ms)
  step_unleveled no_trees a n p b c r e at h = absurd h
  step_unleveled (tree_and m no_trees) a n p b c r e at h =
      below_level n p b c (unleveled_tree origin m) m e at
      (first_step M L l _ _ _ _ _ _ (a (only (reference n c)) h (D.levels n b c r e, tt)))
  step_unleveled (tree_and m (tree_and o ms)) a n p b c r e at h = absurd h.1

  clause_unleveled : (ms : WrittenTrees) → Below ms → (n : Name) (p : ℕ) (b : Option ℕ) (c : Clause) → In (reference n b) declared →
      slice_get (clauses M (reference n b)) p ≡ Some c → AreTreesOf L ms (leveled_symbols l c.parts) →
      Steps M L l (reference n b) (made_by c.origin (unleveled_each origin ms)) (node (level_reference l n b) p ms)
  clause_unleveled ms a n p b c r e h = elim (split_at (own_clauses M n b) (step_clauses n (M.previous n b)) p c e) [
    | inl i ↦
        (let (k, parts, has, same) = numbered_clause_at n (M.own_parts n b) (M.reference_count n) p c i in
        let e' = rw same at e in
        let h' = rw same at h in
        rw same (at_level n k p b parts _ ms has e' (a parts h' (D.rules n b k parts r (V.own n b k parts has)))))
    | inr s ↦
        (let (q, before, here) = s in
        let (d, prev, same) = step_clause_at n (M.previous n b) q c here in
        let e' = rw same at e in
        let h' = rw same at h in
        rw same (step_unleveled ms a n p b d r prev e' h'))
  ]

  mutual
    -- a tree of the grammar with levels is that of the written tree that its origins give
    pub steps_unleveled : (m : WrittenTree) (g : ClosedSymbol) → IsTreeOf L m (leveled_symbol l g) → IsResolvedIn declared g →
        Steps M L l g (unleveled_tree origin m) m
    steps_unleveled m (wrapped w g) h r = wrapped_kept w g _ m (steps_unleveled m g h r)
    steps_unleveled (leaf a) (terminal b) h r = subst (λ c. Steps M L l (terminal c) (leaf a) (leaf a)) h (terminal_kept a)
    steps_unleveled (leaf a) error h r = subst (λ c. Steps M L l error (leaf c) (leaf c)) (sym h) error_kept
    steps_unleveled nothing lookahead h r = lookahead_kept
    steps_unleveled nothing lookbehind h r = lookbehind_kept
    steps_unleveled (list ms) (group gs) h r = group_kept gs _ ms (steps_unleveled_all ms gs h r)
    steps_unleveled (list ms) (star x) h r = star_kept x _ ms (steps_unleveled_each ms x h r)
    steps_unleveled (list ms) (plus x) h r = plus_kept x _ ms (un_nonempty origin ms h.0) (steps_unleveled_each ms x h.1 r)
    steps_unleveled (list ms) (question x) h r = question_kept x _ ms (un_most origin ms h.0) (steps_unleveled_each ms x h.1 r)
    steps_unleveled (list ms) (times n x) h r = times_kept n x _ ms (un_count origin ms ∙ h.0) (steps_unleveled_each ms x h.1 r)
    steps_unleveled (node n p ms) (reference m b) (same, parts, e, h) r =
        let (c, at, is) = some_clause l (slice_get (clauses M (reference m b)) p) parts (rw (I.rules m b p r) at e) in
        let h' = rw is at h in
        rw (same, I.rule_origins m b p c r at) (clause_unleveled ms (λ gs i s. steps_unleveled_all ms gs i s) m p b c r at h')
    steps_unleveled (node n p ms) (call m args) (same, parts, e, h) r =
        let q : ℕ = lowered_place (L.call_parts m (leveled_symbols l args)) 0 p in
        let z : 0 + p ≡ p = omega arith in
        let found = numbered_complete m (L.call_parts m (leveled_symbols l args)) 0 (L.call_count m) p parts (rw z e)
        (B.of_calls m (leveled_symbols l args) p parts e) in
        let there : slice_get (clauses L (call m (leveled_symbols l args))) q ≡ Some (clause (written m p) parts) = rw z at found in
        let (k, mine, has, at, is, from) = call_back M L l origin declared I m args q p parts there in
        let h' : AreTreesOf L ms (leveled_symbols l mine) = subst (λ gs. AreTreesOf L ms gs) is h in
        rw (same, from)
        (call_kept m k p q args mine _ ms has at (there ∙ ap Some (ap (λ gs. clause (written m p) gs) is))
        (steps_unleveled_all ms mine h' (D.macros m args k mine r has)))
    steps_unleveled _ _ h r = absurd h

    steps_unleveled_all : (ms : WrittenTrees) (gs : ClosedSymbols) → AreTreesOf L ms (leveled_symbols l gs) → AreResolvedIn declared gs →
        AllSteps M L l gs (unleveled_each origin ms) ms
    steps_unleveled_all no_trees no_symbols h r = all_done
    steps_unleveled_all no_trees (symbol_and g gs) h r = absurd h
    steps_unleveled_all (tree_and m ms) no_symbols h r = absurd h
    steps_unleveled_all (tree_and m ms) (symbol_and g gs) h r =
        all_and g gs _ _ m ms (steps_unleveled m g h.0 r.0) (steps_unleveled_all ms gs h.1 r.1)

    steps_unleveled_each : (ms : WrittenTrees) (x : ClosedSymbol) → EachTreeOf L ms (leveled_symbol l x) → IsResolvedIn declared x →
        EachSteps M L l x (unleveled_each origin ms) ms
    steps_unleveled_each no_trees x h r = each_done x
    steps_unleveled_each (tree_and m ms) x h r = each_and x _ _ m ms (steps_unleveled m x h.0 r) (steps_unleveled_each ms x h.1 r)

  -- the written trees of a symbol and the trees of the grammar with levels, one to one
  pub steps_one_to_one : HasCounts M → (g : ClosedSymbol) → IsResolvedIn declared g → StepsAreOneToOne M L l origin g
  steps_one_to_one C g r = record {
    down = λ t h.
        let steps = steps_leveled M L l origin declared I C V t g h in
        (leveled_tree M L l t g, (level_tree steps r, steps), λ m f. sym (leveled_to M L l V f.1));
    up = λ m h.
        let steps = steps_unleveled m g h r in
        (unleveled_tree origin m, (bounded_tree M L l V steps, steps), λ t f. sym (unleveled_to f.1 r));
    same_yields = λ t m h. steps_yield M L l h;
    same_alternatives = λ t m h. steps_alternatives h r;
  }
