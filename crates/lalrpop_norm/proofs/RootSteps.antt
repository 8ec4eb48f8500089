-- A rule with levels taken by itself is its highest level: it has the same trees, and they go through the same steps.
use Rattle.std.proofs.Common.{◌≡◌, inl, inr, ℕ, ◌<◌, List, [], ◌∷◌, ◌++◌, map, length, Bool, true, false, Option, Some, None, refl, sym, ap, ap₂, ◌∙◌, subst, arith}
use Rattle.std.specs.Prelude.{slice_get, if◌then◌else◌}
use Rattle.std.proofs.Math.Path.{fun_ext}
use Rattle.lalrpop_norm_theory.specs.Symbols.{Name, ClosedSymbol, ClosedSymbols, reference, only}
use Rattle.lalrpop_norm_theory.specs.Meaning.{Meaning}
use Rattle.lalrpop_norm_theory.specs.WrittenTrees.{WrittenTree, leaf, nothing, list, node, no_trees, tree_and, IsTreeOf}
use Rattle.lalrpop_norm_theory.specs.LoweredTrees.{LoweredTree, lowered_node, no_lowered, lowered_and, LoweredSymbol, nonterminal_symbol, ProductionTable, IsDerivation, Origin, written, level_step}
use Rattle.lalrpop_norm_theory.specs.Clauses.{Clause, clause, clauses, numbered, step_clauses, symbol_of}
use Rattle.lalrpop_norm_theory.specs.Pairs.{Pairs, rule_pair, step_pair}
use Rattle.lalrpop_norm_theory.specs.Rounds.{In, IsDistinct}
use Rattle.lalrpop_norm_theory.specs.Leveled.{level_reference, leveled_symbol, recomposed}
use Rattle.lalrpop_norm_theory.specs.Steps.{Steps, at_level, below_level}
use Rattle.lalrpop_norm_theory.specs.Laws.{ExactlyOne, OneToOne, PairsInTwoSteps, level_named}
use Rattle.lalrpop_norm_model.specs.Levels.{highest_level, levels_of}
use Rattle.lalrpop_norm_model.specs.WrittenRules.{WrittenRule, rule_named}
use Rattle.lalrpop_norm_model.specs.Grammars.{ConditionValue, has_arguments, is_within, is_own_level, rule_parts, previous_bound, meaning, rule_references, references, rule_roots, roots}
use Rattle.lalrpop_norm_model.specs.Scoped.{IsScoped}
use Rattle.lalrpop_norm_model.specs.ClosedTexts.{named_level, level_names}
use Rattle.lalrpop_norm_model.proofs.LevelLemmas.{in_map, level_had, had_level, highest_is_greatest}
use Rattle.lalrpop_norm_model.proofs.ScopeLemmas.{in_flat}
use Rattle.lalrpop_norm_model.proofs.LevelRuleLemmas.{name_highest}
use Rattle.lalrpop_norm_model.proofs.GrammarLemmas.{of_flat, found_once}

exactly_moved : {A : Type 0} (P Q : A → Type 0) → ((x : A) → P x → Q x) → ((x : A) → Q x → P x) → ExactlyOne P → ExactlyOne Q
exactly_moved P Q to back (x, h, alone) = (x, to x h, (λ y q. alone y (back y q)))

-- ---- two bounds

module _ (M : Meaning) (l : Name → ℕ → Name) where
  -- two bounds say the same of a rule, under one name
  pub record AreAlike (n : Name) (b c : Option ℕ) : Type 0 where
    pub parts : (k : ℕ) → M.reference_parts n b k ≡ M.reference_parts n c k
    pub own : (k : ℕ) → M.own_parts n b k ≡ M.own_parts n c k
    pub previous : M.previous n b ≡ M.previous n c
    pub called : level_reference l n b ≡ level_reference l n c

  alike_back : (n : Name) (b c : Option ℕ) → AreAlike n b c → AreAlike n c b
  alike_back n b c A = record {
    parts = λ k. sym (A.parts k);
    own = λ k. sym (A.own k);
    previous = sym A.previous;
    called = sym A.called;
  }

  clauses_alike : (n : Name) (b c : Option ℕ) → AreAlike n b c → clauses M (reference n b) ≡ clauses M (reference n c)
  clauses_alike n b c A =
      ap₂ (λ (f : ℕ → Option ClosedSymbols) (o : Option (Option ℕ)). numbered n f 0 (M.reference_count n) ++ step_clauses n o)
      (fun_ext A.own) A.previous

  clause_moved : (n : Name) (b c : Option ℕ) → AreAlike n b c → (p : ℕ) (d : Clause) → slice_get (clauses M (reference n b)) p ≡ Some d →
      slice_get (clauses M (reference n c)) p ≡ Some d
  clause_moved n b c A p d at = ap (λ (cs : List Clause). slice_get cs p) (sym (clauses_alike n b c A)) ∙ at

  tree_moved : (n : Name) (b c : Option ℕ) → AreAlike n b c → (t : WrittenTree) → IsTreeOf M t (reference n b) → IsTreeOf M t (reference n c)
  tree_moved n b c A (leaf a) h = absurd h
  tree_moved n b c A nothing h = absurd h
  tree_moved n b c A (list ts) h = absurd h
  tree_moved n b c A (node m k ts) (same, parts, at, hs) = (same, parts, sym (A.parts k) ∙ at, hs)

  module _ (L : Meaning) where
    steps_moved : {n : Name} {b : Option ℕ} {t m : WrittenTree} → Steps M L l (reference n b) t m → (c : Option ℕ) → AreAlike n b c →
        Steps M L l (reference n c) t m
    steps_moved (at_level n k p b parts ts ms own at h) c A =
        subst (λ (x : Name). Steps M L l (reference n c) (node n k ts) (node x p ms)) (sym A.called)
        (at_level n k p c parts ts ms (sym (A.own k) ∙ own) (clause_moved n b c A p (clause (written n k) parts) at) h)
    steps_moved (below_level n p b d t m previous at h) c A =
        subst (λ (x : Name). Steps M L l (reference n c) t (node x p (tree_and m no_trees))) (sym A.called)
        (below_level n p c d t m (sym A.previous ∙ previous) (clause_moved n b c A p (clause level_step (only (reference n d))) at) h)

  module _ (name : ClosedSymbol → Name) where
    pairs_moved : {n : Name} {b : Option ℕ} {t : WrittenTree} {u : LoweredTree} → Pairs M (level_named l name) (reference n b) t u →
        (c : Option ℕ) → AreAlike n b c → Pairs M (level_named l name) (reference n c) t u
    pairs_moved (rule_pair n k p b parts ts us own at h) c A =
        subst (λ (x : Name). Pairs M (level_named l name) (reference n c) (node n k ts) (lowered_node (name (reference x None)) p us)) (sym A.called)
        (rule_pair n k p c parts ts us (sym (A.own k) ∙ own) (clause_moved n b c A p (clause (written n k) parts) at) h)
    pairs_moved (step_pair n p b d t u previous at h) c A =
        subst (λ (x : Name). Pairs M (level_named l name) (reference n c) t (lowered_node (name (reference x None)) p (lowered_and u no_lowered))) (sym A.called)
        (step_pair n p c d t u (sym A.previous ∙ previous) (clause_moved n b c A p (clause level_step (only (reference n d))) at) h)

  module _ (L : Meaning) (origin : Name → ℕ → Origin) (name : ClosedSymbol → Name) (P : ProductionTable) (n : Name) (b c : Option ℕ)
      (A : AreAlike n b c) (S : PairsInTwoSteps M L l origin name P (reference n c)) where
    abbrev back : AreAlike n c b
    back = alike_back n b c A

    abbrev whole_name : ClosedSymbol → Name
    whole_name = level_named l name

    same : leveled_symbol l (reference n b) ≡ leveled_symbol l (reference n c)
    same = ap (λ (x : Name). reference x None) A.called

    same_symbol : symbol_of whole_name (reference n b) ≡ symbol_of whole_name (reference n c)
    same_symbol = ap (λ (x : Name). nonterminal_symbol (name (reference x None))) A.called

    -- the steps of the one bound are those of the other
    pub steps_of_alike : PairsInTwoSteps M L l origin name P (reference n b)
    steps_of_alike = record {
      first = record {
        down = λ t h. exactly_moved
            (λ m. IsTreeOf L m (leveled_symbol l (reference n c)) × Steps M L l (reference n c) t m)
            (λ m. IsTreeOf L m (leveled_symbol l (reference n b)) × Steps M L l (reference n b) t m)
            (λ m q. (subst (λ (x : ClosedSymbol). IsTreeOf L m x) (sym same) q.0, steps_moved L q.1 b back))
            (λ m q. (subst (λ (x : ClosedSymbol). IsTreeOf L m x) same q.0, steps_moved L q.1 c A))
            (S.first.down t (tree_moved n b c A t h));
        up = λ m h. exactly_moved
            (λ t. IsTreeOf M t (reference n c) × Steps M L l (reference n c) t m)
            (λ t. IsTreeOf M t (reference n b) × Steps M L l (reference n b) t m)
            (λ t q. (tree_moved n c b back t q.0, steps_moved L q.1 b back))
            (λ t q. (tree_moved n b c A t q.0, steps_moved L q.1 c A))
            (S.first.up m (subst (λ (x : ClosedSymbol). IsTreeOf L m x) same h));
        same_yields = λ t m s. S.first.same_yields t m (steps_moved L s c A);
        same_alternatives = λ t m s. S.first.same_alternatives t m (steps_moved L s c A);
      };
      second = subst (λ (x : ClosedSymbol). OneToOne L name P x) (sym same) S.second;
      whole = record {
        down = λ t h. exactly_moved
            (λ u. IsDerivation (recomposed origin P) u (symbol_of whole_name (reference n c)) × Pairs M whole_name (reference n c) t u)
            (λ u. IsDerivation (recomposed origin P) u (symbol_of whole_name (reference n b)) × Pairs M whole_name (reference n b) t u)
            (λ u q. (subst (λ (x : LoweredSymbol). IsDerivation (recomposed origin P) u x) (sym same_symbol) q.0, pairs_moved name q.1 b back))
            (λ u q. (subst (λ (x : LoweredSymbol). IsDerivation (recomposed origin P) u x) same_symbol q.0, pairs_moved name q.1 c A))
            (S.whole.down t (tree_moved n b c A t h));
        up = λ u h. exactly_moved
            (λ t. IsTreeOf M t (reference n c) × Pairs M whole_name (reference n c) t u)
            (λ t. IsTreeOf M t (reference n b) × Pairs M whole_name (reference n b) t u)
            (λ t q. (tree_moved n c b back t q.0, pairs_moved name q.1 b back))
            (λ t q. (tree_moved n b c A t q.0, pairs_moved name q.1 c A))
            (S.whole.up u (subst (λ (x : LoweredSymbol). IsDerivation (recomposed origin P) u x) same_symbol h));
        same_yields = λ t u p. S.whole.same_yields t u (pairs_moved name p c A);
        same_alternatives = λ t u p. S.whole.same_alternatives t u (pairs_moved name p c A);
      };
      joined = λ t m u s p. pairs_moved name
          (S.joined t m u (steps_moved L s c A) (subst (λ (x : ClosedSymbol). Pairs L name x m u) same p)) b back;
      parted = λ t u p. (
          let (m, s, q) = S.parted t u (pairs_moved name p c A) in
          (m, steps_moved L s b back, subst (λ (x : ClosedSymbol). Pairs L name x m u) (sym same) q));
    }

-- ---- rules taken by themselves

module _ (ws : List WrittenRule) (S : IsScoped ws) (D : IsDistinct (map (λ (w : WrittenRule). w.name) ws)) (value : ConditionValue) where
  -- a declared reference of the rule says the same of it
  abbrev pub HasDeclared : ClosedSymbol → Type 0
  HasDeclared g =
      (n : Name) × (c : Option ℕ) × (g ≡ reference n None) × In (reference n c) (references ws)
      × AreAlike (meaning value ws) (level_names ws) n None c

  highest_alike : (w : WrittenRule) → In w ws → has_arguments w ≡ false → w.has_levels ≡ true → HasDeclared (reference w.name None)
  highest_alike w i plain e =
      let top = highest_level w.places in
      let found : rule_named ws w.name ≡ Some w = found_once ws w D i in
      let (m, j) = some (levels_of w.places) (S.some_level w i e) in
      let listed = had_level w.places top (highest_is_greatest w.places m (level_had w.places m j)).0 in (
        w.name,
        Some top,
        refl,
        in_flat rule_references w ws (reference w.name (Some top)) i
            (rw (plain, e) (in_map (λ l. reference w.name (Some l)) top (levels_of w.places) listed)),
        record {
          parts = λ k. ap (λ o. rule_parts ws (is_within None) k o) found ∙ sym (ap (λ o. rule_parts ws (is_within (Some top)) k o) found);
          own = λ k. ap (λ o. rule_parts ws (is_own_level None) k o) found ∙ sym (ap (λ o. rule_parts ws (is_own_level (Some top)) k o) found);
          previous = ap (λ o. previous_bound o None) found ∙ sym (ap (λ o. previous_bound o (Some top)) found);
          called = sym (ap (λ o. named_level o w.name top) found ∙ name_highest w.name top);
        },
      )
    where
      some : (ls : List ℕ) → 0 < length ls → (m : ℕ) × In m ls
      some [] h = absurd (omega arith)
      some (m ∷ ls) h = (m, inl refl)

  bare_alike : (w : WrittenRule) → In w ws → has_arguments w ≡ false → w.has_levels ≡ false → HasDeclared (reference w.name None)
  bare_alike w i plain e = (
    w.name,
    None,
    refl,
    in_flat rule_references w ws (reference w.name None) i (rw (plain, e) (inl refl)),
    record { parts = λ k. refl; own = λ k. refl; previous = refl; called = refl },
  )

  -- A rule taken by itself is what it is within its highest level, or without levels.
  pub root_alike : (g : ClosedSymbol) → In g (roots ws) → HasDeclared g
  root_alike g h =
      let (w, i, j) = of_flat rule_roots g ws h in by w i (has_arguments w) refl w.has_levels refl j
    where
      by : (w : WrittenRule) → In w ws → (x : Bool) → has_arguments w ≡ x → (y : Bool) → w.has_levels ≡ y →
          In g (if x then [] else reference w.name None ∷ []) → HasDeclared g
      by w i true m y e j = absurd j
      by w i false m true e (inl k) = subst HasDeclared (sym k) (highest_alike w i m e)
      by w i false m false e (inl k) = subst HasDeclared (sym k) (bare_alike w i m e)
      by w i false m y e (inr k) = absurd k
