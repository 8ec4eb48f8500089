-- The two steps in a row are the pairing itself.
use Rattle.std.proofs.Common.{◌≡◌, ℕ, List, refl, sym, ap, ap₂, ◌∙◌, subst}
use Rattle.std.specs.Prelude.{slice_get, Some}
use Rattle.std.proofs.lemmas.Option.{slice_get-map}
use Rattle.lalrpop_norm_theory.specs.Symbols.{Name, ClosedSymbol, ClosedSymbols, reference, call, group, star, plus, question, times, lookahead, lookbehind}
use Rattle.lalrpop_norm_theory.specs.Meaning.{Meaning, HasCounts, HasLevels}
use Rattle.lalrpop_norm_theory.specs.WrittenTrees.{WrittenTree, WrittenTrees, list, no_trees, tree_and, append}
use Rattle.lalrpop_norm_theory.specs.LoweredTrees.{LoweredTree, LoweredTrees, lowered_node, no_lowered, lowered_and, ProductionTable, Origin, IsDerivation}
use Rattle.lalrpop_norm_theory.specs.Clauses.{Clause, clauses, symbol_of, IsNonterminal}
use Rattle.lalrpop_norm_theory.specs.Pairs.{Pairs, AllPairs, terminal_pair, error_pair, wrapped_pair, lookahead_pair, lookbehind_pair, group_pair, rule_pair, step_pair, call_pair, star_empty_pair, star_some_pair, plus_one_pair, plus_more_pair, question_some_pair, question_empty_pair, times_pair, no_pairs, pair_and}
use Rattle.lalrpop_norm_theory.specs.Translations.{made_by, written_tree, written_each, lowered_tree}
use Rattle.lalrpop_norm_theory.specs.Met.{IsResolvedIn, IsResolved}
use Rattle.lalrpop_norm_theory.specs.Tables.{AllKnown, Realizes}
use Rattle.lalrpop_norm_theory.specs.Leveled.{leveled_symbol, IsLeveled, composed, recomposed_production, recomposed}
use Rattle.lalrpop_norm_theory.specs.Steps.{Steps, unleveled_tree, unleveled_each, leveled_tree}
use Rattle.lalrpop_norm_theory.specs.Laws.{level_named, PairsInTwoSteps, LevelsAreTwoSteps}
use Rattle.lalrpop_norm_theory.proofs.PairSides.{production_at, tree_of, derivation_of}
use Rattle.lalrpop_norm_theory.proofs.PairTranslations.{lowered_to}
use Rattle.lalrpop_norm_theory.proofs.PairTotal.{pairs_lowered, pairs_written}
use Rattle.lalrpop_norm_theory.proofs.LeveledTrees.{steps_leveled}
use Rattle.lalrpop_norm_theory.proofs.StepLemmas.{unleveled_to, level_tree, steps_one_to_one}
use Rattle.lalrpop_norm_theory.proofs.LeveledLemmas.{KnownLeveled, leveled_realizes, symbol_named, derivation_recomposed}
use Rattle.lalrpop_norm_theory.proofs.Trees.{one_to_one}

unleveled_append : (origin : Name → ℕ → Origin) (ts ss : WrittenTrees) →
    unleveled_each origin (append ts ss) ≡ append (unleveled_each origin ts) (unleveled_each origin ss)
unleveled_append origin no_trees ss = refl
unleveled_append origin (tree_and t ts) ss = ap (tree_and (unleveled_tree origin t)) (unleveled_append origin ts ss)

module _ (L : Meaning) (name : ClosedSymbol → Name) (P : ProductionTable) (origin : Name → ℕ → Origin) (Known : ClosedSymbol → Type 0)
    (R : Realizes L name P Known) where
  composed_node : (g : ClosedSymbol) → IsNonterminal g → Known g → (p : ℕ) (c : Clause) → slice_get (clauses L g) p ≡ Some c →
      (us : LoweredTrees) (ts : WrittenTrees) → written_each (recomposed origin P) us ≡ ts →
      written_tree (recomposed origin P) (lowered_node (name g) p us) ≡ made_by (composed origin c.origin) ts
  composed_node g n k p c h us ts e =
      rw (slice_get-map (recomposed_production origin) (P (name g)) p, production_at L name P Known R g n k p c h, e) refl

  mutual
    -- reading a lowered tree back by the composed origins is reading it back by its own, then by those of the levels
    pub written_composed : {g : ClosedSymbol} {t : WrittenTree} {u : LoweredTree} → Pairs L name g t u → Known g →
        written_tree (recomposed origin P) u ≡ unleveled_tree origin t
    written_composed (terminal_pair a) k = refl
    written_composed error_pair k = refl
    written_composed (wrapped_pair w g t u h) k = written_composed h (R.inner w g k)
    written_composed lookahead_pair k = composed_node lookahead tt k 0 _ refl no_lowered _ refl
    written_composed lookbehind_pair k = composed_node lookbehind tt k 0 _ refl no_lowered _ refl
    written_composed (group_pair gs ts us h) k =
        composed_node (group gs) tt k 0 _ refl us _ (written_composed_all h (R.parts_known (group gs) 0 _ k refl))
    written_composed (rule_pair n j p b parts ts us e i h) k =
        composed_node (reference n b) tt k p _ i us _ (written_composed_all h (R.parts_known (reference n b) p _ k i))
    written_composed (step_pair n p b c t u e i h) k =
        composed_node (reference n b) tt k p _ i (lowered_and u no_lowered) (tree_and (unleveled_tree origin t) no_trees)
        (ap (λ r. tree_and r no_trees) (written_composed h (R.parts_known (reference n b) p _ k i).0))
    written_composed (call_pair n j p args parts ts us e i h) k =
        composed_node (call n args) tt k p _ i us _ (written_composed_all h (R.parts_known (call n args) p _ k i))
    written_composed (star_empty_pair x) k = composed_node (star x) tt k 0 _ refl no_lowered _ refl
    written_composed (star_some_pair x ts u h) k =
        composed_node (star x) tt k 1 _ refl (lowered_and u no_lowered) (tree_and (list (unleveled_each origin ts)) no_trees)
        (ap (λ r. tree_and r no_trees) (written_composed h (R.parts_known (star x) 1 _ k refl).0))
    written_composed (plus_one_pair x t u h) k =
        composed_node (plus x) tt k 0 _ refl (lowered_and u no_lowered) (tree_and (unleveled_tree origin t) no_trees)
        (ap (λ r. tree_and r no_trees) (written_composed h (R.parts_known (plus x) 0 _ k refl).0))
    written_composed (plus_more_pair x ts t v w h i) k =
        composed_node (plus x) tt k 1 _ refl (lowered_and v (lowered_and w no_lowered))
        (tree_and (list (unleveled_each origin ts)) (tree_and (unleveled_tree origin t) no_trees))
        (ap₂ (λ r s. tree_and r (tree_and s no_trees))
        (written_composed h (R.parts_known (plus x) 1 _ k refl).0)
        (written_composed i (R.parts_known (plus x) 1 _ k refl).1.0))
        ∙ ap list (sym (unleveled_append origin ts (tree_and t no_trees)))
    written_composed (question_some_pair x t u h) k =
        composed_node (question x) tt k 0 _ refl (lowered_and u no_lowered) (tree_and (unleveled_tree origin t) no_trees)
        (ap (λ r. tree_and r no_trees) (written_composed h (R.parts_known (question x) 0 _ k refl).0))
    written_composed (question_empty_pair x) k = composed_node (question x) tt k 1 _ refl no_lowered _ refl
    written_composed (times_pair n x ts us h) k =
        composed_node (times n x) tt k 0 _ refl us _ (written_composed_all h (R.parts_known (times n x) 0 _ k refl))

    written_composed_all : {gs : ClosedSymbols} {ts : WrittenTrees} {us : LoweredTrees} → AllPairs L name gs ts us → AllKnown Known gs →
        written_each (recomposed origin P) us ≡ unleveled_each origin ts
    written_composed_all no_pairs k = refl
    written_composed_all (pair_and g gs t ts u us h hs) k = ap₂ tree_and (written_composed h k.0) (written_composed_all hs k.1)

module _ (M L : Meaning) (l : Name → ℕ → Name) (origin : Name → ℕ → Origin) (references : List ClosedSymbol)
    (D : IsResolved M references) (I : IsLeveled M L l origin references)
    (C : HasCounts M) (V : HasLevels M) (B : HasCounts L) (W : HasLevels L) (name : ClosedSymbol → Name) (P : ProductionTable)
    (Known : ClosedSymbol → Type 0) (R : Realizes L name P Known) (g : ClosedSymbol) (r : IsResolvedIn references g)
    (k : Known (leveled_symbol l g)) where
  abbrev Whole : ClosedSymbol → Type 0
  Whole = KnownLeveled M L l origin references I D V B W name P Known R

  -- the grammar realizes the written one, too
  whole_realizes : Realizes M (level_named l name) (recomposed origin P) Whole
  whole_realizes = leveled_realizes M L l origin references I D V B W name P Known R

  joined : (t m : WrittenTree) (u : LoweredTree) → Steps M L l g t m → Pairs L name (leveled_symbol l g) m u → Pairs M (level_named l name) g t u
  joined t m u steps pair =
      let same : written_tree (recomposed origin P) u ≡ t =
      written_composed L name P origin Known R pair k ∙ unleveled_to M L l origin references I D V B steps r in
      let d : IsDerivation (recomposed origin P) u (symbol_of (level_named l name) g) =
      subst (λ s. IsDerivation (recomposed origin P) u s) (sym (symbol_named l name g))
      (derivation_recomposed origin P u _ (derivation_of L name P Known R pair k)) in
      let whole : Pairs M (level_named l name) g (written_tree (recomposed origin P) u) u =
      pairs_written M (level_named l name) (recomposed origin P) Whole whole_realizes V u g d (r, k) in
      rw same at whole

  parted : (t : WrittenTree) (u : LoweredTree) → Pairs M (level_named l name) g t u →
      (m : WrittenTree) × Steps M L l g t m × Pairs L name (leveled_symbol l g) m u
  parted t u h =
      let steps : Steps M L l g t (leveled_tree M L l t g) = steps_leveled M L l origin references I C V t g (tree_of M (level_named l name) V h) in
      let pair = pairs_lowered L name B W (leveled_tree M L l t g) (leveled_symbol l g) (level_tree M L l origin references I D V B steps r) in
      let same : lowered_tree L name (leveled_tree M L l t g) (leveled_symbol l g) ≡ u =
      sym (lowered_to M (level_named l name) V (joined t _ _ steps pair)) ∙ lowered_to M (level_named l name) V h in
      (leveled_tree M L l t g, steps, subst (λ v. Pairs L name (leveled_symbol l g) (leveled_tree M L l t g) v) same pair)

  pub in_two_steps : PairsInTwoSteps M L l origin name P g
  in_two_steps = record {
    first = steps_one_to_one M L l origin references I D V B C g r;
    second = one_to_one L B W name P Known R (leveled_symbol l g) k;
    whole = one_to_one M C V (level_named l name) (recomposed origin P) Whole whole_realizes g (r, k);
    joined = joined;
    parted = parted;
  }

pub levels_two_steps : LevelsAreTwoSteps
levels_two_steps M L l origin references D I C V B W name P declared met R g r k =
    in_two_steps M L l origin references D I C V B W name P _ R g r k
