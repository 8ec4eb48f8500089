-- Where a grammar only renumbers another, its trees are those of the other, renumbered.
use Rattle.std.proofs.Common.{◌≡◌, ℕ, suc, List, ◌∷◌, ◌++◌, map, Option, Some, refl, sym, ap, ap₂, ◌∙◌, subst}
use Rattle.std.proofs.lemmas.List.{map-append}
use Rattle.lalrpop_norm_theory.specs.Symbols.{Name, ClosedSymbol, ClosedSymbols, terminal, error, reference, call, group, star, plus, question, times, wrapped, lookahead, lookbehind, no_symbols, symbol_and}
use Rattle.lalrpop_norm_theory.specs.Meaning.{Meaning}
use Rattle.lalrpop_norm_theory.specs.LoweredTrees.{ProductionTable}
use Rattle.lalrpop_norm_theory.specs.Met.{IsResolvedIn}
use Rattle.lalrpop_norm_theory.specs.Pairs.{Pairs}
use Rattle.lalrpop_norm_theory.specs.Laws.{OneToOne, LevelsAreTwoSteps}
use Rattle.lalrpop_norm_theory.specs.WrittenTrees.{WrittenTree, WrittenTrees, leaf, nothing, list, node, no_trees, tree_and, IsNonempty, IsAtMostOne, tree_count, IsTreeOf, AreTreesOf, EachTreeOf, yield, yields, alternatives, alternatives_of}
use Rattle.lalrpop_norm_model.specs.WrittenRules.{written_rules, leveled_rules}
use Rattle.lalrpop_norm_model.specs.Grammars.{meaning}
use Rattle.lalrpop_norm_model.specs.Renumbered.{prepared_grammar, rank_by, AreRanked, IsRenumbered, renumbered, renumbered_trees, ranked, TreesAreRenumbered, OneToOneByRank}
use Rattle.lalrpop_norm_model.specs.Laws.{TreesOnlyRenumber, WrittenTreesAreLowered}
use Rattle.lalrpop_norm_model.proofs.RenumberedLemmas.{disabled_only_renumber}
use Rattle.lalrpop_norm_model.proofs.StepLemmas.{levels_steps}

module _ (rank : Name → ℕ → ℕ) where
  mutual
    same_yield : (t : WrittenTree) → yield (renumbered rank t) ≡ yield t
    same_yield (leaf a) = refl
    same_yield nothing = refl
    same_yield (list ts) = same_yields ts
    same_yield (node n k ts) = same_yields ts

    same_yields : (ts : WrittenTrees) → yields (renumbered_trees rank ts) ≡ yields ts
    same_yields no_trees = refl
    same_yields (tree_and t ts) = ap₂ ◌++◌ (same_yield t) (same_yields ts)

  mutual
    alternatives_ranked : (t : WrittenTree) → alternatives (renumbered rank t) ≡ map (ranked rank) (alternatives t)
    alternatives_ranked (leaf a) = refl
    alternatives_ranked nothing = refl
    alternatives_ranked (list ts) = all_ranked ts
    alternatives_ranked (node n k ts) = ap (λ xs. ranked rank (n, k) ∷ xs) (all_ranked ts)

    all_ranked : (ts : WrittenTrees) → alternatives_of (renumbered_trees rank ts) ≡ map (ranked rank) (alternatives_of ts)
    all_ranked no_trees = refl
    all_ranked (tree_and t ts) =
        ap₂ ◌++◌ (alternatives_ranked t) (all_ranked ts) ∙ sym (map-append (ranked rank) (alternatives t) (alternatives_of ts))

  some_left : (ts : WrittenTrees) → IsNonempty ts → IsNonempty (renumbered_trees rank ts)
  some_left no_trees h = h
  some_left (tree_and t ts) h = h

  one_left : (ts : WrittenTrees) → IsAtMostOne ts → IsAtMostOne (renumbered_trees rank ts)
  one_left no_trees h = h
  one_left (tree_and t no_trees) h = h
  one_left (tree_and t (tree_and s ts)) h = h

  count_left : (ts : WrittenTrees) → tree_count (renumbered_trees rank ts) ≡ tree_count ts
  count_left no_trees = refl
  count_left (tree_and t ts) = ap suc (count_left ts)

  some_before : (ts : WrittenTrees) → IsNonempty (renumbered_trees rank ts) → IsNonempty ts
  some_before no_trees h = h
  some_before (tree_and t ts) h = h

  one_before : (ts : WrittenTrees) → IsAtMostOne (renumbered_trees rank ts) → IsAtMostOne ts
  one_before no_trees h = h
  one_before (tree_and t no_trees) h = h
  one_before (tree_and t (tree_and s ts)) h = h

module _ (M N : Meaning) (rank : Name → ℕ → ℕ) (R : IsRenumbered M N rank) where
  mutual
    tree_down : (t : WrittenTree) (s : ClosedSymbol) → IsTreeOf M t s → IsTreeOf N (renumbered rank t) s
    tree_down t (wrapped w g) h = tree_down t g h
    tree_down (leaf a) (terminal b) h = h
    tree_down (leaf a) error h = h
    tree_down nothing lookahead h = tt
    tree_down nothing lookbehind h = tt
    tree_down (list ts) (group gs) h = trees_down ts gs h
    tree_down (list ts) (star x) h = each_down ts x h
    tree_down (list ts) (plus x) h = (some_left rank ts h.0, each_down ts x h.1)
    tree_down (list ts) (question x) h = (one_left rank ts h.0, each_down ts x h.1)
    tree_down (list ts) (times n x) h = (count_left rank ts ∙ h.0, each_down ts x h.1)
    tree_down (node n k ts) (reference m b) (same, parts, e, hs) =
        (same, parts, rw same ((R.rules m b).kept k parts e), trees_down ts parts hs)
    tree_down (node n k ts) (call m args) (same, parts, e, hs) =
        (same, parts, rw same ((R.macros m args).kept k parts e), trees_down ts parts hs)
    tree_down _ _ h = absurd h

    trees_down : (ts : WrittenTrees) (gs : ClosedSymbols) → AreTreesOf M ts gs → AreTreesOf N (renumbered_trees rank ts) gs
    trees_down no_trees no_symbols h = tt
    trees_down no_trees (symbol_and g gs) h = absurd h
    trees_down (tree_and t ts) no_symbols h = absurd h
    trees_down (tree_and t ts) (symbol_and g gs) h = (tree_down t g h.0, trees_down ts gs h.1)

    each_down : (ts : WrittenTrees) (x : ClosedSymbol) → EachTreeOf M ts x → EachTreeOf N (renumbered_trees rank ts) x
    each_down no_trees x h = tt
    each_down (tree_and t ts) x h = (tree_down t x h.0, each_down ts x h.1)

  -- the tree that is renumbered so
  abbrev Before : WrittenTree → ClosedSymbol → Type 0
  Before u s = (t : WrittenTree) × IsTreeOf M t s × (renumbered rank t ≡ u)

  abbrev AllBefore : WrittenTrees → ClosedSymbols → Type 0
  AllBefore us gs = (ts : WrittenTrees) × AreTreesOf M ts gs × (renumbered_trees rank ts ≡ us)

  abbrev EachBefore : WrittenTrees → ClosedSymbol → Type 0
  EachBefore us x = (ts : WrittenTrees) × EachTreeOf M ts x × (renumbered_trees rank ts ≡ us)

  mutual
    tree_up : (u : WrittenTree) (s : ClosedSymbol) → IsTreeOf N u s → Before u s
    tree_up u (wrapped w g) h = tree_up u g h
    tree_up (leaf a) (terminal b) h = (leaf a, h, refl)
    tree_up (leaf a) error h = (leaf a, h, refl)
    tree_up nothing lookahead h = (nothing, tt, refl)
    tree_up nothing lookbehind h = (nothing, tt, refl)
    tree_up (list us) (group gs) h = let (ts, i, e) = trees_up us gs h in (list ts, i, ap list e)
    tree_up (list us) (star x) h = let (ts, i, e) = each_up us x h in (list ts, i, ap list e)
    tree_up (list us) (plus x) h =
        let (ts, i, e) = each_up us x h.1 in
        (list ts, (some_before rank ts (subst IsNonempty (sym e) h.0), i), ap list e)
    tree_up (list us) (question x) h =
        let (ts, i, e) = each_up us x h.1 in
        (list ts, (one_before rank ts (subst IsAtMostOne (sym e) h.0), i), ap list e)
    tree_up (list us) (times n x) h =
        let (ts, i, e) = each_up us x h.1 in
        (list ts, (sym (count_left rank ts) ∙ ap tree_count e ∙ h.0, i), ap list e)
    tree_up (node n j us) (reference m b) (same, parts, e, hs) =
        let (k, q, unique) = (R.rules m b).reached j parts e in
        let (ts, i, f) = trees_up us parts hs in
        (node n k ts, (same, parts, q.1, i), ap₂ (node n) (ap (λ (x : Name). rank x k) same ∙ q.0) f)
    tree_up (node n j us) (call m args) (same, parts, e, hs) =
        let (k, q, unique) = (R.macros m args).reached j parts e in
        let (ts, i, f) = trees_up us parts hs in
        (node n k ts, (same, parts, q.1, i), ap₂ (node n) (ap (λ (x : Name). rank x k) same ∙ q.0) f)
    tree_up _ _ h = absurd h

    trees_up : (us : WrittenTrees) (gs : ClosedSymbols) → AreTreesOf N us gs → AllBefore us gs
    trees_up no_trees no_symbols h = (no_trees, tt, refl)
    trees_up no_trees (symbol_and g gs) h = absurd h
    trees_up (tree_and u us) no_symbols h = absurd h
    trees_up (tree_and u us) (symbol_and g gs) h =
        let (t, i, e) = tree_up u g h.0 in
        let (ts, j, f) = trees_up us gs h.1 in
        (tree_and t ts, (i, j), ap₂ tree_and e f)

    each_up : (us : WrittenTrees) (x : ClosedSymbol) → EachTreeOf N us x → EachBefore us x
    each_up no_trees x h = (no_trees, tt, refl)
    each_up (tree_and u us) x h =
        let (t, i, e) = tree_up u x h.0 in
        let (ts, j, f) = each_up us x h.1 in
        (tree_and t ts, (i, j), ap₂ tree_and e f)

  -- ---- one tree at most

  abbrev children_in : WrittenTree → WrittenTrees
  children_in (leaf a) = no_trees
  children_in nothing = no_trees
  children_in (list ts) = ts
  children_in (node n k ts) = ts

  abbrev number_in : WrittenTree → ℕ
  number_in (leaf a) = 0
  number_in nothing = 0
  number_in (list ts) = 0
  number_in (node n k ts) = k

  abbrev first_in : WrittenTrees → WrittenTree
  first_in no_trees = nothing
  first_in (tree_and t ts) = t

  abbrev rest_in : WrittenTrees → WrittenTrees
  rest_in no_trees = no_trees
  rest_in (tree_and t ts) = ts

  -- what has one rank is one alternative
  one_number : (before after : ℕ → Option ClosedSymbols) (ranks : ℕ → ℕ) → AreRanked before after ranks → (k l : ℕ) (p q : ClosedSymbols) →
      before k ≡ Some p → before l ≡ Some q → ranks k ≡ ranks l → (k ≡ l) × (p ≡ q)
  one_number before after ranks A k l p q h i e =
      let at_k : after (ranks k) ≡ Some p = A.kept k p h in
      let at_l : after (ranks l) ≡ Some q = A.kept l q i in
      let both : Some p ≡ Some q = sym at_k ∙ ap after e ∙ at_l in
      let parts : p ≡ q = cc both in
      let (m, is, unique) = A.reached (ranks k) p at_k in
      (unique k (refl, h) ∙ sym (unique l (sym e, i ∙ sym both)), parts)

  mutual
    one_tree : (t r : WrittenTree) (s : ClosedSymbol) → IsTreeOf M t s → IsTreeOf M r s → renumbered rank t ≡ renumbered rank r → t ≡ r
    one_tree t r (wrapped w g) h i e = one_tree t r g h i e
    one_tree (leaf a) (leaf b) _ h i e = e
    one_tree nothing nothing _ h i e = refl
    one_tree (list ts) (list rs) (group gs) h i e = ap list (all_one ts rs gs h i (ap (children_in) e))
    one_tree (list ts) (list rs) (star x) h i e = ap list (each_one ts rs x h i (ap (children_in) e))
    one_tree (list ts) (list rs) (plus x) h i e = ap list (each_one ts rs x h.1 i.1 (ap (children_in) e))
    one_tree (list ts) (list rs) (question x) h i e = ap list (each_one ts rs x h.1 i.1 (ap (children_in) e))
    one_tree (list ts) (list rs) (times n x) h i e = ap list (each_one ts rs x h.1 i.1 (ap (children_in) e))
    one_tree (node n k ts) (node m l rs) (reference p b) (same, parts, there, hs) (like, others, here, is) e =
        let ranks : rank p k ≡ rank p l = ap (λ (x : Name). rank x k) (sym same) ∙ ap number_in e ∙ ap (λ (x : Name). rank x l) like in
        let one = one_number (M.reference_parts p b) (N.reference_parts p b) (rank p) (R.rules p b) k l parts others there here ranks in
        let children = all_one ts rs parts hs (subst (AreTreesOf M rs) (sym one.1) is) (ap (children_in) e) in
        ap₂ (λ x y. node x y ts) (same ∙ sym like) one.0 ∙ ap (node m l) children
    one_tree (node n k ts) (node m l rs) (call p args) (same, parts, there, hs) (like, others, here, is) e =
        let ranks : rank p k ≡ rank p l = ap (λ (x : Name). rank x k) (sym same) ∙ ap number_in e ∙ ap (λ (x : Name). rank x l) like in
        let one = one_number (M.call_parts p args) (N.call_parts p args) (rank p) (R.macros p args) k l parts others there here ranks in
        let children = all_one ts rs parts hs (subst (AreTreesOf M rs) (sym one.1) is) (ap (children_in) e) in
        ap₂ (λ x y. node x y ts) (same ∙ sym like) one.0 ∙ ap (node m l) children
    one_tree (list ts) (list rs) _ h i e = absurd h
    one_tree (node n k ts) (node m l rs) _ h i e = absurd h
    one_tree _ _ _ h i e = absurd (cc e)

    all_one : (ts rs : WrittenTrees) (gs : ClosedSymbols) → AreTreesOf M ts gs → AreTreesOf M rs gs →
        renumbered_trees rank ts ≡ renumbered_trees rank rs → ts ≡ rs
    all_one no_trees no_trees gs h i e = refl
    all_one (tree_and t ts) (tree_and r rs) (symbol_and g gs) h i e =
        ap₂ tree_and (one_tree t r g h.0 i.0 (ap first_in e)) (all_one ts rs gs h.1 i.1 (ap rest_in e))
    all_one no_trees (tree_and r rs) no_symbols h i e = absurd i
    all_one no_trees (tree_and r rs) (symbol_and g gs) h i e = absurd h
    all_one (tree_and t ts) no_trees no_symbols h i e = absurd h
    all_one (tree_and t ts) no_trees (symbol_and g gs) h i e = absurd i
    all_one (tree_and t ts) (tree_and r rs) no_symbols h i e = absurd h

    each_one : (ts rs : WrittenTrees) (x : ClosedSymbol) → EachTreeOf M ts x → EachTreeOf M rs x →
        renumbered_trees rank ts ≡ renumbered_trees rank rs → ts ≡ rs
    each_one no_trees no_trees x h i e = refl
    each_one (tree_and t ts) (tree_and r rs) x h i e =
        ap₂ tree_and (one_tree t r x h.0 i.0 (ap first_in e)) (each_one ts rs x h.1 i.1 (ap rest_in e))
    each_one no_trees (tree_and r rs) x h i e = absurd (cc e)
    each_one (tree_and t ts) no_trees x h i e = absurd (cc e)

  pub trees_renumbered : TreesAreRenumbered M N rank
  trees_renumbered = record {
    down = tree_down;
    up = λ u s h. (let (t, i, e) = tree_up u s h in (t, (i, e), λ r q. one_tree r t s q.0 i (q.1 ∙ sym e)));
    same_yields = same_yield rank;
    same_alternatives = alternatives_ranked rank;
  }

pub trees_only_renumber : TreesOnlyRenumber
trees_only_renumber value fs g =
    trees_renumbered (meaning value (written_rules fs g)) (meaning value (leveled_rules (prepared_grammar fs g))) (rank_by (written_rules fs g))
    (disabled_only_renumber value fs g).0

-- ---- lowered trees

module _ (M N : Meaning) (rank : Name → ℕ → ℕ) (T : TreesAreRenumbered M N rank) (name : ClosedSymbol → Name) (P : ProductionTable) (s : ClosedSymbol)
    (O : OneToOne N name P s) where
  one_to_one_by_rank : OneToOneByRank M N rank name P s
  one_to_one_by_rank = record {
    down = λ t h. O.down (renumbered rank t) (T.down t s h);
    up = λ u d.
        (let (m, p, unique) = O.up u d in
        let (t, q, only) = T.up m s p.0 in
        (t, (q.0, subst (λ r. Pairs N name s r u) (sym q.1) p.1), λ r w. only r (w.0, unique (renumbered rank r) (T.down r s w.0, w.1))));
    same_yields = λ t u p. sym (T.same_yields t) ∙ O.same_yields (renumbered rank t) u p;
    same_alternatives = λ t u p. sym (T.same_alternatives t) ∙ O.same_alternatives (renumbered rank t) u p;
  }

pub written_trees_lowered : LevelsAreTwoSteps → WrittenTreesAreLowered
written_trees_lowered two value fs g H name P declared met R x resolved known =
    one_to_one_by_rank _ _ _ (trees_only_renumber value fs g) _ _ x
    (levels_steps two value (prepared_grammar fs g) H name P declared met R x
    (subst (λ (xs : List ClosedSymbol). IsResolvedIn xs x) (sym (disabled_only_renumber value fs g).1) resolved) known).whole
