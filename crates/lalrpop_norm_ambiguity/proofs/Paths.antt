-- The path where two trees of one word differ.
use Rattle.std.proofs.Common.{◌≡◌, ℕ, zero, suc, ◌+◌, Bool, true, false, List, [], ◌∷◌, ◌++◌, refl, sym, ap, ◌∙◌, subst, arith, bytes_eq, nat_eq}
use Rattle.std.specs.Prelude.{Option, Some, None, ◌&&◌, if◌then◌else◌}
use Rattle.std.proofs.lemmas.Bool.{eqb-true, and_parts}
use Rattle.std.proofs.lemmas.List.{append_cancel_left, append_cancel_right}
use Rattle.lalrpop_norm_theory.specs.Symbols.{Name, Terminal, ClosedSymbol, ClosedSymbols, reference, call, group, star, plus, question, times, wrapped, no_symbols, symbol_and}
use Rattle.lalrpop_norm_theory.specs.Same.{same_closed_terminal}
use Rattle.lalrpop_norm_theory.specs.Meaning.{Meaning}
use Rattle.lalrpop_norm_theory.specs.WrittenTrees.{WrittenTree, WrittenTrees, leaf, nothing, list, node, no_trees, tree_and, IsTreeOf, AreTreesOf, EachTreeOf, yield, yields}
use Rattle.lalrpop_norm_ambiguity.specs.Differences.{at_child, merged, tree_difference, children_difference}
use Rattle.lalrpop_norm_ambiguity.specs.Ambiguities.{AreTwoTrees, child_at, children, IsAt}
use Rattle.lalrpop_norm_ambiguity.specs.Laws.{DifferencesAreAmbiguous}
use Rattle.lalrpop_norm_ambiguity.proofs.Differing.{tree_same, trees_same, differ}

-- some symbol has both trees
abbrev AreOfOne : Meaning → WrittenTree → WrittenTree → Type 0
AreOfOne M t s = (h : ClosedSymbol) × IsTreeOf M t h × IsTreeOf M s h

-- likewise at each path
abbrev AreAlike : Meaning → WrittenTrees → WrittenTrees → Type 0
AreAlike M no_trees ss = Unit {0}
AreAlike M (tree_and t ts) no_trees = Unit {0}
AreAlike M (tree_and t ts) (tree_and s ss) = AreOfOne M t s × AreAlike M ts ss

some_same : {A : Type 0} {a b : A} → Some a ≡ Some b → a ≡ b
some_same e = cc

module _ (M : Meaning) where
  parts_alike : (ts ss : WrittenTrees) (gs : ClosedSymbols) → AreTreesOf M ts gs → AreTreesOf M ss gs → AreAlike M ts ss
  parts_alike no_trees ss gs h k = tt
  parts_alike (tree_and t ts) no_trees gs h k = tt
  parts_alike (tree_and t ts) (tree_and s ss) no_symbols h k = absurd h
  parts_alike (tree_and t ts) (tree_and s ss) (symbol_and g gs) h k = ((g, h.0, k.0), parts_alike ts ss gs h.1 k.1)

  each_alike : (x : ClosedSymbol) (ts ss : WrittenTrees) → EachTreeOf M ts x → EachTreeOf M ss x → AreAlike M ts ss
  each_alike x no_trees ss h k = tt
  each_alike x (tree_and t ts) no_trees h k = tt
  each_alike x (tree_and t ts) (tree_and s ss) h k = ((x, h.0, k.0), each_alike x ts ss h.1 k.1)

  lists_alike : (ts ss : WrittenTrees) (g : ClosedSymbol) → IsTreeOf M (list ts) g → IsTreeOf M (list ss) g → AreAlike M ts ss
  lists_alike ts ss (wrapped w g) h k = lists_alike ts ss g h k
  lists_alike ts ss (group gs) h k = parts_alike ts ss gs h k
  lists_alike ts ss (star x) h k = each_alike x ts ss h k
  lists_alike ts ss (plus x) h k = each_alike x ts ss h.1 k.1
  lists_alike ts ss (question x) h k = each_alike x ts ss h.1 k.1
  lists_alike ts ss (times n x) h k = each_alike x ts ss h.1 k.1
  lists_alike ts ss _ h k = absurd h

  nodes_alike : (n m : Name) (i j : ℕ) (ts ss : WrittenTrees) (g : ClosedSymbol) → i ≡ j → IsTreeOf M (node n i ts) g → IsTreeOf M (node m j ss) g → AreAlike M ts ss
  nodes_alike n m i j ts ss (wrapped w g) e h k = nodes_alike n m i j ts ss g e h k
  nodes_alike n m i j ts ss (reference r b) e h k =
      let same : h.1 ≡ k.1 = some_same (sym h.2 ∙ ap (λ x. M.reference_parts r b x) e ∙ k.2) in
      parts_alike ts ss k.1 (subst (λ gs. AreTreesOf M ts gs) same h.3) k.3
  nodes_alike n m i j ts ss (call r args) e h k =
      let same : h.1 ≡ k.1 = some_same (sym h.2 ∙ ap (λ x. M.call_parts r args x) e ∙ k.2) in
      parts_alike ts ss k.1 (subst (λ gs. AreTreesOf M ts gs) same h.3) k.3
  nodes_alike n m i j ts ss _ e h k = absurd h

  -- where one child alone differs
  record OneChild (ts ss : WrittenTrees) (i : ℕ) (p : List ℕ) : Type 0 where
    a : WrittenTree
    c : WrittenTree
    at_first : child_at i ts ≡ Some a
    at_second : child_at i ss ≡ Some c
    path : tree_difference a c ≡ Some p
    of_one : AreOfOne M a c
    same_yields : yields ts ≡ yields ss → yield a ≡ yield c

  one_child : (ts ss : WrittenTrees) (b i : ℕ) (p : List ℕ) → AreAlike M ts ss → children_difference ts ss b ≡ Some (i ∷ p) →
      (j : ℕ) × (i ≡ b + j) × OneChild ts ss j p
  one_child no_trees no_trees b i p l e = absurd (cc e)
  one_child no_trees (tree_and s ss) b i p l e = absurd (cc e)
  one_child (tree_and t ts) no_trees b i p l e = absurd (cc e)
  one_child (tree_and t ts) (tree_and s ss) b i p l e =
      go (tree_difference t s) refl (children_difference ts ss (b + 1)) refl e (λ f. one_child ts ss (b + 1) i p l.1 f)
    where
      go : (o : Option (List ℕ)) → tree_difference t s ≡ o → (r : Option (List ℕ)) → children_difference ts ss (b + 1) ≡ r →
          merged (at_child b o) r ≡ Some (i ∷ p) →
          (children_difference ts ss (b + 1) ≡ Some (i ∷ p) → (j : ℕ) × (i ≡ (b + 1) + j) × OneChild ts ss j p) →
          (j : ℕ) × (i ≡ b + j) × OneChild (tree_and t ts) (tree_and s ss) j p
      go None eo r er m ih =
          let (j, at, one) = ih (er ∙ m) in
          let same : t ≡ s = tree_same t s eo in (
            suc j,
            omega arith,
            record {
              a = one.a;
              c = one.c;
              at_first = one.at_first;
              at_second = one.at_second;
              path = one.path;
              of_one = one.of_one;
              same_yields = λ w. one.same_yields (append_cancel_left (yield s) (yields ts) (yields ss) (ap (λ x. yield x ++ yields ts) (sym same) ∙ w));
            },
          )
      go (Some q) eo None er m ih =
          let inner : b ∷ q ≡ i ∷ p = some_same m in
          let here : b ≡ i = cc in
          let deeper : q ≡ p = cc in
          let same : ts ≡ ss = trees_same ts ss (b + 1) er in (
            zero,
            omega arith,
            record {
              a = t;
              c = s;
              at_first = refl;
              at_second = refl;
              path = eo ∙ ap Some deeper;
              of_one = l.0;
              same_yields = λ w. append_cancel_right (yield t) (yield s) (yields ss) (ap (λ xs. yield t ++ yields xs) (sym same) ∙ w);
            },
          )
      go (Some q) eo (Some r) er m ih = absurd (cc m)

  abbrev Inner : List ℕ → WrittenTree → WrittenTree → Type 0
  Inner p t s = (h : ClosedSymbol) × (a : WrittenTree) × (b : WrittenTree) × IsAt p t a × IsAt p s b × AreTwoTrees M h a b

  if_deeper : (b : Bool) (d : Option (List ℕ)) (i : ℕ) (p : List ℕ) → (if b then d else Some []) ≡ Some (i ∷ p) → (b ≡ true) × (d ≡ Some (i ∷ p))
  if_deeper true d i p e = (refl, e)
  if_deeper false d i p e = absurd (cc e)

  no_deeper : {C : Type 0} (b : Bool) (i : ℕ) (p : List ℕ) → (if b then None else Some []) ≡ Some (i ∷ p) → C
  no_deeper true i p e = absurd (cc e)
  no_deeper false i p e = absurd (cc e)

  -- one step down
  down : (t s : WrittenTree) (i : ℕ) (p : List ℕ) → yields (children t) ≡ yields (children s) → AreAlike M (children t) (children s) →
      children_difference (children t) (children s) 0 ≡ Some (i ∷ p) →
      ((h : ClosedSymbol) (a c : WrittenTree) → AreTwoTrees M h a c → tree_difference a c ≡ Some p → Inner p a c) →
      Inner (i ∷ p) t s
  down t s i p w l e deeper =
      let (j, is, one) = one_child (children t) (children s) 0 i p l e in
      let here : j ≡ i = omega arith in
      let (h, of_a, of_c) = one.of_one in
      let two : AreTwoTrees M h one.a one.c = record { first = of_a; second = of_c; same_yields = one.same_yields w; differ = differ one.a one.c p one.path } in
      let (g, x, y, at_x, at_y, both) = deeper h one.a one.c two one.path in
      let first : child_at i (children t) ≡ Some one.a = ap (λ k. child_at k (children t)) (sym here) ∙ one.at_first in
      let second : child_at i (children s) ≡ Some one.c = ap (λ k. child_at k (children s)) (sym here) ∙ one.at_second in
      (g, x, y, (one.a, first, at_x), (one.c, second, at_y), both)

  inner : (p : List ℕ) (g : ClosedSymbol) (t s : WrittenTree) → AreTwoTrees M g t s → tree_difference t s ≡ Some p → Inner p t s
  inner [] g t s A e = (g, t, s, refl, refl, A)
  inner (i ∷ p) g (leaf a) (leaf b) A e = no_deeper (same_closed_terminal a b) i p e
  inner (i ∷ p) g nothing nothing A e = absurd (cc e)
  inner (i ∷ p) g (list ts) (list ss) A e =
      down (list ts) (list ss) i p A.same_yields (lists_alike ts ss g A.first A.second) e (λ h a c two at. inner p h a c two at)
  inner (i ∷ p) g (node n k ts) (node m j ss) A e =
      let r = if_deeper (bytes_eq n m && nat_eq k j) (children_difference ts ss 0) i p e in
      let numbers : k ≡ j = eqb-true k j (and_parts _ _ r.0).1 in
      down (node n k ts) (node m j ss) i p A.same_yields (nodes_alike n m k j ts ss g numbers A.first A.second) r.1
      (λ h a c two at. inner p h a c two at)
  inner (i ∷ p) g _ _ A e = absurd (cc e)

pub differences_ambiguous : DifferencesAreAmbiguous
differences_ambiguous M g t s A p e = inner M p g t s A e
