-- Nothing differs exactly where words or trees are the same.
use Rattle.std.proofs.Common.{◌≡◌, ℕ, ◌+◌, Bool, true, false, List, [], ◌∷◌, refl, sym, ap, ap₂, ◌∙◌, bytes_eq, nat_eq}
use Rattle.std.specs.Prelude.{Option, Some, None, ◌&&◌, if◌then◌else◌}
use Rattle.std.proofs.lemmas.Bool.{eqb-true, eq-eqb, and_parts, and_from}
use Rattle.lalrpop_norm_theory.specs.Symbols.{Terminal, terminal}
use Rattle.lalrpop_norm_theory.specs.Same.{same_closed_terminal}
use Rattle.lalrpop_norm_theory.specs.WrittenTrees.{WrittenTree, WrittenTrees, leaf, nothing, list, node, no_trees, tree_and}
use Rattle.lalrpop_norm_theory.proofs.SameLemmas.{text_sound, text_same, symbol_test}
use Rattle.lalrpop_norm_ambiguity.specs.Differences.{yield_difference, at_child, merged, tree_difference, children_difference}

-- two terminals of one symbol are one
terminals_of_one : (a b : Terminal) → terminal a ≡ terminal b → a ≡ b
terminals_of_one a b e = cc

-- ---- words

pub yields_same : (i : ℕ) (xs ys : List Terminal) → yield_difference i xs ys ≡ None → xs ≡ ys
yields_same i [] [] e = refl
yields_same i [] (b ∷ ys) e = absurd (cc e)
yields_same i (a ∷ xs) [] e = absurd (cc e)
yields_same i (a ∷ xs) (b ∷ ys) e = go (same_closed_terminal a b) refl e (λ f. yields_same (i + 1) xs ys f)
  where
    go : (c : Bool) → same_closed_terminal a b ≡ c → (if c then yield_difference (i + 1) xs ys else Some i) ≡ None →
        (yield_difference (i + 1) xs ys ≡ None → xs ≡ ys) → a ∷ xs ≡ b ∷ ys
    go true h f rest = ap₂ (λ x l. x ∷ l) (terminals_of_one a b (symbol_test.sound (terminal a) (terminal b) h)) (rest f)
    go false h f rest = absurd (cc f)

pub no_yield_difference : (i : ℕ) (xs : List Terminal) → yield_difference i xs xs ≡ None
no_yield_difference i [] = refl
no_yield_difference i (a ∷ xs) = rw (symbol_test.complete (terminal a)) (no_yield_difference (i + 1) xs)

-- ---- trees

at_child_none : (i : ℕ) (o : Option (List ℕ)) → at_child i o ≡ None → o ≡ None
at_child_none i None e = refl
at_child_none i (Some p) e = absurd (cc e)

merged_none : (o q : Option (List ℕ)) → merged o q ≡ None → (o ≡ None) × (q ≡ None)
merged_none None q e = (refl, e)
merged_none (Some p) None e = absurd (cc e)
merged_none (Some p) (Some q) e = absurd (cc e)

pub if_none : (b : Bool) (d : Option (List ℕ)) → (if b then d else Some []) ≡ None → (b ≡ true) × (d ≡ None)
if_none true d e = (refl, e)
if_none false d e = absurd (cc e)

leaves_same : (a b : Terminal) (p : List ℕ) (c : Bool) → same_closed_terminal a b ≡ c → (if c then None else Some p) ≡ None → leaf a ≡ leaf b
leaves_same a b p true h e = ap leaf (terminals_of_one a b (symbol_test.sound (terminal a) (terminal b) h))
leaves_same a b p false h e = absurd (cc e)

mutual
  pub tree_same : (t s : WrittenTree) → tree_difference t s ≡ None → t ≡ s
  tree_same (leaf a) (leaf b) e = leaves_same a b [] (same_closed_terminal a b) refl e
  tree_same nothing nothing e = refl
  tree_same (list ts) (list ss) e = ap list (trees_same ts ss 0 e)
  tree_same (node n k ts) (node m j ss) e =
      let r = if_none (bytes_eq n m && nat_eq k j) (children_difference ts ss 0) e in
      let p = and_parts _ _ r.0 in
      let names : n ≡ m = text_sound n m p.0 in
      let numbers : k ≡ j = eqb-true k j p.1 in
      let below : ts ≡ ss = trees_same ts ss 0 r.1 in
      cc
  tree_same _ _ e = absurd (cc e)

  pub trees_same : (ts ss : WrittenTrees) (i : ℕ) → children_difference ts ss i ≡ None → ts ≡ ss
  trees_same no_trees no_trees i e = refl
  trees_same no_trees (tree_and s ss) i e = absurd (cc e)
  trees_same (tree_and t ts) no_trees i e = absurd (cc e)
  trees_same (tree_and t ts) (tree_and s ss) i e =
      let r = merged_none (at_child i (tree_difference t s)) (children_difference ts ss (i + 1)) e in
      ap₂ tree_and (tree_same t s (at_child_none i (tree_difference t s) r.0)) (trees_same ts ss (i + 1) r.1)

mutual
  pub no_difference : (t : WrittenTree) → tree_difference t t ≡ None
  no_difference (leaf a) = rw (symbol_test.complete (terminal a)) refl
  no_difference nothing = refl
  no_difference (list ts) = no_differences ts 0
  no_difference (node n k ts) = rw (text_same n, eq-eqb k k refl) (no_differences ts 0)

  pub no_differences : (ts : WrittenTrees) (i : ℕ) → children_difference ts ts i ≡ None
  no_differences no_trees i = refl
  no_differences (tree_and t ts) i = rw (no_difference t, no_differences ts (i + 1)) refl

-- trees that differ somewhere are not the same
pub differ : (t s : WrittenTree) (p : List ℕ) → tree_difference t s ≡ Some p → t ≡ s → ⊥
differ t s p e same = let none : tree_difference t s ≡ None = ap (tree_difference t) (sym same) ∙ no_difference t in cc
