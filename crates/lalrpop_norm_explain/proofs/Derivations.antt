-- No fault, and derivation trees.
use Rattle.std.proofs.Common.{◌≡◌, ℕ, ◌+◌, Bool, true, false, true≢false, List, [], ◌∷◌, ◌++◌, refl, sym, ap, ◌∙◌}
use Rattle.std.specs.Prelude.{slice_get, Option, Some, None}
use Rattle.lalrpop_norm_theory.specs.Symbols.{Name, Terminal, terminal, reference}
use Rattle.lalrpop_norm_theory.specs.Same.{same_closed_terminal}
use Rattle.lalrpop_norm_theory.specs.LoweredTrees.{ProductionTable, Production, LoweredSymbol, terminal_symbol, nonterminal_symbol, LoweredTree, LoweredTrees, lowered_leaf, lowered_node, no_lowered, lowered_and, IsDerivation, AreDerivations}
use Rattle.lalrpop_norm_theory.proofs.SameLemmas.{text_sound, text_same, symbol_test}
use Rattle.lalrpop_norm_theory.proofs.Trees.{translations_inverse}
use Rattle.lalrpop_norm_explain.specs.TreeFaults.{Found, raised, is_of, is_one_each, node_faults, child_faults, children_faults, tree_faults, explain_faults}
use Rattle.lalrpop_norm_explain.specs.Laws.{IsRootedTree, FaultlessIsRooted, FaultlessIsPaired}

-- terminals that are the same are the same symbol
pub terminal_found : (a b : Terminal) → same_closed_terminal a b ≡ true → terminal_symbol a ≡ terminal_symbol b
terminal_found a b e =
    let whole : terminal a ≡ terminal b = symbol_test.sound (terminal a) (terminal b) e in
    let same : a ≡ b = cc in
    ap terminal_symbol same

pub leaf_found : (a : Terminal) → is_of (terminal_symbol a) (lowered_leaf a) ≡ true
leaf_found a = symbol_test.complete (terminal a)

not_empty : {A C : Type 0} (x : A) (xs : List A) → x ∷ xs ≡ [] → C
not_empty x xs e = absurd (cc e)

pub none_in_front : (fs gs : List Found) → fs ++ gs ≡ [] → fs ≡ []
none_in_front [] gs e = refl
none_in_front (f ∷ fs) gs e = not_empty _ _ e

pub none_behind : (fs gs : List Found) → fs ++ gs ≡ [] → gs ≡ []
none_behind [] gs e = e
none_behind (f ∷ fs) gs e = not_empty _ _ e

pub none_raised : (i : ℕ) (fs : List Found) → raised i fs ≡ [] → fs ≡ []
none_raised i [] e = refl
none_raised i (f ∷ fs) e = not_empty _ _ e

of_symbol : (i : ℕ) (ok : Bool) (below : List Found) → child_faults i ok below ≡ [] → (ok ≡ true) × (below ≡ [])
of_symbol i true below e = (refl, none_raised i below e)
of_symbol i false below e = not_empty _ _ e

-- a node without a fault has its production, and one child for each symbol
there : (us : LoweredTrees) (o : Option Production) (below : List LoweredSymbol → List Found) → node_faults us o below ≡ [] →
    (q : Production) × (o ≡ Some q) × (is_one_each us q.symbols ≡ true) × (below q.symbols ≡ [])
there us None below e = not_empty _ _ e
there us (Some q) below e = at (is_one_each us q.symbols) refl e
  where
    at : (b : Bool) → is_one_each us q.symbols ≡ b → node_faults us (Some q) below ≡ [] →
        (r : Production) × (Some q ≡ Some r) × (is_one_each us r.symbols ≡ true) × (below r.symbols ≡ [])
    at true h f = (q, refl, h, rw h at f)
    at false h f = not_empty _ _ (rw h at f)

module _ (P : ProductionTable) where
  mutual
    derived : (u : LoweredTree) (s : LoweredSymbol) → is_of s u ≡ true → tree_faults P u ≡ [] → IsDerivation P u s
    derived (lowered_leaf a) (terminal_symbol b) e f = terminal_found b a e
    derived (lowered_leaf a) (nonterminal_symbol n) e f = absurd (true≢false (sym e))
    derived (lowered_node n p us) (terminal_symbol b) e f = absurd (true≢false (sym e))
    derived (lowered_node n p us) (nonterminal_symbol m) e f =
        let q = there us (slice_get (P n) p) (λ ss. children_faults P us ss 0) f in
        (ap nonterminal_symbol (text_sound m n e), q.0, q.1, all_derived us q.0.symbols 0 q.2 q.3)

    all_derived : (us : LoweredTrees) (ss : List LoweredSymbol) (i : ℕ) → is_one_each us ss ≡ true → children_faults P us ss i ≡ [] → AreDerivations P us ss
    all_derived no_lowered [] i e f = tt
    all_derived no_lowered (s ∷ ss) i e f = absurd (true≢false (sym e))
    all_derived (lowered_and u us) [] i e f = absurd (true≢false (sym e))
    all_derived (lowered_and u us) (s ∷ ss) i e f =
        let front = of_symbol i (is_of s u) (tree_faults P u) (none_in_front (child_faults i (is_of s u) (tree_faults P u)) (children_faults P us ss (i + 1)) f) in (
          derived u s front.0 front.1,
          all_derived us ss (i + 1) e (none_behind (child_faults i (is_of s u) (tree_faults P u)) (children_faults P us ss (i + 1)) f),
        )

  mutual
    faultless : (u : LoweredTree) (s : LoweredSymbol) → IsDerivation P u s → (is_of s u ≡ true) × (tree_faults P u ≡ [])
    faultless (lowered_leaf a) s d = (rw d (leaf_found a), refl)
    faultless (lowered_node n p us) s (e, q, at, ds) =
        let below = all_faultless us q.symbols 0 ds in
        (rw e (text_same n), rw (at, below.0) below.1)

    all_faultless : (us : LoweredTrees) (ss : List LoweredSymbol) (i : ℕ) → AreDerivations P us ss → (is_one_each us ss ≡ true) × (children_faults P us ss i ≡ [])
    all_faultless no_lowered [] i d = (refl, refl)
    all_faultless no_lowered (s ∷ ss) i d = absurd d
    all_faultless (lowered_and u us) [] i d = absurd d
    all_faultless (lowered_and u us) (s ∷ ss) i d =
        let here = faultless u s d.0 in
        let rest = all_faultless us ss (i + 1) d.1 in
        (rest.0, rw (here.0, here.1, rest.1) refl)

whole : (roots : Name → Bool) (P : ProductionTable) (u : LoweredTree) → explain_faults roots P u ≡ [] → IsRootedTree roots P u
whole roots P (lowered_leaf a) e = not_empty _ _ e
whole roots P (lowered_node n p us) e = at (roots n) refl e
  where
    at : (b : Bool) → roots n ≡ b → explain_faults roots P (lowered_node n p us) ≡ [] → IsRootedTree roots P (lowered_node n p us)
    at true h f = (n, h, derived P (lowered_node n p us) (nonterminal_symbol n) (text_same n) (rw h at f))
    at false h f = not_empty _ _ (rw h at f)

back : (roots : Name → Bool) (P : ProductionTable) (u : LoweredTree) → IsRootedTree roots P u → explain_faults roots P u ≡ []
back roots P (lowered_leaf a) (n, r, d) = cc
back roots P (lowered_node m p us) (n, r, d) =
    let f = faultless P (lowered_node m p us) (nonterminal_symbol n) d in
    let same : m ≡ n = sym (text_sound n m f.0) in
    let here : roots m ≡ true = ap roots same ∙ r in
    rw here f.1

pub faultless_rooted : FaultlessIsRooted
faultless_rooted roots P u = (whole roots P u, back roots P u)

pub faultless_paired : FaultlessIsPaired
faultless_paired M C V name P declared met R roots rooted u e =
    let w = whole roots P u e in
    let k = rooted w.0 w.1 in
    let d : IsDerivation P u (nonterminal_symbol (name (reference w.0 None))) = rw k.1 w.2 in
    let b = (translations_inverse M C V name P declared met R (reference w.0 None) k.0).back u d in
    (w.0, w.1, b.0, b.1)
