-- Exactly the trees of a ground symbol have no fault of shape.
use Rattle.std.proofs.Common.{◌≡◌, ℕ, zero, suc, ◌+◌, Bool, true, false, List, [], refl, sym, ap, ◌∙◌, arith, nat_eq, nat_le, bytes_eq}
use Rattle.std.specs.Prelude.{Option, Some, None, if◌then◌else◌}
use Rattle.std.proofs.lemmas.Bool.Decides.{nat_tests}
use Rattle.std.proofs.lemmas.Bool.{eqb-true, eq-eqb}
use Rattle.lalrpop_norm_theory.specs.Symbols.{Terminal, error_terminal, Wrapper, ClosedSymbol, ClosedSymbols, terminal, error, reference, call, group, star, plus, question, times, wrapped, lookahead, lookbehind, no_symbols, symbol_and, replicated}
use Rattle.lalrpop_norm_theory.specs.Same.{same_closed_terminal}
use Rattle.lalrpop_norm_theory.specs.Meaning.{Meaning}
use Rattle.lalrpop_norm_theory.specs.WrittenTrees.{WrittenTree, WrittenTrees, leaf, nothing, list, node, no_trees, tree_and, tree_count, IsNonempty, IsAtMostOne, IsTreeOf, AreTreesOf}
use Rattle.lalrpop_norm_theory.proofs.SameLemmas.{text_same, text_sound, symbol_test}
use Rattle.lalrpop_norm_theory.proofs.ReplicatedLemmas.{one_for_each as trees_of_one, each_of_one}
use Rattle.lalrpop_norm_explain.specs.TreeFaults.{Found, raised}
use Rattle.lalrpop_norm_explain.specs.WrittenShapes.{symbol_count, only_if, one_tree_each, here_or_below, misshapen, all_misshapen}
use Rattle.lalrpop_norm_explain.specs.Laws.{ShapedAreTrees}
use Rattle.lalrpop_norm_explain.proofs.Derivations.{leaf_found, none_in_front, none_behind, none_raised}

-- ---- exactly the trees of a ground symbol have no fault

-- what is fitted has no fault
fitted : (b : Bool) (gs : ClosedSymbols) (below : ClosedSymbols → List Found) → here_or_below (only_if b gs) below ≡ [] → (b ≡ true) × (below gs ≡ [])
fitted true gs below e = (refl, e)
fitted false gs below e = absurd (cc e)

fits : (b : Bool) (gs : ClosedSymbols) (below : ClosedSymbols → List Found) → b ≡ true → below gs ≡ [] → here_or_below (only_if b gs) below ≡ []
fits b gs below h e = rw h e

named : (b : Bool) (o : Option ClosedSymbols) (below : ClosedSymbols → List Found) → here_or_below (if b then o else None) below ≡ [] →
    (b ≡ true) × (here_or_below o below ≡ [])
named true o below e = (refl, e)
named false o below e = absurd (cc e)

with_parts : (ts : WrittenTrees) (o : Option ClosedSymbols) (below : ClosedSymbols → List Found) → here_or_below (one_tree_each ts o) below ≡ [] →
    (gs : ClosedSymbols) × (o ≡ Some gs) × (nat_eq (tree_count ts) (symbol_count gs) ≡ true) × (below gs ≡ [])
with_parts ts None below e = absurd (cc e)
with_parts ts (Some gs) below e = let r = fitted (nat_eq (tree_count ts) (symbol_count gs)) gs below e in (gs, refl, r.0, r.1)

from_parts : (ts : WrittenTrees) (o : Option ClosedSymbols) (gs : ClosedSymbols) (below : ClosedSymbols → List Found) → o ≡ Some gs →
    nat_eq (tree_count ts) (symbol_count gs) ≡ true → below gs ≡ [] → here_or_below (one_tree_each ts o) below ≡ []
from_parts ts o gs below h c e = rw (h, c) e

pub counted_replicated : (n : ℕ) (x : ClosedSymbol) → symbol_count (replicated n x) ≡ n
counted_replicated zero x = refl
counted_replicated (suc n) x = ap suc (counted_replicated n x)

same_terminal : (a b : Terminal) → same_closed_terminal b a ≡ true → a ≡ b
same_terminal a b e =
    let whole : terminal b ≡ terminal a = symbol_test.sound (terminal b) (terminal a) e in
    let same : a ≡ b = cc in same

pub some_more : (n : ℕ) → nat_le 1 (suc n) ≡ true
some_more n = grind (arith, nat_tests)

pub two_more : (n : ℕ) → nat_le (suc (suc n)) 1 ≡ false
two_more n = grind (arith, nat_tests)

nonempty : (ts : WrittenTrees) → nat_le 1 (tree_count ts) ≡ true → IsNonempty ts
nonempty no_trees e = absurd (grind (arith, nat_tests))
nonempty (tree_and t ts) e = tt

filled : (ts : WrittenTrees) → IsNonempty ts → nat_le 1 (tree_count ts) ≡ true
filled no_trees h = absurd h
filled (tree_and t ts) h = some_more (tree_count ts)

at_most_one : (ts : WrittenTrees) → nat_le (tree_count ts) 1 ≡ true → IsAtMostOne ts
at_most_one no_trees e = tt
at_most_one (tree_and t no_trees) e = tt
at_most_one (tree_and t (tree_and s ts)) e = let bad : false ≡ true = sym (two_more (tree_count ts)) ∙ e in absurd (cc bad)

few : (ts : WrittenTrees) → IsAtMostOne ts → nat_le (tree_count ts) 1 ≡ true
few no_trees h = refl
few (tree_and t no_trees) h = refl
few (tree_and t (tree_and s ts)) h = absurd h

module _ (M : Meaning) where
  count_of : (ts : WrittenTrees) (gs : ClosedSymbols) → AreTreesOf M ts gs → tree_count ts ≡ symbol_count gs
  count_of no_trees no_symbols h = refl
  count_of (tree_and t ts) (symbol_and g gs) h = ap suc (count_of ts gs h.1)
  count_of _ _ h = absurd h

  -- a wrapper changes no fault
  unwrapped : (t : WrittenTree) (w : Wrapper) (g : ClosedSymbol) → misshapen M t (wrapped w g) ≡ misshapen M t g
  unwrapped (leaf a) w g = refl
  unwrapped nothing w g = refl
  unwrapped (list ts) w g = refl
  unwrapped (node n k ts) w g = refl

  mutual
    tree_here : (t : WrittenTree) (g : ClosedSymbol) → misshapen M t g ≡ [] → IsTreeOf M t g
    tree_here t (wrapped w g) e = tree_here t g (sym (unwrapped t w g) ∙ e)
    tree_here (leaf a) (terminal b) e = same_terminal a b (fitted (same_closed_terminal b a) no_symbols (λ gs. []) e).0
    tree_here (leaf a) error e = same_terminal a error_terminal (fitted (same_closed_terminal error_terminal a) no_symbols (λ gs. []) e).0
    tree_here nothing lookahead e = tt
    tree_here nothing lookbehind e = tt
    tree_here (list ts) (group gs) e =
        let r = fitted (nat_eq (tree_count ts) (symbol_count gs)) gs (λ hs. all_misshapen M ts hs 0) e in
        trees_here ts gs 0 (eqb-true (tree_count ts) (symbol_count gs) r.0) r.1
    tree_here (list ts) (star x) e =
        (each_of_one M x ts (tree_count ts) (trees_here ts (replicated (tree_count ts) x) 0 (sym (counted_replicated (tree_count ts) x)) e)).1
    tree_here (list ts) (plus x) e =
        let r = fitted (nat_le 1 (tree_count ts)) (replicated (tree_count ts) x) (λ hs. all_misshapen M ts hs 0) e in (
          nonempty ts r.0,
          (each_of_one M x ts (tree_count ts) (trees_here ts (replicated (tree_count ts) x) 0 (sym (counted_replicated (tree_count ts) x)) r.1)).1,
        )
    tree_here (list ts) (question x) e =
        let r = fitted (nat_le (tree_count ts) 1) (replicated (tree_count ts) x) (λ hs. all_misshapen M ts hs 0) e in (
          at_most_one ts r.0,
          (each_of_one M x ts (tree_count ts) (trees_here ts (replicated (tree_count ts) x) 0 (sym (counted_replicated (tree_count ts) x)) r.1)).1,
        )
    tree_here (list ts) (times n x) e =
        let r = fitted (nat_eq (tree_count ts) n) (replicated n x) (λ hs. all_misshapen M ts hs 0) e in
        each_of_one M x ts n (trees_here ts (replicated n x) 0 (eqb-true (tree_count ts) n r.0 ∙ sym (counted_replicated n x)) r.1)
    tree_here (node n k ts) (reference m b) e =
        let here = named (bytes_eq m n) (one_tree_each ts (M.reference_parts m b k)) (λ hs. all_misshapen M ts hs 0) e in
        let (gs, parts, count, below) = with_parts ts (M.reference_parts m b k) (λ hs. all_misshapen M ts hs 0) here.1 in
        (sym (text_sound m n here.0), gs, parts, trees_here ts gs 0 (eqb-true (tree_count ts) (symbol_count gs) count) below)
    tree_here (node n k ts) (call m args) e =
        let here = named (bytes_eq m n) (one_tree_each ts (M.call_parts m args k)) (λ hs. all_misshapen M ts hs 0) e in
        let (gs, parts, count, below) = with_parts ts (M.call_parts m args k) (λ hs. all_misshapen M ts hs 0) here.1 in
        (sym (text_sound m n here.0), gs, parts, trees_here ts gs 0 (eqb-true (tree_count ts) (symbol_count gs) count) below)
    tree_here _ _ e = absurd (cc e)

    trees_here : (ts : WrittenTrees) (gs : ClosedSymbols) (i : ℕ) → tree_count ts ≡ symbol_count gs → all_misshapen M ts gs i ≡ [] → AreTreesOf M ts gs
    trees_here no_trees no_symbols i n e = tt
    trees_here no_trees (symbol_and g gs) i n e = let bad : 0 ≡ suc (symbol_count gs) = n in absurd (omega arith)
    trees_here (tree_and t ts) no_symbols i n e = let bad : suc (tree_count ts) ≡ 0 = n in absurd (omega arith)
    trees_here (tree_and t ts) (symbol_and g gs) i n e =
        let left : suc (tree_count ts) ≡ suc (symbol_count gs) = n in
        let same : tree_count ts ≡ symbol_count gs = omega arith in (
          tree_here t g (none_raised i (misshapen M t g) (none_in_front (raised i (misshapen M t g)) (all_misshapen M ts gs (i + 1)) e)),
          trees_here ts gs (i + 1) same (none_behind (raised i (misshapen M t g)) (all_misshapen M ts gs (i + 1)) e),
        )

  mutual
    fine : (t : WrittenTree) (g : ClosedSymbol) → IsTreeOf M t g → misshapen M t g ≡ []
    fine t (wrapped w g) h = unwrapped t w g ∙ fine t g h
    fine (leaf a) (terminal b) h = let same : same_closed_terminal b b ≡ true = leaf_found b in rw (h, same) refl
    fine (leaf a) error h = rw h refl
    fine nothing lookahead h = refl
    fine nothing lookbehind h = refl
    fine (list ts) (group gs) h =
        fits (nat_eq (tree_count ts) (symbol_count gs)) gs (λ hs. all_misshapen M ts hs 0)
        (eq-eqb (tree_count ts) (symbol_count gs) (count_of ts gs h)) (all_fine ts gs 0 h)
    fine (list ts) (star x) h = all_fine ts (replicated (tree_count ts) x) 0 (trees_of_one M x ts (tree_count ts) refl h)
    fine (list ts) (plus x) h =
        fits (nat_le 1 (tree_count ts)) (replicated (tree_count ts) x) (λ hs. all_misshapen M ts hs 0) (filled ts h.0)
        (all_fine ts (replicated (tree_count ts) x) 0 (trees_of_one M x ts (tree_count ts) refl h.1))
    fine (list ts) (question x) h =
        fits (nat_le (tree_count ts) 1) (replicated (tree_count ts) x) (λ hs. all_misshapen M ts hs 0) (few ts h.0)
        (all_fine ts (replicated (tree_count ts) x) 0 (trees_of_one M x ts (tree_count ts) refl h.1))
    fine (list ts) (times n x) h =
        fits (nat_eq (tree_count ts) n) (replicated n x) (λ hs. all_misshapen M ts hs 0) (eq-eqb (tree_count ts) n h.0)
        (all_fine ts (replicated n x) 0 (trees_of_one M x ts n h.0 h.1))
    fine (node n k ts) (reference m b) (same, parts, e, hs) =
        let is : bytes_eq m n ≡ true = ap (bytes_eq m) same ∙ text_same m in
        let below = from_parts ts (M.reference_parts m b k) parts (λ hs. all_misshapen M ts hs 0) e
        (eq-eqb (tree_count ts) (symbol_count parts) (count_of ts parts hs)) (all_fine ts parts 0 hs) in
        rw is below
    fine (node n k ts) (call m args) (same, parts, e, hs) =
        let is : bytes_eq m n ≡ true = ap (bytes_eq m) same ∙ text_same m in
        let below = from_parts ts (M.call_parts m args k) parts (λ hs. all_misshapen M ts hs 0) e
        (eq-eqb (tree_count ts) (symbol_count parts) (count_of ts parts hs)) (all_fine ts parts 0 hs) in
        rw is below
    fine _ _ h = absurd h

    all_fine : (ts : WrittenTrees) (gs : ClosedSymbols) (i : ℕ) → AreTreesOf M ts gs → all_misshapen M ts gs i ≡ []
    all_fine no_trees no_symbols i h = refl
    all_fine (tree_and t ts) (symbol_and g gs) i h = rw (fine t g h.0, all_fine ts gs (i + 1) h.1) refl
    all_fine _ _ i h = absurd h

pub trees_are_shaped : ShapedAreTrees
trees_are_shaped M t g = (tree_here M t g, fine M t g)
