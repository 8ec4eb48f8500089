-- What it means that nothing is found in two derivation trees.
use Rattle.std.proofs.Common.{◌≡◌, ℕ, Bool, true, false, List, [], ◌∷◌, ◌++◌, map, refl, sym, ap, ap₂, ◌∙◌, subst, bytes_eq}
use Rattle.std.specs.Prelude.{Option, Some, None}
use Rattle.lalrpop_norm_theory.specs.Symbols.{Name, ClosedSymbol, reference}
use Rattle.lalrpop_norm_theory.specs.Meaning.{Meaning}
use Rattle.lalrpop_norm_theory.specs.WrittenTrees.{WrittenTree, WrittenTrees, leaf, nothing, list, node, IsTreeOf, yield}
use Rattle.lalrpop_norm_theory.specs.LoweredTrees.{LoweredTree, ProductionTable, nonterminal_symbol, IsDerivation, lowered_yield}
use Rattle.lalrpop_norm_theory.specs.Translations.{written_tree}
use Rattle.lalrpop_norm_theory.proofs.PairTranslations.{same_yield}
use Rattle.lalrpop_norm_theory.proofs.SameLemmas.{text_sound, text_same}
use Rattle.lalrpop_norm_explain.specs.Laws.{IsRootedTree, IsWritten, CallsFit}
use Rattle.lalrpop_norm_explain.specs.Plans.{most_steps}
use Rattle.lalrpop_norm_explain.specs.TreeFaults.{Found, explain_faults}
use Rattle.lalrpop_norm_explain.specs.TreeLowering.{lowered_root}
use Rattle.lalrpop_norm_explain.proofs.Calls.{is_node}
use Rattle.lalrpop_norm_ambiguity.specs.Ambiguities.{AreTwoTrees, AreTwoDerivations}
use Rattle.lalrpop_norm_ambiguity.specs.Differences.{yield_difference, tree_difference}
use Rattle.lalrpop_norm_ambiguity.specs.Findings.{PairFinding, in_first, in_second, begin_alike, rule_findings, yield_findings, tree_findings, pair_findings, findings}
use Rattle.lalrpop_norm_ambiguity.specs.Laws.{FoundIsAmbiguous, AmbiguousIsFound, AnsweredExactly}
use Rattle.lalrpop_norm_ambiguity.proofs.Differing.{yields_same, no_yield_difference, tree_same, differ}

-- ---- lists of findings

pub in_front : (fs gs : List PairFinding) → fs ++ gs ≡ [] → fs ≡ []
in_front [] gs e = refl
in_front (f ∷ fs) gs e = absurd (cc e)

pub behind : (fs gs : List PairFinding) → fs ++ gs ≡ [] → gs ≡ []
behind [] gs e = e
behind (f ∷ fs) gs e = absurd (cc e)

pub none_mapped : (f : Found → PairFinding) (xs : List Found) → map f xs ≡ [] → xs ≡ []
none_mapped f [] e = refl
none_mapped f (x ∷ xs) e = absurd (cc e)

rule_none : (b : Bool) → rule_findings b ≡ [] → b ≡ true
rule_none true e = refl
rule_none false e = absurd (cc e)

yield_none : (o : Option ℕ) → yield_findings o ≡ [] → o ≡ None
yield_none None e = refl
yield_none (Some i) e = absurd (cc e)

tree_some : (o : Option (List ℕ)) → tree_findings o ≡ [] → (p : List ℕ) × (o ≡ Some p)
tree_some None e = absurd (cc e)
tree_some (Some p) e = (p, refl)

record NothingIn (roots : Name → Bool) (P : ProductionTable) (u v : LoweredTree) : Type 0 where
  first : explain_faults roots P u ≡ []
  second : explain_faults roots P v ≡ []
  alike : begin_alike (written_tree P u) (written_tree P v) ≡ true
  same_yields : yield (written_tree P u) ≡ yield (written_tree P v)
  path : List ℕ
  differs : tree_difference (written_tree P u) (written_tree P v) ≡ Some path

nothing_in : (roots : Name → Bool) (P : ProductionTable) (u v : LoweredTree) → findings roots P u v ≡ [] → NothingIn roots P u v
nothing_in roots P u v e =
    let t = written_tree P u in
    let s = written_tree P v in
    let of_first = map in_first (explain_faults roots P u) in
    let of_second = map in_second (explain_faults roots P v) in
    let of_rule = rule_findings (begin_alike t s) in
    let of_word = yield_findings (yield_difference 0 (yield t) (yield s)) in
    let of_tree = tree_findings (tree_difference t s) in
    let rest = behind of_first (of_second ++ (of_rule ++ (of_word ++ of_tree))) e in
    let pair = behind of_second (of_rule ++ (of_word ++ of_tree)) rest in
    let last = behind of_rule (of_word ++ of_tree) pair in
    let some = tree_some (tree_difference t s) (behind of_word of_tree last) in
    record {
      first = none_mapped in_first _ (in_front of_first (of_second ++ (of_rule ++ (of_word ++ of_tree))) e);
      second = none_mapped in_second _ (in_front of_second (of_rule ++ (of_word ++ of_tree)) rest);
      alike = rule_none _ (in_front of_rule (of_word ++ of_tree) pair);
      same_yields = yields_same 0 _ _ (yield_none _ (in_front of_word of_tree last));
      path = some.0;
      differs = some.1;
    }

-- and back
none_again : (roots : Name → Bool) (P : ProductionTable) (u v : LoweredTree) → explain_faults roots P u ≡ [] → explain_faults roots P v ≡ [] →
    begin_alike (written_tree P u) (written_tree P v) ≡ true → yield (written_tree P u) ≡ yield (written_tree P v) →
    (o : Option (List ℕ)) → tree_difference (written_tree P u) (written_tree P v) ≡ o → (o ≡ None → ⊥) → findings roots P u v ≡ []
none_again roots P u v a b r w None d some = absurd (some refl)
none_again roots P u v a b r w (Some p) d some =
    let words : yield_difference 0 (yield (written_tree P u)) (yield (written_tree P v)) ≡ None =
    ap (λ y. yield_difference 0 (yield (written_tree P u)) y) (sym w) ∙ no_yield_difference 0 (yield (written_tree P u)) in
    rw (a, b, r, words, d) refl

-- ---- roots
nodes_alike : (t s : WrittenTree) (n m : Name) (k j : ℕ) (ts ss : WrittenTrees) → t ≡ node n k ts → s ≡ node m j ss →
    begin_alike t s ≡ bytes_eq n m
nodes_alike t s n m k j ts ss a b = ap₂ begin_alike a b

pub found_ambiguous : FoundIsAmbiguous
found_ambiguous M name P roots F u v e =
    let N = nothing_in roots P u v e in
    let (n, r, d) = (F.explains u).0 N.first in
    let (m, q, f) = (F.explains v).0 N.second in
    let h = (F.explained u n r d).0 in
    let i = (F.explained v m q f).0 in
    let (k, ts, is) = is_node M n None (written_tree P u) h in
    let (j, ss, are) = is_node M m None (written_tree P v) i in
    let same : n ≡ m = text_sound n m (sym (nodes_alike _ _ n m k j ts ss is are) ∙ N.alike) in (
      n,
      r,
      record {
        first = h;
        second = subst (λ x. IsTreeOf M (written_tree P v) (reference x None)) (sym same) i;
        same_yields = N.same_yields;
        differ = differ _ _ N.path N.differs;
      },
    )

-- two trees of a rule are found
pub ambiguous_found : AmbiguousIsFound
ambiguous_found M name P roots F n r t s A =
    let first : IsWritten M roots t = (n, r, A.first) in
    let second : IsWritten M roots s = (n, r, A.second) in
    let (k, ts, is) = is_node M n None t A.first in
    let (j, ss, are) = is_node M n None s A.second in
    let read_first : written_tree P (lowered_root P most_steps t) ≡ t = F.back_forward t first in
    let read_second : written_tree P (lowered_root P most_steps s) ≡ s = F.back_forward s second in
    none_again roots P (lowered_root P most_steps t) (lowered_root P most_steps s)
    ((F.explains (lowered_root P most_steps t)).1 (n, r, (F.lowered t n r A.first).0)) ((F.explains (lowered_root P most_steps s)).1 (n, r, (F.lowered s n r A.second).0))
    (ap₂ begin_alike read_first read_second ∙ nodes_alike t s n n k j ts ss is are ∙ text_same n)
    (ap yield read_first ∙ A.same_yields ∙ sym (ap yield read_second))
    (tree_difference (written_tree P (lowered_root P most_steps t)) (written_tree P (lowered_root P most_steps s))) refl
    (λ none. A.differ (sym read_first ∙ tree_same _ _ none ∙ read_second))

-- ---- exactly

module _ (M : Meaning) (name : ClosedSymbol → Name) (P : ProductionTable) (roots : Name → Bool) (F : CallsFit M name P roots) where
  -- a derivation tree from a root is read as a node of the rule of that name, with the same yield
  record IsReadAt (n : Name) (u : LoweredTree) : Type 0 where
    number : ℕ
    trees : WrittenTrees
    root : written_tree P u ≡ node n number trees
    same_yields : yield (written_tree P u) ≡ lowered_yield u

  read_at : (n : Name) (u : LoweredTree) → roots n ≡ true → IsDerivation P u (nonterminal_symbol n) → IsReadAt n u
  read_at n u r d =
      let (h, pair) = F.explained u n r d in
      let (k, ts, is) = is_node M n None (written_tree P u) h in
      record { number = k; trees = ts; root = is; same_yields = same_yield M name pair }

  down : (u v : LoweredTree) → findings roots P u v ≡ [] → (n : Name) × (roots n ≡ true) × AreTwoDerivations P (nonterminal_symbol n) u v
  down u v e =
      let N = nothing_in roots P u v e in
      let (n, r, d) = (F.explains u).0 N.first in
      let (m, q, f) = (F.explains v).0 N.second in
      let R = read_at n u r d in
      let Q = read_at m v q f in
      let same : n ≡ m = text_sound n m (sym (nodes_alike _ _ n m R.number Q.number R.trees Q.trees R.root Q.root) ∙ N.alike) in (
        n,
        r,
        record {
          first = d;
          second = subst (λ x. IsDerivation P v (nonterminal_symbol x)) (sym same) f;
          same_yields = sym R.same_yields ∙ N.same_yields ∙ Q.same_yields;
          differ = λ equal. differ _ _ N.path N.differs (ap (written_tree P) equal);
        },
      )

  up : (u v : LoweredTree) → (n : Name) × (roots n ≡ true) × AreTwoDerivations P (nonterminal_symbol n) u v → findings roots P u v ≡ []
  up u v (n, r, A) =
      let first : IsRootedTree roots P u = (n, r, A.first) in
      let second : IsRootedTree roots P v = (n, r, A.second) in
      let R = read_at n u r A.first in
      let Q = read_at n v r A.second in
      none_again roots P u v ((F.explains u).1 first) ((F.explains v).1 second)
      (nodes_alike _ _ n n R.number Q.number R.trees Q.trees R.root Q.root ∙ text_same n) (R.same_yields ∙ A.same_yields ∙ sym Q.same_yields)
      (tree_difference (written_tree P u) (written_tree P v)) refl
      (λ none.
      let same : written_tree P u ≡ written_tree P v = tree_same _ _ none in
      A.differ (sym (F.forward_back u first) ∙ ap (lowered_root P most_steps) same ∙ F.forward_back v second))

pub answered_exactly : AnsweredExactly
answered_exactly M name P roots F u v = (down M name P roots F u v, up M name P roots F u v)
