-- The two ways, by the laws on the lowered grammar and those of the theory.
use Rattle.std.proofs.Common.{◌≡◌, ◌≤◌, ℕ, List, [], sym, ◌∙◌, subst}
use Rattle.std.specs.Prelude.{Option}
use Rattle.lalrpop_norm_theory.specs.Symbols.{Name, ClosedSymbol, reference}
use Rattle.lalrpop_norm_theory.specs.Meaning.{Meaning, HasCounts, HasLevels}
use Rattle.lalrpop_norm_theory.specs.WrittenTrees.{WrittenTree, IsTreeOf}
use Rattle.lalrpop_norm_theory.specs.LoweredTrees.{ProductionTable}
use Rattle.lalrpop_norm_theory.specs.Clauses.{symbol_of}
use Rattle.lalrpop_norm_theory.specs.Pairs.{Pairs}
use Rattle.lalrpop_norm_theory.specs.Translations.{written_tree}
use Rattle.lalrpop_norm_theory.specs.Met.{IsKnown}
use Rattle.lalrpop_norm_theory.specs.Tables.{Realizes}
use Rattle.lalrpop_norm_theory.proofs.Trees.{translations_inverse}
use Rattle.lalrpop_norm_explain.specs.TreeLowering.{shape_faults, lowered_by}
use Rattle.lalrpop_norm_explain.specs.Laws.{IsRank, FaultlessComesBack, WaysFit, WaysAreInverse, IsNameOf}
use Rattle.lalrpop_norm_explain.proofs.Back.{comes_back}
use Rattle.lalrpop_norm_explain.proofs.Formed.{realized_formed, symbol_visited}
use Rattle.lalrpop_norm_explain.proofs.NoFault.{no_fault}

module _ (M : Meaning) (C : HasCounts M) (V : HasLevels M) (name : ClosedSymbol → Name) (P : ProductionTable) (declared met : List ClosedSymbol)
    (R : Realizes M name P (IsKnown declared met)) (fuel : ℕ)
    (rank : Name → Option ℕ → ℕ) (falls : IsRank M rank)
    (deep : (n : Name) (b : Option ℕ) → IsKnown declared met (reference n b) → rank n b ≤ fuel) (g : ClosedSymbol) (k : IsKnown declared met g) where
  fine : (t : WrittenTree) → IsTreeOf M t g → shape_faults P fuel t (symbol_of name g) ≡ []
  fine t h = no_fault M C V name P declared met R fuel rank falls deep g k t h

  tree : (t : WrittenTree) → shape_faults P fuel t (symbol_of name g) ≡ [] → IsTreeOf M t g
  tree t e =
      let b = comes_back P (IsNameOf name (IsKnown declared met)) (realized_formed M name P declared met R) fuel t (symbol_of name g) (symbol_visited M name P declared met R g k) e in
      subst (λ s. IsTreeOf M s g) b.1 ((translations_inverse M C V name P declared met R g k).back (lowered_by P fuel t (symbol_of name g)) b.0).0

  pairs : (t : WrittenTree) → IsTreeOf M t g → Pairs M name g t (lowered_by P fuel t (symbol_of name g))
  pairs t h =
      let b = comes_back P (IsNameOf name (IsKnown declared met)) (realized_formed M name P declared met R) fuel t (symbol_of name g) (symbol_visited M name P declared met R g k) (fine t h) in
      subst (λ s. Pairs M name g s (lowered_by P fuel t (symbol_of name g))) b.1 ((translations_inverse M C V name P declared met R g k).back (lowered_by P fuel t (symbol_of name g)) b.0).1

  pub ways_fit : WaysFit M name P fuel g
  ways_fit = record {
    exact = λ t. (tree t, fine t);
    paired = pairs;
    back_forward = λ t h. (comes_back P (IsNameOf name (IsKnown declared met)) (realized_formed M name P declared met R) fuel t (symbol_of name g) (symbol_visited M name P declared met R g k) (fine t h)).1;
    forward_back = λ u d.
        let fit = translations_inverse M C V name P declared met R g k in
        let b = fit.back u d in
        sym (fit.paired (written_tree P u) (lowered_by P fuel (written_tree P u) (symbol_of name g)) (pairs (written_tree P u) b.0)).0
        ∙ (fit.paired (written_tree P u) u b.1).0;
  }

pub ways_inverse : WaysAreInverse
ways_inverse M C V name P declared met R fuel rank falls deep g k = ways_fit M C V name P declared met R fuel rank falls deep g k

pub known_comes_back : FaultlessComesBack
known_comes_back M name P declared met R g k fuel t e =
    comes_back P (IsNameOf name (IsKnown declared met)) (realized_formed M name P declared met R) fuel t (symbol_of name g) (symbol_visited M name P declared met R g k) e
