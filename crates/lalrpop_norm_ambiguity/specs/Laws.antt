-- What two trees show, each statement in one piece.
use Rattle.std.specs.Prelude.{◌≡◌, ◌↔◌, ℕ, Bool, true, List, [], Option, Some, None, Ok}
use Rattle.lalrpop_norm_theory.specs.Symbols.{Name, ClosedSymbol, reference}
use Rattle.lalrpop_norm_theory.specs.Meaning.{Meaning}
use Rattle.lalrpop_norm_theory.specs.WrittenTrees.{WrittenTree, IsTreeOf, yield}
use Rattle.lalrpop_norm_theory.specs.LoweredTrees.{LoweredTree, ProductionTable, nonterminal_symbol}
use Rattle.lalrpop_norm_theory.specs.Clauses.{symbol_of}
use Rattle.lalrpop_norm_theory.specs.Translations.{written_tree}
use Rattle.lalrpop_norm_theory.specs.Laws.{OneToOne}
use Rattle.lalrpop_norm_explain.specs.Laws.{CallsFit}
use Rattle.lalrpop_norm_explain.specs.Plans.{most_steps}
use Rattle.lalrpop_norm_explain.specs.TreeLowering.{lowered_root}
use Rattle.lalrpop_norm_ambiguity.specs.Ambiguities.{AreTwoTrees, IsAmbiguous, AreTwoDerivations, IsAmbiguousIn, IsAt}
use Rattle.lalrpop_norm_ambiguity.specs.Differences.{tree_difference}
use Rattle.lalrpop_norm_ambiguity.specs.Findings.{findings, Answers}
use Rattle.lalrpop_norm_ambiguity.specs.declared.check.TwoReadings.{TwoReadings}
use Rattle.lalrpop_norm_explain.specs.Trees.{written_view}

-- Where both calls fit a meaning: if nothing is found in two derivation trees, then they are read as two different written trees
-- with one yield, both of one rule at whose name trees may begin.
abbrev pub FoundIsAmbiguous : Type 0
FoundIsAmbiguous = (M : Meaning) (name : ClosedSymbol → Name) (P : ProductionTable) (roots : Name → Bool) → CallsFit M name P roots →
    (u v : LoweredTree) → findings roots P u v ≡ [] →
    (n : Name) × (roots n ≡ true) × AreTwoTrees M (reference n None) (written_tree P u) (written_tree P v)

-- There, an answer has two different written trees with one yield, both of one such rule.
abbrev pub AnswersShow : Type 0
AnswersShow = (M : Meaning) (name : ClosedSymbol → Name) (P : ProductionTable) (roots : Name → Bool) → CallsFit M name P roots →
    (u v : LoweredTree) (a : TwoReadings) → Answers (Ok a) roots P u v →
    (n : Name) × (roots n ≡ true) × AreTwoTrees M (reference n None) (written_view a.first) (written_view a.second)

-- There, if two different written trees of such a rule have one yield, then nothing is found in the trees that they are lowered
-- to: each ambiguity can be shown.
abbrev pub AmbiguousIsFound : Type 0
AmbiguousIsFound = (M : Meaning) (name : ClosedSymbol → Name) (P : ProductionTable) (roots : Name → Bool) → CallsFit M name P roots →
    (n : Name) → roots n ≡ true → (t s : WrittenTree) → AreTwoTrees M (reference n None) t s →
    findings roots P (lowered_root P most_steps t) (lowered_root P most_steps s) ≡ []

-- There, nothing is found in two trees if and only if they are two different derivation trees of one such name, with one yield.
abbrev pub AnsweredExactly : Type 0
AnsweredExactly = (M : Meaning) (name : ClosedSymbol → Name) (P : ProductionTable) (roots : Name → Bool) → CallsFit M name P roots →
    (u v : LoweredTree) →
    (findings roots P u v ≡ []) ↔ ((n : Name) × (roots n ≡ true) × AreTwoDerivations P (nonterminal_symbol n) u v)

-- The difference of two written trees of a symbol with one yield leads to two trees that are different again, of one symbol, with
-- one yield.
abbrev pub DifferencesAreAmbiguous : Type 0
DifferencesAreAmbiguous = (M : Meaning) (g : ClosedSymbol) (t s : WrittenTree) → AreTwoTrees M g t s →
    (p : List ℕ) → tree_difference t s ≡ Some p →
    (h : ClosedSymbol) × (a : WrittenTree) × (b : WrittenTree) × IsAt p t a × IsAt p s b × AreTwoTrees M h a b

-- If the trees of a ground symbol correspond one to one, then it is ambiguous in the written grammar if and only if its name is
-- in the lowered one.
abbrev pub AmbiguousExactly : Type 0
AmbiguousExactly = (M : Meaning) (name : ClosedSymbol → Name) (P : ProductionTable) (g : ClosedSymbol) → OneToOne M name P g →
    IsAmbiguous M g ↔ IsAmbiguousIn P (symbol_of name g)
