-- What no fault means, each statement in one piece.
use Rattle.std.specs.Prelude.{◌≡◌, ◌↔◌, ◌≤◌, ◌<◌, Some, Option, ℕ, Bool, true, List, [], None}
use Rattle.lalrpop_norm_theory.specs.Symbols.{Name, ClosedSymbol, reference}
use Rattle.lalrpop_norm_theory.specs.Meaning.{Meaning, HasCounts, HasLevels}
use Rattle.lalrpop_norm_theory.specs.WrittenTrees.{WrittenTree, IsTreeOf}
use Rattle.lalrpop_norm_theory.specs.LoweredTrees.{ProductionTable, LoweredTree, nonterminal_symbol, IsDerivation}
use Rattle.lalrpop_norm_theory.specs.Translations.{written_tree}
use Rattle.lalrpop_norm_theory.specs.Pairs.{Pairs}
use Rattle.lalrpop_norm_theory.specs.Met.{IsKnown}
use Rattle.lalrpop_norm_theory.specs.Clauses.{symbol_of, IsNonterminal}
use Rattle.lalrpop_norm_theory.specs.Tables.{Realizes}
use Rattle.lalrpop_norm_explain.specs.TreeFaults.{explain_faults}
use Rattle.lalrpop_norm_explain.specs.Forms.{IsFormedIn}
use Rattle.lalrpop_norm_explain.specs.Plans.{most_steps}
use Rattle.lalrpop_norm_explain.specs.TreeLowering.{shape_faults, lowered_by, lower_faults, lowered_root}
use Rattle.lalrpop_norm_explain.specs.WrittenShapes.{misshapen, written_faults}

-- a derivation tree of a name at which trees may begin
abbrev pub IsRootedTree : (Name → Bool) → ProductionTable → LoweredTree → Type 0
IsRootedTree roots P u = (n : Name) × (roots n ≡ true) × IsDerivation P u (nonterminal_symbol n)

-- A lowered tree has no fault exactly where it is a derivation tree of a name at which trees may begin.
abbrev pub FaultlessIsRooted : Type 0
FaultlessIsRooted = (roots : Name → Bool) (P : ProductionTable) (u : LoweredTree) →
    (explain_faults roots P u ≡ []) ↔ IsRootedTree roots P u

-- Where the grammar realizes a written one whose rules, each taken by itself, are under their own names, what the origins make
-- of a tree without a fault is a tree of such a rule, the corresponding one.
abbrev pub FaultlessIsPaired : Type 0
FaultlessIsPaired = (M : Meaning) → HasCounts M → HasLevels M →
    (name : ClosedSymbol → Name) (P : ProductionTable) (declared met : List ClosedSymbol) →
    Realizes M name P (IsKnown declared met) →
    (roots : Name → Bool) →
    ((n : Name) → roots n ≡ true → IsKnown declared met (reference n None) × (name (reference n None) ≡ n)) →
    (u : LoweredTree) → explain_faults roots P u ≡ [] →
    (n : Name) × (roots n ≡ true) × IsTreeOf M (written_tree P u) (reference n None)
    × Pairs M name (reference n None) (written_tree P u) u

-- In a grammar that realizes a written one, a written tree without a fault at a known symbol is lowered to a derivation tree of
-- it, of which the origins make the written tree again.
abbrev pub FaultlessComesBack : Type 0
FaultlessComesBack = (M : Meaning) (name : ClosedSymbol → Name) (P : ProductionTable) (declared met : List ClosedSymbol) →
    Realizes M name P (IsKnown declared met) → (g : ClosedSymbol) → IsKnown declared met g →
    (fuel : ℕ) (t : WrittenTree) → shape_faults P fuel t (symbol_of name g) ≡ [] →
    IsDerivation P (lowered_by P fuel t (symbol_of name g)) (symbol_of name g)
    × (written_tree P (lowered_by P fuel t (symbol_of name g)) ≡ t)

-- a number that falls from level to level
abbrev pub IsRank : Meaning → (Name → Option ℕ → ℕ) → Type 0
IsRank M rank = (n : Name) (b c : Option ℕ) → M.previous n b ≡ Some c → rank n c < rank n b

-- Where the grammar realizes a written one, and no rule has more levels than the fuel, a tree of a known symbol has no fault.
abbrev pub TreesHaveNoFault : Type 0
TreesHaveNoFault = (M : Meaning) → HasCounts M → HasLevels M →
    (name : ClosedSymbol → Name) (P : ProductionTable) (declared met : List ClosedSymbol) →
    Realizes M name P (IsKnown declared met) →
    (fuel : ℕ) → (rank : Name → Option ℕ → ℕ) → IsRank M rank →
    ((n : Name) (b : Option ℕ) → IsKnown declared met (reference n b) → rank n b ≤ fuel) →
    (g : ClosedSymbol) → IsKnown declared met g → (t : WrittenTree) → IsTreeOf M t g →
    shape_faults P fuel t (symbol_of name g) ≡ []

-- In any meaning a tree has no fault exactly where it is one of the ground symbol.
abbrev pub ShapedAreTrees : Type 0
ShapedAreTrees = (M : Meaning) (t : WrittenTree) (g : ClosedSymbol) → (misshapen M t g ≡ []) ↔ IsTreeOf M t g

-- Where the grammar realizes a written one, and no rule has more levels than the fuel, the faults of a tree at a known symbol are
-- those of the written language.
abbrev pub FaultsAreWritten : Type 0
FaultsAreWritten = (M : Meaning) → HasCounts M → HasLevels M →
    (name : ClosedSymbol → Name) (P : ProductionTable) (declared met : List ClosedSymbol) →
    Realizes M name P (IsKnown declared met) →
    (fuel : ℕ) → (rank : Name → Option ℕ → ℕ) → IsRank M rank →
    ((n : Name) (b : Option ℕ) → IsKnown declared met (reference n b) → rank n b ≤ fuel) →
    (g : ClosedSymbol) → IsKnown declared met g → (t : WrittenTree) →
    shape_faults P fuel t (symbol_of name g) ≡ misshapen M t g

-- Both ways, of a grammar that realizes a written one: at a known symbol a written tree has no fault exactly where it is one of
-- the symbol's, and then it corresponds to what it is lowered to; and each way undoes the other.
pub record WaysFit (M : Meaning) (name : ClosedSymbol → Name) (P : ProductionTable) (fuel : ℕ) (g : ClosedSymbol) : Type 0 where
  pub exact : (t : WrittenTree) → (shape_faults P fuel t (symbol_of name g) ≡ []) ↔ IsTreeOf M t g
  pub paired : (t : WrittenTree) → IsTreeOf M t g → Pairs M name g t (lowered_by P fuel t (symbol_of name g))
  pub back_forward : (t : WrittenTree) → IsTreeOf M t g → written_tree P (lowered_by P fuel t (symbol_of name g)) ≡ t
  pub forward_back : (u : LoweredTree) → IsDerivation P u (symbol_of name g) →
      lowered_by P fuel (written_tree P u) (symbol_of name g) ≡ u

abbrev pub WaysAreInverse : Type 0
WaysAreInverse = (M : Meaning) → HasCounts M → HasLevels M →
    (name : ClosedSymbol → Name) (P : ProductionTable) (declared met : List ClosedSymbol) →
    Realizes M name P (IsKnown declared met) →
    (fuel : ℕ) → (rank : Name → Option ℕ → ℕ) → IsRank M rank →
    ((n : Name) (b : Option ℕ) → IsKnown declared met (reference n b) → rank n b ≤ fuel) →
    (g : ClosedSymbol) → IsKnown declared met g → WaysFit M name P fuel g

-- a name of a known symbol that has a rule
abbrev pub IsNameOf : (ClosedSymbol → Name) → (ClosedSymbol → Type 0) → Name → Type 0
IsNameOf name Known n = (g : ClosedSymbol) × IsNonterminal g × Known g × (name g ≡ n)

-- A grammar that realizes a written one is formed, as far as names of known symbols are visited.
abbrev pub RealizedIsFormed : Type 0
RealizedIsFormed = (M : Meaning) (name : ClosedSymbol → Name) (P : ProductionTable) (declared met : List ClosedSymbol) →
    Realizes M name P (IsKnown declared met) → IsFormedIn P (IsNameOf name (IsKnown declared met))

-- ---- the two calls

-- a tree of a rule at whose name trees may begin
abbrev pub IsWritten : Meaning → (Name → Bool) → WrittenTree → Type 0
IsWritten M roots t = (n : Name) × (roots n ≡ true) × IsTreeOf M t (reference n None)

-- The two calls. Each finds no fault exactly in the trees of its grammar, and answers the corresponding tree, of the same name;
-- each undoes the other. The faults of a written tree are those of the written language.
pub record CallsFit (M : Meaning) (name : ClosedSymbol → Name) (P : ProductionTable) (roots : Name → Bool) : Type 0 where
  pub explains : (u : LoweredTree) → (explain_faults roots P u ≡ []) ↔ IsRootedTree roots P u
  pub explained : (u : LoweredTree) (n : Name) → roots n ≡ true → IsDerivation P u (nonterminal_symbol n) →
      IsTreeOf M (written_tree P u) (reference n None) × Pairs M name (reference n None) (written_tree P u) u
  pub lowers : (t : WrittenTree) → lower_faults roots P most_steps t ≡ written_faults M roots t
  pub written : (t : WrittenTree) → (written_faults M roots t ≡ []) ↔ IsWritten M roots t
  pub lowered : (t : WrittenTree) (n : Name) → roots n ≡ true → IsTreeOf M t (reference n None) →
      IsDerivation P (lowered_root P most_steps t) (nonterminal_symbol n)
      × Pairs M name (reference n None) t (lowered_root P most_steps t)
  pub back_forward : (t : WrittenTree) → IsWritten M roots t → written_tree P (lowered_root P most_steps t) ≡ t
  pub forward_back : (u : LoweredTree) → IsRootedTree roots P u → lowered_root P most_steps (written_tree P u) ≡ u
  -- corresponding trees are the answers to one another
  pub paired : (t : WrittenTree) (u : LoweredTree) (n : Name) → roots n ≡ true → Pairs M name (reference n None) t u →
      (written_tree P u ≡ t) × (lowered_root P most_steps t ≡ u)

-- The calls fit where the grammar realizes a written one whose rules, each taken by itself, are under their own names, and whose
-- levels are numbers of 32 bits.
abbrev pub RealizedCallsFit : Type 0
RealizedCallsFit = (M : Meaning) → HasCounts M → HasLevels M →
    (name : ClosedSymbol → Name) (P : ProductionTable) (declared met : List ClosedSymbol) →
    Realizes M name P (IsKnown declared met) →
    ((n : Name) (b : Option ℕ) → IsKnown declared met (reference n b) → M.depth n b ≤ most_steps) →
    (roots : Name → Bool) →
    ((n : Name) → roots n ≡ true → IsKnown declared met (reference n None) × (name (reference n None) ≡ n)) →
    CallsFit M name P roots
