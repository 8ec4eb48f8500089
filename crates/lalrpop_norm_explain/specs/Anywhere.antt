-- What `explain_at` owes: trees that begin at any nonterminal.
use Rattle.std.specs.Prelude.{◌≡◌, ◌↔◌, ◌⊎◌, true, List, [], ◌∷◌}
use Rattle.lalrpop_norm_theory.specs.Symbols.{Name, ClosedSymbol}
use Rattle.lalrpop_norm_theory.specs.Meaning.{Meaning, HasCounts, HasLevels}
use Rattle.lalrpop_norm_theory.specs.WrittenTrees.{WrittenTree, IsTreeOf}
use Rattle.lalrpop_norm_theory.specs.LoweredTrees.{ProductionTable, LoweredTree, lowered_node, no_lowered, lowered_and}
use Rattle.lalrpop_norm_theory.specs.LoweredTrees.{nonterminal_symbol, from_start, IsDerivation}
use Rattle.lalrpop_norm_theory.specs.Translations.{written_tree}
use Rattle.lalrpop_norm_theory.specs.Pairs.{Pairs}
use Rattle.lalrpop_norm_theory.specs.Met.{IsKnown}
use Rattle.lalrpop_norm_theory.specs.Clauses.{symbol_of}
use Rattle.lalrpop_norm_theory.specs.Tables.{Realizes}
use Rattle.lalrpop_norm_theory.specs.Laws.{ExactlyOne}
use Rattle.lalrpop_norm_explain.specs.TreeFaults.{explain_faults, has_productions}
use Rattle.lalrpop_norm_explain.specs.Forms.{production}

-- a derivation tree of some nonterminal
abbrev pub IsDerivationTree : ProductionTable → LoweredTree → Type 0
IsDerivationTree P u = (n : Name) × IsDerivation P u (nonterminal_symbol n)

-- Where trees may begin at each nonterminal that has productions, exactly the derivation trees of nonterminals have no fault.
abbrev pub FaultlessIsDerived : Type 0
FaultlessIsDerived = (P : ProductionTable) (u : LoweredTree) →
    (explain_faults (has_productions P) P u ≡ []) ↔ IsDerivationTree P u

-- the nonterminal of a ground symbol
abbrev pub IsNonterminalOf : (ClosedSymbol → Name) → ClosedSymbol → Name → Type 0
IsNonterminalOf name g n = symbol_of name g ≡ nonterminal_symbol n

-- the one production of a start symbol is that nonterminal
abbrev pub IsStartOf : ProductionTable → Name → Name → Type 0
IsStartOf P start n = P start ≡ production from_start (nonterminal_symbol n ∷ []) ∷ []

-- What the origins make of u is a tree of g, and corresponds to v there.
abbrev pub IsReadAt : Meaning → (ClosedSymbol → Name) → ProductionTable → ClosedSymbol → LoweredTree → LoweredTree → Type 0
IsReadAt M name P g u v = IsTreeOf M (written_tree P u) g × Pairs M name g (written_tree P u) v

-- The call whose trees begin at any nonterminal. If two symbols have one nonterminal, as a rule by itself and its highest level,
-- its trees are read as trees of both.
pub record CallFitsAnywhere (M : Meaning) (name : ClosedSymbol →
    Name) (P : ProductionTable) (Known : ClosedSymbol → Type 0) : Type 0 where
  -- no fault is found exactly in derivation trees of nonterminals
  pub explains : (u : LoweredTree) → (explain_faults (has_productions P) P u ≡ []) ↔ IsDerivationTree P u
  -- One of a known symbol's nonterminal is read as the corresponding tree of that symbol.
  pub explained : (g : ClosedSymbol) (n : Name) → Known g → IsNonterminalOf name g n → (u : LoweredTree) →
      IsDerivation P u (nonterminal_symbol n) → IsReadAt M name P g u u
  -- Each tree of the symbol is read of exactly one of them.
  pub once : (g : ClosedSymbol) (n : Name) → Known g → IsNonterminalOf name g n → (t : WrittenTree) → IsTreeOf M t g →
      ExactlyOne (λ u. IsDerivation P u (nonterminal_symbol n) × (written_tree P u ≡ t))
  -- One of a start symbol is a node over a tree of its rule, and is read as that.
  pub started : (start : Name) (g : ClosedSymbol) (n : Name) → IsStartOf P start n → Known g → IsNonterminalOf name g n →
      (u : LoweredTree) → IsDerivation P u (nonterminal_symbol start) →
      (v : LoweredTree) × (u ≡ lowered_node start 0 (lowered_and v no_lowered))
      × IsDerivation P v (nonterminal_symbol n) × IsReadAt M name P g u v

-- The call fits where the grammar realizes a written one.
abbrev pub RealizedCallFitsAnywhere : Type 0
RealizedCallFitsAnywhere = (M : Meaning) → HasCounts M → HasLevels M →
    (name : ClosedSymbol → Name) (P : ProductionTable) (declared met : List ClosedSymbol) →
    Realizes M name P (IsKnown declared met) → CallFitsAnywhere M name P (IsKnown declared met)

-- ---- whatever the root is

-- The name is the nonterminal of a known symbol, or a start symbol over such a nonterminal.
abbrev pub IsMeant : (ClosedSymbol → Name) → ProductionTable → (ClosedSymbol → Type 0) → Name → Type 0
IsMeant name P Known n = (g : ClosedSymbol) × (m : Name) × Known g × IsNonterminalOf name g m × ((n ≡ m) ⊎ IsStartOf P n m)

-- v is u, or u is a node over v alone
abbrev pub IsOrIsOver : LoweredTree → LoweredTree → Type 0
IsOrIsOver u v = (u ≡ v) ⊎ ((start : Name) × (u ≡ lowered_node start 0 (lowered_and v no_lowered)))

-- What the origins make of u is a tree of a known symbol, and corresponds to u, or to the child of a start symbol.
abbrev pub IsReadAnywhere : Meaning → (ClosedSymbol → Name) → ProductionTable → (ClosedSymbol → Type 0) → LoweredTree → Type 0
IsReadAnywhere M name P Known u =
    (g : ClosedSymbol) × (v : LoweredTree) × Known g × IsOrIsOver u v × IsReadAt M name P g u v

-- Where the grammar realizes a written one, and each nonterminal that has productions is meant, each tree without a fault is read
-- as a tree of a known symbol.
abbrev pub FaultlessIsReadAnywhere : Type 0
FaultlessIsReadAnywhere = (M : Meaning) → HasCounts M → HasLevels M →
    (name : ClosedSymbol → Name) (P : ProductionTable) (declared met : List ClosedSymbol) →
    Realizes M name P (IsKnown declared met) →
    ((n : Name) → has_productions P n ≡ true → IsMeant name P (IsKnown declared met) n) →
    (u : LoweredTree) → explain_faults (has_productions P) P u ≡ [] → IsReadAnywhere M name P (IsKnown declared met) u
