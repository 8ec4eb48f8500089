-- The way back: what the translations of trees owe the written grammar.
use Rattle.std.specs.Prelude.{◌≡◌, ◌↔◌, ◌<◌, ◌^◌, ℕ, Bool, true, [], Option, None}
use Rattle.lalrpop_norm_tree.specs.Items.{GrammarData}
use Rattle.lalrpop_norm_theory.specs.Symbols.{Name, ClosedSymbol, reference}
use Rattle.lalrpop_norm_theory.specs.Meaning.{Meaning}
use Rattle.lalrpop_norm_theory.specs.LoweredTrees.{nonterminal_symbol}
use Rattle.lalrpop_norm_theory.specs.Clauses.{symbol_of}
use Rattle.lalrpop_norm_theory.specs.Rounds.{In}
use Rattle.lalrpop_norm_theory.specs.LoweredTrees.{ProductionTable, LoweredTree}
use Rattle.lalrpop_norm_model.specs.Features.{Features}
use Rattle.lalrpop_norm_model.specs.WrittenRules.{written_rules}
use Rattle.lalrpop_norm_model.specs.Grammars.{roots}
use Rattle.lalrpop_norm_repr.specs.Lowered.{LoweredGrammar}
use Rattle.lalrpop_norm_explain.specs.Laws.{CallsFit}
use Rattle.lalrpop_norm_explain.specs.Anywhere.{CallFitsAnywhere, IsMeant, IsReadAnywhere}
use Rattle.lalrpop_norm_explain.specs.TreeFaults.{explain_faults, has_productions}
use Rattle.lalrpop_norm_ambiguity.specs.Ambiguities.{IsAmbiguous, IsAmbiguousIn}
use Rattle.lalrpop_norm.specs.Faithful.{HasFaithfulTrees, IsKnownSymbol, written_meaning, written_name, written_symbols}
use Rattle.lalrpop_norm.specs.Faithful.{traced_derivations}

-- these are the names of the enabled rules that are no macros: trees may begin there
abbrev pub AreRoots : Features → GrammarData → (Name → Bool) → Type 0
AreRoots fs g is_rule = (n : Name) → (is_rule n ≡ true) ↔ In (reference n None) (roots (written_rules fs g))

-- The level of each reference to an enabled rule that is no macro is a number of 32 bits.
abbrev pub LevelsAreNarrow : Type 0
LevelsAreNarrow = (fs : Features) (g : GrammarData) (n : Name) (b : Option ℕ) →
    In (reference n b) (written_symbols fs g) → (written_meaning fs g).depth n b < 2 ^ 32

-- Over a lowered grammar with faithful trees, each action with its origin, both translations fit the written grammar, where trees
-- may begin at its enabled rules that are no macros.
abbrev pub TracedCallsFit : Type 0
TracedCallsFit = (fs : Features) (g : GrammarData) (rounds : ℕ) (l : LoweredGrammar) → HasFaithfulTrees fs g rounds l →
    (is_rule : Name → Bool) → AreRoots fs g is_rule →
    CallsFit (written_meaning fs g) (written_name fs g) (traced_derivations fs g rounds l) is_rule

-- `explain_at` over a lowered grammar: it fits at each known symbol of the written one; each nonterminal that has productions is
-- that of a known symbol, or a start symbol over one; so each tree without a fault is read as a tree of a known symbol.
pub record FitsAnywhere (fs : Features) (g : GrammarData) (rounds : ℕ) (P : ProductionTable) : Type 0 where
  pub call : CallFitsAnywhere (written_meaning fs g) (written_name fs g) P (IsKnownSymbol fs g rounds)
  pub meant : (n : Name) → has_productions P n ≡ true → IsMeant (written_name fs g) P (IsKnownSymbol fs g rounds) n
  pub read : (u : LoweredTree) → explain_faults (has_productions P) P u ≡ [] →
      IsReadAnywhere (written_meaning fs g) (written_name fs g) P (IsKnownSymbol fs g rounds) u

-- Over a lowered grammar with faithful trees, each action with its origin, `explain_at` fits the written grammar.
abbrev pub TracedCallFitsAnywhere : Type 0
TracedCallFitsAnywhere = (fs : Features) (g : GrammarData) (rounds : ℕ) (l : LoweredGrammar) → HasFaithfulTrees fs g rounds l →
    FitsAnywhere fs g rounds (traced_derivations fs g rounds l)

-- Each enabled written rule that is no macro is ambiguous as written if and only if its name is ambiguous in the lowered grammar;
-- likewise the rule within each of its levels.
pub record HasSameAmbiguities (fs : Features) (g : GrammarData) (rounds : ℕ) (l : LoweredGrammar) : Type 0 where
  pub rules : (n : Name) → In (reference n None) (roots (written_rules fs g)) →
      IsAmbiguous (written_meaning fs g) (reference n None)
      ↔ IsAmbiguousIn (traced_derivations fs g rounds l) (nonterminal_symbol n)
  pub levels : (s : ClosedSymbol) → In s (written_symbols fs g) →
      IsAmbiguous (written_meaning fs g) s
      ↔ IsAmbiguousIn (traced_derivations fs g rounds l) (symbol_of (written_name fs g) s)

-- It is so in each lowered grammar with faithful trees.
abbrev pub RulesAreAmbiguousExactly : Type 0
RulesAreAmbiguousExactly = (fs : Features) (g : GrammarData) (rounds : ℕ) (l : LoweredGrammar) →
    HasFaithfulTrees fs g rounds l → HasSameAmbiguities fs g rounds l
