-- Lowered grammars in which nothing is left open.
use Rattle.std.specs.Prelude.{◌≡◌, ℕ, List, length, All, Contains, Some, IsSome, slice_get}
use Rattle.std.specs.List.{AllZip}
use Rattle.lalrpop_norm_tree_names.specs.declared.names.NonterminalString.{NonterminalString}
use Rattle.lalrpop_norm_tree_names.specs.declared.names.TerminalString.{TerminalString}
use Rattle.lalrpop_norm_repr.specs.declared.symbol.Symbol.{Symbol}
use Rattle.lalrpop_norm_repr.specs.declared.symbol.Symbol.TheVariants.{Nonterminal, Terminal}
use Rattle.lalrpop_norm_repr.specs.Actions.{ActionData, ActionKindData, user, inline, lookaround}
use Rattle.lalrpop_norm_repr.specs.Lookups.{action_of}
use Rattle.lalrpop_norm_repr.specs.Lowered.{LoweredGrammar}
use Rattle.lalrpop_norm_repr.specs.Productions.{ProductionData, EntryData}
use Rattle.lalrpop_norm_repr.specs.SymbolTypes.{symbol_type}
use Rattle.lalrpop_norm_repr.specs.Tables.{TypeTable, type_of, found, found_terminal}

-- a nonterminal with an entry and a type, or a terminal of the grammar
abbrev pub IsDefined : LoweredGrammar → Symbol → Type 0
IsDefined g (Nonterminal n) = IsSome (found n g.nonterminals) × IsSome (type_of n g.types)
IsDefined g (Terminal t) = Contains g.terminals.all t

-- code over one pattern and one type for each symbol, the type being the symbol's
abbrev pub HasArguments : TypeTable → List Symbol → ActionKindData → Type 0
HasArguments types symbols (user patterns arguments code) =
    (length patterns ≡ length symbols) × AllZip (λ s t. symbol_type s types ≡ Some t) symbols arguments
HasArguments types symbols (inline a ss) = Unit {0}
HasArguments types symbols (lookaround k) = Unit {0}

-- a production of that nonterminal, of which nothing is left open
pub record IsClosedProduction (g : LoweredGrammar) (n : NonterminalString) (p : ProductionData) : Type 0 where
  pub nonterminal : p.nonterminal ≡ n
  pub symbols : All (IsDefined g) p.symbols
  -- the action has a number of the grammar, answers the nonterminal's type, and has an argument for each symbol
  pub action : ActionData
  pub numbered : action_of p.action g ≡ Some action
  pub answers : type_of n g.types ≡ Some action.ret_type
  pub arguments : HasArguments g.types p.symbols action.kind

abbrev pub IsClosedEntry : LoweredGrammar → NonterminalString × EntryData → Type 0
IsClosedEntry g r = All (IsClosedProduction g r.0) r.1.productions

-- each production is closed, and each terminal has its index as its number, and none occurs twice
pub record IsClosed (g : LoweredGrammar) : Type 0 where
  pub productions : All (IsClosedEntry g) g.nonterminals
  pub numbers : (t : TerminalString) (i : ℕ) → slice_get g.terminals.all i ≡ Some t →
      found_terminal t g.terminals.bits ≡ Some i
  pub distinct : (t : TerminalString) (i j : ℕ) → slice_get g.terminals.all i ≡ Some t →
      slice_get g.terminals.all j ≡ Some t → i ≡ j
