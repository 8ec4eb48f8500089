-- The headline: what a lowered grammar owes the written one.
use Rattle.std.specs.Prelude.{◌≡◌, ◌↔◌, ℕ, true, List, [], ◌∷◌, ◌++◌, length, Option, Some}
use Rattle.lalrpop_norm_tree_names.specs.declared.names.NonterminalString.{NonterminalString}
use Rattle.lalrpop_norm_tree.specs.Accessors.{is_public}
use Rattle.lalrpop_norm_tree.specs.Items.{RuleData, GrammarData}
use Rattle.lalrpop_norm_tree_parts.specs.Reprs.{ReprData}
use Rattle.lalrpop_norm_theory.specs.Symbols.{Name, ClosedSymbol, Terminal, reference}
use Rattle.lalrpop_norm_theory.specs.Meaning.{Meaning}
use Rattle.lalrpop_norm_theory.specs.LoweredTrees as theory
use Rattle.lalrpop_norm_theory.specs.LoweredTrees.{nonterminal_symbol, from_start}
use Rattle.lalrpop_norm_theory.specs.Rounds.{In}
use Rattle.lalrpop_norm_theory.specs.Met.{expansion, expanded_symbols, IsKnown}
use Rattle.lalrpop_norm_theory.specs.Tables.{Realizes}
use Rattle.lalrpop_norm_theory.specs.Laws.{OneToOne, PairsInTwoSteps, level_named}
use Rattle.lalrpop_norm_conditions.specs.Conditions.{comparison}
use Rattle.lalrpop_norm_model.specs.Features.{Features}
use Rattle.lalrpop_norm_model.specs.Enabled.{enabled_grammar}
use Rattle.lalrpop_norm_model.specs.Scopes.{resolved_grammar}
use Rattle.lalrpop_norm_model.specs.WrittenRules.{written_rules, flat_rules}
use Rattle.lalrpop_norm_model.specs.Grammars.{meaning, references, roots}
use Rattle.lalrpop_norm_model.specs.ClosedTexts.{level_names, text_in}
use Rattle.lalrpop_norm_model.specs.LevelNames.{written_origin}
use Rattle.lalrpop_norm_model.specs.LevelRules.{leveled_grammar}
use Rattle.lalrpop_norm_model.specs.PlainTables.{flat_meaning, declared}
use Rattle.lalrpop_norm_model.specs.PlainRules.{plain_grammar, all_rules}
use Rattle.lalrpop_norm_model.specs.Origins.{action_origins}
use Rattle.lalrpop_norm_model.specs.Lexers.{Lexer}
use Rattle.lalrpop_norm_model.specs.CheckedTokens.{IsChecked}
use Rattle.lalrpop_norm_model.specs.TypeRelation.{IsRule, Has}
use Rattle.lalrpop_norm_repr.specs.Lowered.{LoweredGrammar}
use Rattle.lalrpop_norm_repr.specs.Tables.{TypeTable, type_of, found}
use Rattle.lalrpop_norm_repr.specs.Closed.{IsClosed}
pub use Rattle.lalrpop_norm_tyinfer.specs.Inferred.{IsInferred}
use Rattle.lalrpop_norm_lower.specs.Lowering.{public_rules_in, start_name}
use Rattle.lalrpop_norm_lower.specs.Shape.{IsLoweringOf}
use Rattle.lalrpop_norm_explain.specs.Derivations.{derivations}
use Rattle.lalrpop_norm_explain.specs.TreeFaults.{has_productions}
use Rattle.lalrpop_norm_explain.specs.Anywhere.{IsMeant}
use Rattle.lalrpop_norm.specs.Words.{IsWrittenWord, IsWordOf}

-- ---- the grammars on the way

module _ (fs : Features) (g : GrammarData) where
  -- what trees see of the enabled rules; conditions say what their operators say, patterns being read as `regex` reads them
  abbrev pub written_meaning : Meaning
  written_meaning = meaning comparison (written_rules fs g)

  -- the enabled rules that are no macros, by themselves and within each of their levels
  abbrev pub written_references : List ClosedSymbol
  written_references = references (written_rules fs g)

  abbrev pub written_symbols : List ClosedSymbol
  written_symbols = roots (written_rules fs g) ++ written_references

  -- the known symbols: the written ones, and those for which so many rounds make rules
  abbrev pub IsKnownSymbol : ℕ → ClosedSymbol → Type 0
  IsKnownSymbol rounds = IsKnown written_symbols (expanded_symbols written_meaning written_references rounds)

  -- the text that a written symbol has as its name in the lowered grammar
  abbrev pub written_name : ClosedSymbol → Name
  written_name = text_in (written_rules fs g)

  -- the names of its levels
  abbrev pub names_of_levels : Name → ℕ → Name
  names_of_levels = level_names (written_rules fs g)

  -- the grammar with levels, each enabled rule and macro at its index; what trees see of it, where no rule has levels; and names
  abbrev pub grammar_with_levels : GrammarData
  grammar_with_levels = leveled_grammar (resolved_grammar (enabled_grammar fs g))

  abbrev pub leveled_meaning : Meaning
  leveled_meaning = flat_meaning comparison grammar_with_levels

  abbrev pub leveled_name : ClosedSymbol → Name
  leveled_name = text_in (flat_rules grammar_with_levels)

  -- the expanded grammar, where so many rounds make all
  abbrev pub grammar_of_plain_rules : ℕ → GrammarData
  grammar_of_plain_rules rounds = plain_grammar comparison grammar_with_levels rounds

  -- the origins of the actions of a lowered grammar, in their order: those of the start symbols of its public expanded rules come
  -- first
  abbrev pub origins_of_actions : ℕ → List theory.Origin
  origins_of_actions rounds =
      action_origins (length (public_rules_in (all_rules (grammar_of_plain_rules rounds)))) written_meaning written_references rounds

  -- the name that a written symbol has in the lowered grammar, and that of its start symbol
  abbrev pub lowered_name : ClosedSymbol → NonterminalString
  lowered_name s = record { 0 = written_name s }

  abbrev pub start_of : ClosedSymbol → NonterminalString
  start_of s = start_name g.prefix (lowered_name s)

-- ---- trees

-- the ground symbol is that rule, by itself or within a level
abbrev pub IsSymbolOf : RuleData → ClosedSymbol → Type 0
IsSymbolOf r s = (level : Option ℕ) × (s ≡ reference r.name.0 level)

-- a written grammar, so many rounds of its expansion, and a lowered grammar
module _ (fs : Features) (g : GrammarData) (rounds : ℕ) (l : LoweredGrammar) where
  abbrev M : Meaning
  M = written_meaning fs g

  abbrev name : ClosedSymbol → Name
  name = written_name fs g

  abbrev plain : GrammarData
  plain = grammar_of_plain_rules fs g rounds

  -- the public rules of the expanded grammar: each has a start symbol, and these have the first actions
  abbrev public_rules : List RuleData
  public_rules = public_rules_in (all_rules plain)

  -- the lowered grammar as trees see it, each production with its origin in the written grammar, or with that of start symbols
  abbrev pub traced_derivations : theory.ProductionTable
  traced_derivations = derivations (origins_of_actions fs g rounds) l

  -- each production with its origin in the grammar with levels
  abbrev pub leveled_derivations : theory.ProductionTable
  leveled_derivations =
      derivations (action_origins (length public_rules) (leveled_meaning fs g) (declared (grammar_with_levels fs g)) rounds) l

  -- Of a written symbol, the correspondence of its trees has two steps: each level becomes a rule; then the grammar with levels
  -- is lowered. Each is one to one, and so are both in a row; and a symbol has the same name.
  pub record IsMadeInSteps (s : ClosedSymbol) : Type 0 where
    pub steps : PairsInTwoSteps M (leveled_meaning fs g) (names_of_levels fs g)
        (written_origin comparison (written_rules fs g)) (leveled_name fs g) leveled_derivations s
    pub names : level_named (names_of_levels fs g) (leveled_name fs g) ≡ name

  -- A written symbol has a start symbol: the lowered grammar lists it, its one production is the symbol's name, with the origin
  -- of start symbols, and its words are those of the written symbol.
  pub record HasStart (s : ClosedSymbol) : Type 0 where
    pub listed : found (lowered_name fs g s) l.start_nonterminals ≡ Some (start_of fs g s)
    pub production : traced_derivations (start_of fs g s).0
        ≡ record { origin = from_start; symbols = nonterminal_symbol (lowered_name fs g s).0 ∷ [] } ∷ []
    pub words : (w : List Terminal) → IsWrittenWord M s w ↔ IsWordOf traced_derivations (start_of fs g s).0 w

  -- From each enabled written rule that is no macro, by itself and within each of its levels, the derivation trees of the
  -- lowered grammar correspond one to one to the written ones, with the same terminals and the same alternatives. After so many
  -- rounds nothing is new. Where the rule is public, it has a start symbol, by itself (that is the highest level's) and within
  -- each of its levels, with the words that it has there. The start symbol of each public expanded rule has that rule as its one
  -- production; where a public macro may be called, which `validate` rejects, that says it also of the rules that its calls
  -- generate.
  pub record HasFaithfulTrees : Type 0 where
    pub whole : (expansion M (written_references fs g) rounds).fresh ≡ []
    pub realized : Realizes M name traced_derivations (IsKnownSymbol fs g rounds)
    -- each nonterminal that has productions is that of a known symbol, or a start symbol over one
    pub meant : (n : Name) → has_productions traced_derivations n ≡ true →
        IsMeant name traced_derivations (IsKnownSymbol fs g rounds) n
    pub one_to_one : (s : ClosedSymbol) → In s (written_symbols fs g) → OneToOne M name traced_derivations s
    pub in_steps : (s : ClosedSymbol) → In s (written_symbols fs g) → IsMadeInSteps s
    pub starts : (r : RuleData) → In r (all_rules (enabled_grammar fs g)) → r.args ≡ [] →
        is_public r.visibility ≡ true →
        (s : ClosedSymbol) → In s (written_symbols fs g) → IsSymbolOf r s → HasStart s
    pub plain_starts : (r : RuleData) → In r public_rules →
        traced_derivations (start_name plain.prefix r.name).0
        ≡ record { origin = from_start; symbols = nonterminal_symbol r.name.0 ∷ [] } ∷ []

-- ---- types

-- a name has one derivable type, and the table lists that one
pub record HasOnlyType (plain : GrammarData) (types : TypeTable) (r : RuleData) : Type 0 where
  pub type : ReprData
  pub grounded : Has plain r.name.0 type
  pub only : (other : ReprData) → Has plain r.name.0 other → other ≡ type
  pub listed : type_of r.name types ≡ Some type

-- each nonterminal has its only derivable type, a start symbol that of its rule
pub record HasGroundedTypes (plain : GrammarData) (types : TypeTable) : Type 0 where
  pub rules : (r : RuleData) → IsRule plain r → HasOnlyType plain types r
  pub starts : (r : RuleData) → In r (public_rules_in (all_rules plain)) →
      type_of (start_name plain.prefix r.name) types ≡ type_of r.name types

-- ---- the whole

-- The lowered grammar is the one that the written grammar has, where so many rounds may make rules. Its trees correspond one to
-- one to the written ones, and each enabled public rule that is no macro has its start symbols. The expanded grammar has its
-- tokens: beside an extern enum it stays as it is, else it has its entries and an automaton that the lexer builds for them. Its
-- rules have the inferred types, and over their table it is lowered, in the order of the rules. In the lowered grammar each
-- nonterminal has its only derivable type (in the least fixpoint of the typing rules), and nothing is left open.
pub record IsFaithful {R : Type 0} (lexer : Lexer R) (fs : Features) (limit : ℕ) (g : GrammarData)
    (l : LoweredGrammar) : Type 0 where
  pub trees : HasFaithfulTrees fs g limit l
  pub checked : GrammarData
  pub tokens : IsChecked lexer (grammar_of_plain_rules fs g limit) checked
  pub table : TypeTable
  pub inferred : IsInferred checked table
  pub types : HasGroundedTypes checked l.types
  pub shape : IsLoweringOf checked (all_rules checked) table l
  pub closed : IsClosed l
