-- What normalization owes a written grammar under a session: under the features that are on, where the session says how many rounds of
-- the expansion may make rules.
use Rattle.std.specs.Prelude.{Bool, List, [], flat_map}
use Rattle.lalrpop_norm_tree_names.specs.declared.names.NonterminalString.{NonterminalString}
use Rattle.lalrpop_norm_tree.specs.Items.{GrammarData, grammar_view}
use Rattle.lalrpop_norm_tree.specs.declared.items.Grammar.{Grammar}
use Rattle.lalrpop_norm_faults.specs.Faults.{Fault, Finding}
use Rattle.lalrpop_norm_theory.specs.LoweredTrees.{Origin, ProductionTable}
use Rattle.lalrpop_norm_theory.specs.Symbols.{Name}
use Rattle.lalrpop_norm_model.specs.Enabled.{enabled_grammar}
use Rattle.lalrpop_norm_model.specs.LexerFaults.{LexerPlace}
use Rattle.lalrpop_norm_model.specs.Lexers.{Lexer}
use Rattle.lalrpop_norm_common.specs.Sessions.{features_view}
use Rattle.lalrpop_norm_common.specs.declared.session.Session.{Session}
use Rattle.lalrpop_norm_repr.specs.Lowered.{LoweredGrammar}
use Rattle.lalrpop_norm_explain.specs.Laws.{CallsFit}
use Rattle.lalrpop_norm.specs.Faithful.{IsFaithful, grammar_of_plain_rules, origins_of_actions, written_meaning, written_name}
use Rattle.lalrpop_norm.specs.Normalize.{StandsThere, early_faults, normalize_findings}
use Rattle.lalrpop_norm.specs.PlainLaws.{PassesExpansion}
use Rattle.lalrpop_norm.specs.Roots.{plain_names, with_rule_names}
use Rattle.lalrpop_norm.specs.TracedLists.{lists_of_plain_rules}
use Rattle.lalrpop_norm.specs.WayBack.{AreRoots, FitsAnywhere}

module _ {L : Type 0} (session : Session L) (grammar : Grammar) where
  -- what its passes look for, in their order
  abbrev pub findings_under : List (Finding LexerPlace)
  findings_under = normalize_findings (features_view session.features) session.macro_recursion_limit (grammar_view grammar)

  -- what holds where an error of the lexer may go unreported
  abbrev pub StandsUnder : {R : Type 0} → Lexer R → LexerPlace → Fault → Type 0
  StandsUnder lexer = StandsThere lexer (features_view session.features) session.macro_recursion_limit (grammar_view grammar)

  -- the lowered grammar is the one that it has
  abbrev pub IsFaithfulUnder : {R : Type 0} → Lexer R → LoweredGrammar → Type 0
  IsFaithfulUnder lexer = IsFaithful lexer (features_view session.features) session.macro_recursion_limit (grammar_view grammar)

  -- the origins of the actions of that one
  abbrev pub origins_under : List Origin
  origins_under = origins_of_actions (features_view session.features) (grammar_view grammar) session.macro_recursion_limit

  -- trees may begin at its enabled rules that are no macros
  abbrev pub AreRootsUnder : (Name → Bool) → Type 0
  AreRootsUnder = AreRoots (features_view session.features) (grammar_view grammar)

  -- both translations of trees fit it
  abbrev pub CallsFitUnder : ProductionTable → (Name → Bool) → Type 0
  CallsFitUnder = CallsFit (written_meaning (features_view session.features) (grammar_view grammar))
      (written_name (features_view session.features) (grammar_view grammar))

  -- and `explain_at` does, at each nonterminal
  abbrev pub FitsAnywhereUnder : ProductionTable → Type 0
  FitsAnywhereUnder = FitsAnywhere (features_view session.features) (grammar_view grammar) session.macro_recursion_limit

  -- ---- up to the expansion

  abbrev pub early_faults_under : List Fault
  early_faults_under = early_faults (features_view session.features) session.macro_recursion_limit (grammar_view grammar)

  abbrev pub PassesExpansionUnder : Type 0
  PassesExpansionUnder = PassesExpansion (features_view session.features) (grammar_view grammar) session.macro_recursion_limit

  -- its expanded grammar, and the origins of the alternatives there
  abbrev pub plain_under : GrammarData
  plain_under = grammar_of_plain_rules (features_view session.features) (grammar_view grammar) session.macro_recursion_limit

  abbrev pub plain_lists_under : List (List Origin)
  plain_lists_under = lists_of_plain_rules (features_view session.features) (grammar_view grammar) session.macro_recursion_limit

  -- the names of its enabled rules that are no macros, as code lists them
  abbrev pub root_names_under : List NonterminalString
  root_names_under = with_rule_names [] (flat_map plain_names (enabled_grammar (features_view session.features) (grammar_view grammar)).items)
