-- The shape of `extern { enum Tok { "a" => A(..) } } pub S: () = "a";` lowered, and what it is to be closed.
use Rattle.std.proofs.Common.{◌≡◌, ℕ, zero, suc, true, false, List, [], ◌∷◌, Some, None, refl, subst, codes, arith}
use Rattle.std.specs.Prelude.{slice_get}
use Rattle.std.proofs.lemmas.List.Elements.{All-nil, All-cons}
use Rattle.lalrpop_norm_tree.specs.declared.items.MatchEntry.{MatchEntry}
use Rattle.lalrpop_norm_tree.specs.declared.items.MatchMapping.TheVariants as mapping
use Rattle.lalrpop_norm_tree_parts.specs.declared.lowered.LrCodeGeneration.TheVariants.{TableDriven, TestAll}
use Rattle.lalrpop_norm_tree_names.specs.declared.names.NonterminalString.{NonterminalString}
use Rattle.lalrpop_norm_tree_names.specs.declared.names.Span.{Span}
use Rattle.lalrpop_norm_tree_names.specs.declared.names.TerminalLiteral.TheVariants.{Quoted}
use Rattle.lalrpop_norm_tree_names.specs.declared.names.TerminalString.{TerminalString}
use Rattle.lalrpop_norm_tree_names.specs.declared.names.TerminalString.TheVariants.{Literal}
use Rattle.lalrpop_norm_tree_names.specs.declared.names.TypeParameter.TheVariants as parameter
use Rattle.lalrpop_norm_tree_parts.specs.Attributes.{no_attributes, attribute_and, attribute, empty}
use Rattle.lalrpop_norm_tree_parts.specs.Bounds.{type_clause, trait_bound}
use Rattle.lalrpop_norm_tree.specs.Items.{AlternativeData, RuleData, everywhere}
use Rattle.lalrpop_norm_tree_parts.specs.Paths.{PathData}
use Rattle.lalrpop_norm_tree_parts.specs.Reprs.{ReprData, tuple, no_reprs, named_repr, for_all, has_bound}
use Rattle.lalrpop_norm_tree.specs.Symbols.{terminal, at, no_parts, part_and}
use Rattle.lalrpop_norm_tree.specs.Types as written
use Rattle.lalrpop_norm_repr.specs.declared.symbol.Symbol.TheVariants.{Nonterminal, Terminal}
use Rattle.lalrpop_norm_repr.specs.Actions.{ActionData, user}
use Rattle.lalrpop_norm_repr.specs.Closed.{IsDefined, IsClosedProduction, IsClosedEntry, IsClosed}
use Rattle.lalrpop_norm_repr.specs.Lowered.{LoweredGrammar}
use Rattle.lalrpop_norm_repr.specs.Productions.{ProductionData, EntryData}
use Rattle.lalrpop_norm_repr.specs.Tables.{TypeTable, found_terminal, new_table}
use Rattle.lalrpop_norm_lower.specs.Carried.{entry_rows, internal_pattern, lowered_clauses, asks_lalr, asked_code}
use Rattle.lalrpop_norm_lower.specs.Lowering.{start_alternative}
use Rattle.lalrpop_norm_lower.specs.Shape.{alternatives_in_order, productions_named, lowered_entries}
use Rattle.lalrpop_norm_lower.specs.Sources.{plain_name}
use Rattle.lalrpop_norm_theory.proofs.ListLemmas.{some_inner}

-- ---- the rule and its clauses

a : TerminalString
a = Literal (Quoted (codes "a"))

S : NonterminalString
S = record { 0 = codes "S" }

start : NonterminalString
start = record { 0 = codes "__S" }

rule_span : Span
rule_span = record { 0 = 41; 1 = 46 }

body_span : Span
body_span = record { 0 = 49; 1 = 52 }

body : AlternativeData
body = record { span = body_span; parts = part_and (at body_span (terminal a)) no_parts; condition = None; action = None; attributes = no_attributes }

rule : RuleData
rule = record { visibility = everywhere None; name = S; attributes = no_attributes; span = rule_span; args = []; type_decl = Some (written.tuple written.no_types); alternatives = body ∷ [] }

-- the start symbol is first, then the alternative
clauses_are : alternatives_in_order (codes "__") (rule ∷ []) ≡ (start, start_alternative rule) ∷ (S, body) ∷ []
unfolding rule start S
clauses_are = refl

start_production : ProductionData
start_production = record { nonterminal = start; symbols = Nonterminal S ∷ []; action = record { 0 = 0 }; span = rule_span }

body_production : ProductionData
body_production = record { nonterminal = S; symbols = Terminal a ∷ []; action = record { 0 = 1 }; span = body_span }

rule_productions : productions_named S (alternatives_in_order (codes "__") (rule ∷ [])) ≡ body_production ∷ []
unfolding rule start S body body_production
rule_productions = refl

start_productions : productions_named start (alternatives_in_order (codes "__") (rule ∷ [])) ≡ start_production ∷ []
unfolding rule start S start_production
start_productions = refl

-- ---- the lowered grammar

start_entry : EntryData
start_entry = record { visibility = everywhere None; span = rule_span; attributes = no_attributes; productions = start_production ∷ [] }

rule_entry : EntryData
rule_entry = record { visibility = everywhere None; span = rule_span; attributes = no_attributes; productions = body_production ∷ [] }

entries_are : lowered_entries (codes "__") (rule ∷ []) ≡ (start, start_entry) ∷ (S, rule_entry) ∷ []
unfolding rule start S body body_production start_production start_entry rule_entry
entries_are = refl

abbrev unit : ReprData
unit = tuple no_reprs

types : TypeTable
types = record (new_table (codes "__") None None (named_repr (codes "Tok"))) { nonterminals = (S, unit) ∷ (start, unit) ∷ [] }

start_action : ActionData
start_action = record { fallible = false; ret_type = unit; kind = user (plain_name (codes "__0") ∷ []) (unit ∷ []) (codes "()") }

body_action : ActionData
body_action = record { fallible = false; ret_type = unit; kind = user (plain_name (codes "__0") ∷ []) (named_repr (codes "Tok") ∷ []) (codes "()") }

abbrev with_actions : List ActionData → LoweredGrammar
with_actions actions = record {
  prefix = codes "__";
  algorithm = record { lalr = false; codegen = TableDriven };
  uses_error_recovery = false;
  start_nonterminals = (S, start) ∷ [];
  uses = [];
  type_parameters = [];
  parameters = [];
  where_clauses = [];
  intern_token = None;
  actions = actions;
  terminals = record { all = a ∷ []; bits = (a, 0) ∷ [] };
  nonterminals = (S, rule_entry) ∷ (start, start_entry) ∷ [];
  conversions = [];
  types = types;
  module_attributes = [];
}

abbrev result : LoweredGrammar
result = with_actions (start_action ∷ body_action ∷ [])

body_closed : IsClosedProduction result S body_production
unfolding body_production body_action types S a
body_closed = record {
  nonterminal = refl;
  symbols = All-cons (IsDefined result) (Terminal a) [] (0, omega arith, refl) (All-nil (IsDefined result));
  action = body_action;
  numbered = refl;
  answers = refl;
  arguments = (refl, (refl, tt));
}

start_closed : IsClosedProduction result start start_production
unfolding start_production start_action types S start
start_closed = record {
  nonterminal = refl;
  symbols = All-cons (IsDefined result) (Nonterminal S) [] (refl, refl) (All-nil (IsDefined result));
  action = start_action;
  numbered = refl;
  answers = refl;
  arguments = (refl, (refl, tt));
}

abbrev numbers : List (TerminalString × ℕ)
numbers = (a, 0) ∷ []

number : (t : TerminalString) (i : ℕ) → slice_get (a ∷ []) i ≡ Some t → found_terminal t numbers ≡ Some i
unfolding a
number t zero h = subst (λ (u : TerminalString). found_terminal u numbers ≡ Some 0) (some_inner a t h) refl
number t (suc i) h = cc

only_place : (t : TerminalString) (i j : ℕ) → slice_get (a ∷ []) i ≡ Some t → slice_get (a ∷ []) j ≡ Some t → i ≡ j
only_place t zero zero h k = refl
only_place t zero (suc j) h k = cc
only_place t (suc i) j h k = cc

closed : IsClosed result
unfolding rule_entry start_entry
closed = record {
  productions = All-cons (IsClosedEntry result) (S, rule_entry) ((start, start_entry) ∷ []) (All-cons (IsClosedProduction result S) body_production [] body_closed (All-nil (IsClosedProduction result S)))
      (All-cons (IsClosedEntry result) (start, start_entry) [] (All-cons (IsClosedProduction result start) start_production [] start_closed (All-nil (IsClosedProduction result start))) (All-nil (IsClosedEntry result)));
  numbers = number;
  distinct = only_place;
}

-- with the last action dropped it is not closed
not_closed : IsClosed (with_actions (start_action ∷ [])) → ⊥
unfolding rule_entry body_production
not_closed h =
    let first : IsClosedEntry (with_actions (start_action ∷ [])) (S, rule_entry) = h.productions 0 (S, rule_entry) (omega arith) in
    let one : IsClosedProduction (with_actions (start_action ∷ [])) S body_production = first 0 body_production (omega arith) in
    let there : None ≡ Some one.action = one.numbered in
    cc

-- ---- what is carried over

abbrev path : List ℕ → PathData
path n = record { absolute = false; ids = n ∷ [] }

-- `for<'a> T: Foo + Bar` is two clauses
flattened : lowered_clauses (type_clause (parameter.Lifetime (record { 0 = codes "'a" }) ∷ []) (written.id (codes "T")) (trait_bound [] (path (codes "Foo")) [] ∷ trait_bound [] (path (codes "Bar")) [] ∷ []))
    ≡ for_all (parameter.Lifetime (record { 0 = codes "'a" }) ∷ []) (has_bound (named_repr (codes "T")) (trait_bound [] (path (codes "Foo")) []))
    ∷ for_all (parameter.Lifetime (record { 0 = codes "'a" }) ∷ []) (has_bound (named_repr (codes "T")) (trait_bound [] (path (codes "Bar")) [])) ∷ []
flattened = refl

skipped : MatchEntry
skipped = record { precedence = 0; match_literal = Quoted (codes " "); user_name = mapping.Skip }

taken : MatchEntry
taken = record { precedence = 1; match_literal = Quoted (codes "a"); user_name = mapping.Terminal a }

-- an entry that is skipped has an index, but no token
entry_places : entry_rows body_span (skipped ∷ taken ∷ []) ≡ (a, internal_pattern body_span 1) ∷ []
unfolding skipped taken
entry_places = refl

-- the last attribute says what parser code is made
last_code : asked_code (attribute_and (attribute rule_span (codes "table_driven") empty) (attribute_and (attribute rule_span (codes "test_all") empty) no_attributes)) ≡ TestAll
last_code = refl

lalr_asked : asks_lalr (attribute_and (attribute rule_span (codes "LALR") empty) no_attributes) ≡ true
lalr_asked = refl
