-- The JSON form of a whole lowered grammar: of each struct an object with its fields, of each table a list of pairs in key order.
use Rattle.std.specs.Prelude.{ℕ, List, [], ◌∷◌, Option, codes}
use Rattle.serde_json.specs.Data.{Data, boolean, string, array}
use Rattle.lalrpop_norm_theory.specs.LoweredTrees as theory
use Rattle.lalrpop_norm_tree.specs.declared.items.MatchEntry.{MatchEntry}
use Rattle.lalrpop_norm_tree.specs.Items.{InternTokenData}
use Rattle.lalrpop_norm_tree_parts.specs.declared.lowered.Algorithm.{Algorithm}
use Rattle.lalrpop_norm_tree_parts.specs.declared.lowered.LrCodeGeneration.{LrCodeGeneration}
use Rattle.lalrpop_norm_tree_parts.specs.declared.lowered.LrCodeGeneration.TheVariants.{TableDriven, RecursiveAscent, TestAll}
use Rattle.lalrpop_norm_repr.specs.declared.action.LookaroundActionFnDefn.{LookaroundActionFnDefn}
use Rattle.lalrpop_norm_repr.specs.declared.action.LookaroundActionFnDefn.TheVariants.{Lookahead, Lookbehind}
use Rattle.lalrpop_norm_repr.specs.Actions.{ActionData, ActionKindData, ArgumentData, original, inlined, user}
use Rattle.lalrpop_norm_repr.specs.Actions.{inline, lookaround}
use Rattle.lalrpop_norm_repr.specs.Productions.{ProductionData, EntryData}
use Rattle.lalrpop_norm_repr.specs.Tables.{TypeTable}
use Rattle.lalrpop_norm_repr.specs.Lowered.{LoweredParameter, LoweredGrammar}
use Rattle.lalrpop_norm_json.specs.Json.{fields, variant, row, natural, maybe_form, list_form}
use Rattle.lalrpop_norm_json.specs.Forms.{span_form, nonterminal_form, literal_form, terminal_form, type_parameter_form, attributes_form}
use Rattle.lalrpop_norm_json.specs.SymbolForms.{argument_pattern_form}
use Rattle.lalrpop_norm_json.specs.ItemForms.{visibility_form, mapping_form}
pub use Rattle.lalrpop_norm_lowered_json_tables.specs.TableForms.{rows_form, symbol_form, action_number_form, terminals_form, origin_form}
use Rattle.lalrpop_norm_lowered_json.specs.LoweredForms.{repr_form, lowered_clause_form, lowered_pattern_form}

-- ---- productions and actions

abbrev pub production_form : ProductionData → Data
production_form p =
    fields ((codes "action", action_number_form p.action) ∷ (codes "nonterminal", nonterminal_form p.nonterminal)
    ∷ (codes "span", span_form p.span) ∷ (codes "symbols", list_form symbol_form p.symbols) ∷ [])

abbrev pub entry_form : EntryData → Data
entry_form e =
    fields ((codes "attributes", array (attributes_form e.attributes)) ∷ (codes "productions", list_form production_form e.productions)
    ∷ (codes "span", span_form e.span) ∷ (codes "visibility", visibility_form e.visibility) ∷ [])

abbrev pub lookaround_form : LookaroundActionFnDefn → Data
lookaround_form Lookahead = string (codes "Lookahead")
lookaround_form Lookbehind = string (codes "Lookbehind")

-- an argument of an action that calls others
abbrev pub inlined_form : ArgumentData → Data
inlined_form (original s) = variant (codes "Original") (symbol_form s)
inlined_form (inlined a ss) = variant (codes "Inlined") (row (action_number_form a ∷ list_form symbol_form ss ∷ []))

-- what the variant of an action's kind holds
abbrev pub held_form : ActionKindData → Data
held_form (user ps ts code) =
    fields ((codes "arg_patterns", list_form argument_pattern_form ps) ∷ (codes "arg_types", list_form repr_form ts)
    ∷ (codes "code", string code) ∷ [])
held_form (inline a ss) = fields ((codes "action", action_number_form a) ∷ (codes "symbols", list_form inlined_form ss) ∷ [])
held_form (lookaround k) = lookaround_form k

abbrev pub kind_name : ActionKindData → List ℕ
kind_name (user ps ts code) = codes "User"
kind_name (inline a ss) = codes "Inline"
kind_name (lookaround k) = codes "Lookaround"

abbrev pub action_kind_form : ActionKindData → Data
action_kind_form k = variant (kind_name k) (held_form k)

abbrev pub action_defn_form : ActionData → Data
action_defn_form d =
    fields ((codes "fallible", boolean d.fallible) ∷ (codes "kind", action_kind_form d.kind) ∷ (codes "ret_type", repr_form d.ret_type)
    ∷ [])

-- ---- the tokenizer

abbrev pub entry_of_match_form : MatchEntry → Data
entry_of_match_form e =
    fields ((codes "match_literal", literal_form e.match_literal) ∷ (codes "precedence", natural e.precedence)
    ∷ (codes "user_name", mapping_form e.user_name) ∷ [])

abbrev pub intern_token_form : InternTokenData → Data
intern_token_form t =
    fields ((codes "dfa", fields ((codes "code", list_form natural t.code) ∷ []))
    ∷ (codes "match_entries", list_form entry_of_match_form t.match_entries) ∷ [])

-- ---- tables, parameters

abbrev pub type_table_form : TypeTable → Data
type_table_form t =
    fields ((codes "error_recovery_type", repr_form t.recovery) ∷ (codes "error_type", maybe_form repr_form t.error)
    ∷ (codes "nonterminal_types", rows_form nonterminal_form repr_form t.nonterminals)
    ∷ (codes "parse_error_type", repr_form t.parse_error) ∷ (codes "terminal_loc_type", maybe_form repr_form t.location)
    ∷ (codes "terminal_token_type", repr_form t.token) ∷ (codes "terminal_types", rows_form terminal_form repr_form t.terminals) ∷ [])

abbrev pub lowered_parameter_form : LoweredParameter → Data
lowered_parameter_form p = fields ((codes "name", string p.name) ∷ (codes "ty", repr_form p.ty) ∷ [])

abbrev pub codegen_form : LrCodeGeneration → Data
codegen_form TableDriven = string (codes "TableDriven")
codegen_form RecursiveAscent = string (codes "RecursiveAscent")
codegen_form TestAll = string (codes "TestAll")

abbrev pub algorithm_form : Algorithm → Data
algorithm_form a = fields ((codes "codegen", codegen_form a.codegen) ∷ (codes "lalr", boolean a.lalr) ∷ [])

-- ---- the whole

abbrev pub lowered_form : LoweredGrammar → Data
lowered_form g =
    fields ((codes "action_fn_defns", list_form action_defn_form g.actions) ∷ (codes "algorithm", algorithm_form g.algorithm)
    ∷ (codes "conversions", rows_form terminal_form lowered_pattern_form g.conversions)
    ∷ (codes "intern_token", maybe_form intern_token_form g.intern_token)
    ∷ (codes "module_attributes", list_form string g.module_attributes)
    ∷ (codes "nonterminals", rows_form nonterminal_form entry_form g.nonterminals)
    ∷ (codes "parameters", list_form lowered_parameter_form g.parameters) ∷ (codes "prefix", string g.prefix)
    ∷ (codes "start_nonterminals", rows_form nonterminal_form nonterminal_form g.start_nonterminals)
    ∷ (codes "terminals", terminals_form g.terminals) ∷ (codes "type_parameters", list_form type_parameter_form g.type_parameters)
    ∷ (codes "types", type_table_form g.types) ∷ (codes "uses", list_form string g.uses)
    ∷ (codes "uses_error_recovery", boolean g.uses_error_recovery)
    ∷ (codes "where_clauses", list_form lowered_clause_form g.where_clauses) ∷ [])

-- a lowered grammar, and the origins of its actions by their numbers, if they are asked for
abbrev pub whole_form : Option (List theory.Origin) → LoweredGrammar → Data
whole_form os g = fields ((codes "grammar", lowered_form g) ∷ (codes "origins", maybe_form (list_form origin_form) os) ∷ [])
