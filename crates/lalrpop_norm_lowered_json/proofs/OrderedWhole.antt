-- The form of a whole lowered grammar has its keys in order.
use Rattle.std.proofs.Common.{List, Option, refl}
use Rattle.lalrpop_norm_theory.specs.LoweredTrees as theory
use Rattle.lalrpop_norm_tree.specs.declared.items.MatchEntry.{MatchEntry}
use Rattle.lalrpop_norm_tree.specs.Items.{InternTokenData}
use Rattle.lalrpop_norm_tree_parts.specs.declared.lowered.Algorithm.{Algorithm}
use Rattle.lalrpop_norm_tree_parts.specs.declared.lowered.LrCodeGeneration.{LrCodeGeneration}
use Rattle.lalrpop_norm_tree_parts.specs.declared.lowered.LrCodeGeneration.TheVariants.{TableDriven, RecursiveAscent, TestAll}
use Rattle.lalrpop_norm_repr.specs.declared.symbol.Symbol.{Symbol}
use Rattle.lalrpop_norm_repr.specs.declared.symbol.Symbol.TheVariants.{Nonterminal, Terminal}
use Rattle.lalrpop_norm_repr.specs.declared.action.LookaroundActionFnDefn.{LookaroundActionFnDefn}
use Rattle.lalrpop_norm_repr.specs.declared.action.LookaroundActionFnDefn.TheVariants.{Lookahead, Lookbehind}
use Rattle.lalrpop_norm_repr.specs.Actions.{ActionData, ActionKindData, ArgumentData, original, inlined, user, inline, lookaround}
use Rattle.lalrpop_norm_repr.specs.Productions.{ProductionData, EntryData}
use Rattle.lalrpop_norm_repr.specs.Tables.{TypeTable}
use Rattle.lalrpop_norm_repr.specs.Lowered.{LoweredParameter, TerminalTable, LoweredGrammar}
use Rattle.lalrpop_norm_json.specs.Json.{natural, list_form}
use Rattle.lalrpop_norm_json.specs.Forms.{nonterminal_form, terminal_form}
use Rattle.lalrpop_norm_json.specs.SymbolForms.{argument_pattern_form}
use Rattle.lalrpop_norm_lowered_json.specs.LoweredForms.{repr_form, lowered_clause_form, lowered_pattern_form}
use Rattle.lalrpop_norm_lowered_json.specs.WholeForms.{symbol_form, production_form, entry_form, lookaround_form, inlined_form}
use Rattle.lalrpop_norm_lowered_json.specs.WholeForms.{action_kind_form, action_defn_form, entry_of_match_form, intern_token_form}
use Rattle.lalrpop_norm_lowered_json.specs.WholeForms.{terminals_form, type_table_form, lowered_parameter_form, codegen_form}
use Rattle.lalrpop_norm_lowered_json.specs.WholeForms.{algorithm_form, lowered_form, origin_form, whole_form}
use Rattle.lalrpop_norm_lowered_json.proofs.Ordered.{◌&◌, IsOrdered}
use Rattle.lalrpop_norm_lowered_json.proofs.OrderedNames.{list_ordered, maybe_ordered, rows_ordered, texts_ordered, span_ordered}
use Rattle.lalrpop_norm_lowered_json.proofs.OrderedNames.{literal_ordered, terminal_ordered, parameters_ordered, attributes_ordered}
use Rattle.lalrpop_norm_lowered_json.proofs.OrderedNames.{visibility_ordered, mapping_ordered, argument_pattern_ordered, repr_ordered}
use Rattle.lalrpop_norm_lowered_json.proofs.OrderedClauses.{clause_ordered, pattern_ordered}

-- ---- productions and actions

symbol_ordered : (s : Symbol) → IsOrdered (symbol_form s)
symbol_ordered (Nonterminal n) = refl & tt & tt
symbol_ordered (Terminal t) = refl & terminal_ordered t & tt

symbols_ordered : (ss : List Symbol) → IsOrdered (list_form symbol_form ss)
symbols_ordered = list_ordered symbol_form symbol_ordered

production_ordered : (p : ProductionData) → IsOrdered (production_form p)
production_ordered p = refl & tt & tt & span_ordered p.span & symbols_ordered p.symbols & tt

entry_ordered : (e : EntryData) → IsOrdered (entry_form e)
entry_ordered e =
    let productions = list_ordered production_form production_ordered e.productions in
    refl & attributes_ordered e.attributes & productions & span_ordered e.span & visibility_ordered e.visibility & tt

lookaround_ordered : (k : LookaroundActionFnDefn) → IsOrdered (lookaround_form k)
lookaround_ordered Lookahead = tt
lookaround_ordered Lookbehind = tt

inlined_ordered : (a : ArgumentData) → IsOrdered (inlined_form a)
inlined_ordered (original s) = refl & symbol_ordered s & tt
inlined_ordered (inlined a ss) = refl & (tt & symbols_ordered ss & tt) & tt

action_kind_ordered : (k : ActionKindData) → IsOrdered (action_kind_form k)
action_kind_ordered (user ps ts code) =
    let patterns = list_ordered argument_pattern_form argument_pattern_ordered ps in
    refl & (refl & patterns & list_ordered repr_form repr_ordered ts & tt & tt) & tt
action_kind_ordered (inline a ss) = refl & (refl & tt & list_ordered inlined_form inlined_ordered ss & tt) & tt
action_kind_ordered (lookaround k) = refl & lookaround_ordered k & tt

action_ordered : (d : ActionData) → IsOrdered (action_defn_form d)
action_ordered d = refl & tt & action_kind_ordered d.kind & repr_ordered d.ret_type & tt

-- ---- the tokenizer

entry_of_match_ordered : (e : MatchEntry) → IsOrdered (entry_of_match_form e)
entry_of_match_ordered e = refl & literal_ordered e.match_literal & tt & mapping_ordered e.user_name & tt

intern_token_ordered : (t : InternTokenData) → IsOrdered (intern_token_form t)
intern_token_ordered t =
    let entries = list_ordered entry_of_match_form entry_of_match_ordered t.match_entries in
    refl & (refl & list_ordered natural (λ n. tt) t.code & tt) & entries & tt

-- ---- tables, parameters

terminals_ordered : (s : TerminalTable) → IsOrdered (terminals_form s)
terminals_ordered s =
    let bits = rows_ordered terminal_form natural terminal_ordered (λ n. tt) s.bits in
    refl & list_ordered terminal_form terminal_ordered s.all & bits & tt

types_ordered : (t : TypeTable) → IsOrdered (type_table_form t)
types_ordered t =
    let nonterminals = rows_ordered nonterminal_form repr_form (λ n. tt) repr_ordered t.nonterminals in
    let location = maybe_ordered repr_form repr_ordered t.location in
    let terminals = rows_ordered terminal_form repr_form terminal_ordered repr_ordered t.terminals in
    refl & repr_ordered t.recovery & maybe_ordered repr_form repr_ordered t.error & nonterminals & repr_ordered t.parse_error & location
    & repr_ordered t.token & terminals & tt

lowered_parameter_ordered : (p : LoweredParameter) → IsOrdered (lowered_parameter_form p)
lowered_parameter_ordered p = refl & tt & repr_ordered p.ty & tt

codegen_ordered : (g : LrCodeGeneration) → IsOrdered (codegen_form g)
codegen_ordered TableDriven = tt
codegen_ordered RecursiveAscent = tt
codegen_ordered TestAll = tt

algorithm_ordered : (a : Algorithm) → IsOrdered (algorithm_form a)
algorithm_ordered a = refl & codegen_ordered a.codegen & tt & tt

-- ---- the whole

lowered_ordered : (g : LoweredGrammar) → IsOrdered (lowered_form g)
lowered_ordered g =
    let actions = list_ordered action_defn_form action_ordered g.actions in
    let conversions = rows_ordered terminal_form lowered_pattern_form terminal_ordered pattern_ordered g.conversions in
    let token = maybe_ordered intern_token_form intern_token_ordered g.intern_token in
    let nonterminals = rows_ordered nonterminal_form entry_form (λ n. tt) entry_ordered g.nonterminals in
    let parameters = list_ordered lowered_parameter_form lowered_parameter_ordered g.parameters in
    let starts = rows_ordered nonterminal_form nonterminal_form (λ n. tt) (λ n. tt) g.start_nonterminals in
    let clauses = list_ordered lowered_clause_form clause_ordered g.where_clauses in
    refl & actions & algorithm_ordered g.algorithm & conversions & token & texts_ordered g.module_attributes & nonterminals & parameters
    & tt & starts & terminals_ordered g.terminals & parameters_ordered g.type_parameters & types_ordered g.types & texts_ordered g.uses
    & tt & clauses & tt

origin_ordered : (o : theory.Origin) → IsOrdered (origin_form o)
origin_ordered (theory.written n k) = refl & (refl & tt & tt & tt) & tt
origin_ordered _ = tt

pub whole_ordered : (os : Option (List theory.Origin)) (g : LoweredGrammar) → IsOrdered (whole_form os g)
whole_ordered os g =
    let origins = maybe_ordered (list_form origin_form) (list_ordered origin_form origin_ordered) os in
    refl & lowered_ordered g & origins & tt
