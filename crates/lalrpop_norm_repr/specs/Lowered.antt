-- Lowered grammars as plain data.
use Rattle.std.specs.Prelude.{ℕ, Bool, List, map, Option, option_map, string_bytes}
use Rattle.lalrpop_norm_tree_parts.specs.declared.lowered.Algorithm.{Algorithm}
use Rattle.lalrpop_norm_tree_names.specs.declared.names.NonterminalString.{NonterminalString}
use Rattle.lalrpop_norm_tree_names.specs.declared.names.TerminalString.{TerminalString}
use Rattle.lalrpop_norm_tree_names.specs.declared.names.TypeParameter.{TypeParameter}
use Rattle.lalrpop_norm_tree.specs.Items.{InternTokenData, intern_token_view}
use Rattle.lalrpop_norm_tree_patterns.specs.Patterns.{PatternData, pattern_view}
use Rattle.lalrpop_norm_tree_parts.specs.Reprs.{ReprData, repr_view, LoweredClause, lowered_where_clause_view}
use Rattle.lalrpop_norm_repr.specs.declared.whole.Grammar.{Grammar}
use Rattle.lalrpop_norm_repr.specs.declared.whole.Parameter.{Parameter}
use Rattle.lalrpop_norm_repr.specs.declared.whole.TerminalSet.{TerminalSet}
use Rattle.lalrpop_norm_repr.specs.Actions.{ActionData, action_defn_view}
use Rattle.lalrpop_norm_repr.specs.Productions.{EntryData, nonterminal_data_view}
use Rattle.lalrpop_norm_repr.specs.Tables.{rows, TypeTable, type_table}

pub record LoweredParameter : Type 0 where
  pub name : List ℕ
  pub ty : ReprData

abbrev pub lowered_parameter_view : Parameter → LoweredParameter
lowered_parameter_view p = record { name = p.name; ty = repr_view p.ty }

-- the terminals, and the rows of their indices
pub record TerminalTable : Type 0 where
  pub all : List TerminalString
  pub bits : List (TerminalString × ℕ)

abbrev pub terminal_set_view : TerminalSet → TerminalTable
terminal_set_view s = record { all = s.all.items; bits = s.bits.entries }

pub record LoweredGrammar : Type 0 where
  pub prefix : List ℕ
  pub algorithm : Algorithm
  pub uses_error_recovery : Bool
  pub start_nonterminals : List (NonterminalString × NonterminalString)
  pub uses : List (List ℕ)
  pub type_parameters : List TypeParameter
  pub parameters : List LoweredParameter
  pub where_clauses : List LoweredClause
  pub intern_token : Option InternTokenData
  pub actions : List ActionData
  pub terminals : TerminalTable
  pub nonterminals : List (NonterminalString × EntryData)
  pub conversions : List (TerminalString × PatternData ReprData)
  pub types : TypeTable
  pub module_attributes : List (List ℕ)

abbrev pub lowered_grammar_view : Grammar → LoweredGrammar
lowered_grammar_view g = record {
  prefix = string_bytes g.prefix;
  algorithm = g.algorithm;
  uses_error_recovery = g.uses_error_recovery;
  start_nonterminals = g.start_nonterminals.entries;
  uses = map string_bytes g.uses.items;
  type_parameters = g.type_parameters.items;
  parameters = map lowered_parameter_view g.parameters.items;
  where_clauses = map lowered_where_clause_view g.where_clauses.items;
  intern_token = option_map intern_token_view g.intern_token;
  actions = map action_defn_view g.action_fn_defns.items;
  terminals = terminal_set_view g.terminals;
  nonterminals = rows nonterminal_data_view g.nonterminals;
  conversions = rows (pattern_view repr_view) g.conversions;
  types = type_table g.types;
  module_attributes = map string_bytes g.module_attributes.items;
}
