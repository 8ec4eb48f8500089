-- Lowered grammars whose types share their parts, as the data that they are.
use Rattle.std.specs.Prelude.{map}
use Rattle.lalrpop_norm_repr.specs.Lowered.{LoweredGrammar, lowered_grammar_view}
use Rattle.lalrpop_norm_repr.specs.Tables.{rows, type_table}
use Rattle.lalrpop_norm_shared_types.specs.Actions.{shared_action_view}
use Rattle.lalrpop_norm_shared_types.specs.Shared.{shared_view}
use Rattle.lalrpop_norm_shared_types.specs.declared.grammar.SharedGrammar.{SharedGrammar}

-- the lowered grammar that it is
abbrev pub shared_grammar_view : SharedGrammar → LoweredGrammar
shared_grammar_view g = record (lowered_grammar_view g.rest) {
  actions = map shared_action_view g.action_fn_defns.items;
  types = record (type_table g.rest.types) { nonterminals = rows shared_view g.nonterminal_types };
}
