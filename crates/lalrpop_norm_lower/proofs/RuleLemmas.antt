-- What lowering makes of rules is that of a lowered grammar.
use Rattle.std.proofs.Common.{◌≡◌, [], ◌++◌, refl, map}
use Rattle.std.specs.Prelude.{filter_map, flat_map}
use Rattle.lalrpop_norm_tree.specs.Accessors.{first_of, intern_token_of}
use Rattle.lalrpop_norm_tree.specs.Items.{GrammarData}
use Rattle.lalrpop_norm_model.specs.Expanded.{IsExpanded, IsTyped}
use Rattle.lalrpop_norm_model.specs.Features.{Features}
use Rattle.lalrpop_norm_model.specs.PlainRules.{all_rules}
use Rattle.lalrpop_norm_repr.specs.Closed.{IsClosed}
use Rattle.lalrpop_norm_repr.specs.Lowered.{LoweredGrammar}
use Rattle.lalrpop_norm_repr.specs.Productions.{nonterminal_data_view}
use Rattle.lalrpop_norm_repr.specs.Tables.{TypeTable, rows}
use Rattle.lalrpop_norm_shared_types.specs.Table.{shared_table}
use Rattle.lalrpop_norm_lower.specs.declared.lowered_rules.LoweredRules.{LoweredRules}
use Rattle.lalrpop_norm_lower.specs.Active.{active_grammar}
use Rattle.lalrpop_norm_lower.specs.Carried.{use_of, uses_recovery, lowered_parameter, lowered_clauses, asks_lalr, asked_code}
use Rattle.lalrpop_norm_lower.specs.Conversions.{sorted_terminals, numbered_terminals}
use Rattle.lalrpop_norm_lower.specs.Lowering.{rules_among, public_rules_in}
use Rattle.lalrpop_norm_lower.specs.LoweredRules.{AreMadeRules}
use Rattle.lalrpop_norm_lower.specs.Made.{types_by_name, made_faults, made_starts, made_actions, made_terminals, made_tokens, IsMade}
use Rattle.lalrpop_norm_lower.specs.RulesOf.{AreRulesWhere}
use Rattle.lalrpop_norm_lower.specs.Shape.{IsLoweringOf}
use Rattle.lalrpop_norm_lower.proofs.MadeLemmas.{made_is_lowered, made_is_closed}

module _ (fs : Features) (g : GrammarData) (types : TypeTable) (r : LoweredRules) where
  -- the lowered grammar that has these rules
  abbrev whole : LoweredGrammar
  whole = record {
    prefix = g.prefix;
    algorithm = record { lalr = asks_lalr g.attributes; codegen = asked_code g.attributes };
    uses_error_recovery = uses_recovery (rules_among g.items);
    start_nonterminals = r.start_nonterminals.entries;
    uses = filter_map use_of g.items;
    type_parameters = g.type_parameters;
    parameters = map lowered_parameter g.parameters;
    where_clauses = flat_map lowered_clauses g.where_clauses;
    intern_token = first_of intern_token_of g.items;
    actions = made_starts g.prefix types (public_rules_in (rules_among g.items)) ++ made_actions g.prefix types (rules_among g.items);
    terminals = record { all = made_terminals fs g; bits = sorted_terminals [] (numbered_terminals 0 (made_terminals fs g)) };
    nonterminals = rows nonterminal_data_view r.nonterminals;
    conversions = sorted_terminals [] (made_tokens fs g);
    types = shared_table r.types;
    module_attributes = g.module_attributes;
  }

  whole_made : AreMadeRules g.prefix types (rules_among g.items) r → IsMade fs g types whole
  whole_made made = record {
    actions = refl;
    nonterminals = made.nonterminals;
    start_nonterminals = made.start_nonterminals;
    all_terminals = refl;
    terminal_numbers = refl;
    conversions = refl;
    start_symbol_types = made.start_symbol_types;
    names_in_order = made.names_in_order;
    prefix = refl;
    lalr = refl;
    codegen = refl;
    uses_error_recovery = refl;
    uses = refl;
    type_parameters = refl;
    parameters = refl;
    where_clauses = refl;
    intern_token = refl;
    module_attributes = refl;
  }

  pub made_rules_are : IsExpanded g → IsTyped fs g (types_by_name types) → made_faults g.prefix types (rules_among g.items) ≡ [] → AreMadeRules g.prefix types (rules_among g.items) r
      → AreRulesWhere (λ l. IsLoweringOf (active_grammar fs g) (all_rules g) types l × IsClosed l) r
  made_rules_are ok typed clean made = record {
    grammar = whole;
    holds = (made_is_lowered fs g types ok typed clean whole (whole_made made), made_is_closed fs g types ok typed clean whole (whole_made made));
    rules = record { start_nonterminals = refl; nonterminals = refl; types = refl };
  }
