-- What lowering has made of a grammar but for its rules.
use Rattle.std.specs.Prelude.{◌≡◌, [], map, flat_map, filter_map, option_map, string_bytes}
use Rattle.std.specs.Map.{keys_of}
use Rattle.lalrpop_norm_tree.specs.Accessors.{first_of, intern_token_of}
use Rattle.lalrpop_norm_tree.specs.Items.{GrammarData, intern_token_view}
use Rattle.lalrpop_norm_tree_patterns.specs.Patterns.{pattern_view}
use Rattle.lalrpop_norm_tree_parts.specs.Reprs.{repr_view, lowered_where_clause_view}
use Rattle.lalrpop_norm_model.specs.Features.{Features}
use Rattle.lalrpop_norm_repr.specs.Lowered.{lowered_parameter_view}
use Rattle.lalrpop_norm_repr.specs.Tables.{rows}
use Rattle.lalrpop_norm_lower.specs.declared.carried.Carried.{Carried}
use Rattle.lalrpop_norm_lower.specs.Carried.{use_of, lowered_parameter, lowered_clauses, asks_lalr, asked_code}
use Rattle.lalrpop_norm_lower.specs.Conversions.{sorted_terminals}
use Rattle.lalrpop_norm_lower.specs.Made.{made_tokens}

pub record IsCarriedOver (fs : Features) (g : GrammarData) (c : Carried) : Type 0 where
  pub prefix : string_bytes c.head.prefix ≡ g.prefix
  pub uses : map string_bytes c.head.uses.items ≡ filter_map use_of g.items
  pub module_attributes : map string_bytes c.head.module_attributes.items ≡ g.module_attributes
  pub intern_token : option_map intern_token_view c.head.intern_token ≡ first_of intern_token_of g.items
  pub type_parameters : c.signature.type_parameters.items ≡ g.type_parameters
  pub parameters : map lowered_parameter_view c.signature.parameters.items ≡ map lowered_parameter g.parameters
  pub where_clauses : map lowered_where_clause_view c.signature.where_clauses.items ≡ flat_map lowered_clauses g.where_clauses
  pub lalr : c.algorithm.lalr ≡ asks_lalr g.attributes
  pub codegen : c.algorithm.codegen ≡ asked_code g.attributes
  pub terminals : c.tokens.all.items ≡ keys_of (made_tokens fs g)
  pub conversions : rows (pattern_view repr_view) c.tokens.patterns ≡ sorted_terminals [] (made_tokens fs g)
