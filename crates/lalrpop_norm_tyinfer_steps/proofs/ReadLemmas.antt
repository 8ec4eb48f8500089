-- What a type table means is what the table of its names means to a grammar that reads it.
use Rattle.std.proofs.Common.{◌≡◌, List, [], ◌∷◌, refl, sym, ap, ap₂, ◌∙◌}
use Rattle.std.specs.Prelude.{unwrap_or}
use Rattle.std.proofs.Math.Path.{fun_ext}
use Rattle.lalrpop_norm_tree_names.specs.declared.names.NonterminalString.{NonterminalString}
use Rattle.lalrpop_norm_tree_names.specs.declared.names.TerminalString.{TerminalString}
use Rattle.lalrpop_norm_tree_names.specs.declared.names.TypeParameter.{TypeParameter}
use Rattle.lalrpop_norm_tree.specs.Accessors.{or_else}
use Rattle.lalrpop_norm_tree.specs.Items.{GrammarData}
use Rattle.lalrpop_norm_tree_parts.specs.Reprs.{ReprData}
use Rattle.lalrpop_norm_repr.specs.Tables.{TypeTable, found_terminal, type_of_terminal}
use Rattle.lalrpop_norm_model.specs.TerminalTypes.{terminal_type, recovery_type, declared_location, token_type}
use Rattle.lalrpop_norm_model.specs.TypeRelation.{TypeClause, makes, locates}
use Rattle.lalrpop_norm_model.specs.TypeTables.{grammar_types, type_meant, clause_value}
use Rattle.lalrpop_norm_model.specs.TypeRounds.{TypeRow, table_of, first_value}
use Rattle.lalrpop_norm_model.proofs.TypeEnvironments.{same_environment}
use Rattle.lalrpop_norm_tyinfer_steps.specs.Clauses.{clause_in, first_in}
use Rattle.lalrpop_norm_tyinfer_steps.specs.TableValues.{type_by_name, table_types}
use Rattle.lalrpop_norm_tyinfer_steps.specs.TokenTypes.{base_table}
use Rattle.lalrpop_norm_tyinfer_steps.specs.Visits.{HasRows, IsReadBy}

module _ (g : GrammarData) (ps : List TypeParameter) (tt : TypeTable) (read : IsReadBy g ps tt) where
  token_is : tt.token ≡ token_type g
  token_is = ap (λ (u : TypeTable). u.token) read.tokens.rest

  recovery_is : tt.recovery ≡ recovery_type g
  recovery_is = ap (λ (u : TypeTable). u.recovery) read.tokens.rest

  location_is : tt.location ≡ declared_location g
  location_is = ap (λ (u : TypeTable). u.location) read.tokens.rest

  terminal_is : (t : TerminalString) → type_of_terminal t tt ≡ terminal_type g t
  terminal_is t = ap₂ unwrap_or (read.tokens.terminals t) token_is

  types_are : table_types tt ≡ grammar_types g (type_by_name tt)
  types_are = same_environment (table_types tt) (grammar_types g (type_by_name tt)) terminal_is recovery_is (λ n. refl)

  pub clause_is : (c : TypeClause) → clause_in ps tt c ≡ clause_value g (type_by_name tt) c
  clause_is (makes t) = ap₂ (λ qs e. type_meant qs e t) (sym read.parameters) types_are
  clause_is locates = location_is

  first_is : (cs : List TypeClause) → first_in ps tt cs ≡ first_value g (type_by_name tt) cs
  first_is [] = refl
  first_is (c ∷ cs) = ap₂ or_else (clause_is c) (first_is cs)

pub names_are : (tt : TypeTable) (rows : List TypeRow) → HasRows tt rows → type_by_name tt ≡ table_of rows
names_are tt rows h = fun_ext h

-- what the first clause makes of the rows
pub first_at : (g : GrammarData) (ps : List TypeParameter) (tt : TypeTable) → IsReadBy g ps tt → (rows : List TypeRow) → HasRows tt rows → (cs : List TypeClause) →
    first_in ps tt cs ≡ first_value g (table_of rows) cs
first_at g ps tt read rows h cs = first_is g ps tt read cs ∙ ap (λ f. first_value g f cs) (names_are tt rows h)

abbrev with_names : TypeTable → List (NonterminalString × ReprData) → TypeTable
with_names u ns = record u { nonterminals = ns }

abbrev with_both : TypeTable → List (TerminalString × ReprData) → List (NonterminalString × ReprData) → TypeTable
with_both u ts ns = record u { terminals = ts; nonterminals = ns }

-- where only names are added the table is read as before
pub kept_read : (g : GrammarData) (ps : List TypeParameter) (before after : TypeTable) → IsReadBy g ps before →
    after ≡ record before { nonterminals = after.nonterminals } → IsReadBy g ps after
kept_read g ps before after read rest =
    let terminals : after.terminals ≡ before.terminals = ap (λ (u : TypeTable). u.terminals) rest in
    record {
      parameters = read.parameters;
      tokens = record {
        terminals = λ t. ap (λ ts. found_terminal t ts) terminals ∙ read.tokens.terminals t;
        rest = rest ∙ (ap (λ u. with_names u after.nonterminals) read.tokens.rest ∙ ap (λ ts. with_both (base_table g) ts after.nonterminals) (sym terminals));
      };
    }

-- one change of names after the other
pub rest_after : (before mid after : TypeTable) → mid ≡ record before { nonterminals = mid.nonterminals } → after ≡ record mid { nonterminals = after.nonterminals } →
    after ≡ record before { nonterminals = after.nonterminals }
rest_after before mid after first second = second ∙ ap (λ u. with_names u after.nonterminals) first
