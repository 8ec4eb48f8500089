-- The types that need no inference.
use Rattle.std.proofs.Common.{◌≡◌, ℕ, Bool, true, false, List, [], ◌∷◌, Option, Some, None, cond, refl, sym, ap, ap₂, subst, ◌∙◌}
use Rattle.std.specs.Prelude.{Result, IfOk, option_map}
use Rattle.lalrpop_norm_tree_parts.specs.declared.lowered.TypeRepr.{TypeRepr}
use Rattle.lalrpop_norm_tree_names.specs.declared.names.NonterminalString.{NonterminalString}
use Rattle.lalrpop_norm_tree_names.specs.declared.names.TerminalLiteral.{TerminalLiteral}
use Rattle.lalrpop_norm_tree_names.specs.declared.names.TerminalLiteral.TheVariants.{Quoted, Regex}
use Rattle.lalrpop_norm_tree_names.specs.declared.names.TerminalString.{TerminalString}
use Rattle.lalrpop_norm_tree_names.specs.declared.names.TerminalString.TheVariants.{Literal, Bare, Error}
use Rattle.lalrpop_norm_tree.specs.Accessors.{or_else, first_of, extern_token_of, type_named}
use Rattle.lalrpop_norm_tree.specs.Items.{AssociatedTypeData, ExternTokenData, GrammarData}
use Rattle.lalrpop_norm_tree.specs.LoweredTypes.{repr_of}
use Rattle.lalrpop_norm_tree_parts.specs.Reprs.{ReprData, repr_view}
use Rattle.lalrpop_norm_repr.specs.Tables as table
use Rattle.lalrpop_norm_repr.specs.Tables.{TypeTable, found_terminal}
use Rattle.lalrpop_norm_model.specs.Terminals.{same_literal, same_terminal}
use Rattle.lalrpop_norm_model.specs.TerminalTypes.{TerminalRow, declared_under, recovery_type, terminal_rows, row_of, rows_with, extern_enum}
use Rattle.lalrpop_norm_tyinfer_steps.specs.TokenTypes.{base_table, AddsTerminals, HasTokens}
use Rattle.lalrpop_norm_theory.proofs.SameLemmas.{text_turned}

-- ---- rows

literal_turned : (a b : TerminalLiteral) → table.same_literal a b ≡ same_literal b a
literal_turned (Quoted a) (Quoted b) = text_turned a b
literal_turned (Regex a) (Regex b) = text_turned a b
literal_turned (Quoted a) (Regex b) = refl
literal_turned (Regex a) (Quoted b) = refl

terminal_turned : (a b : TerminalString) → table.same_terminal a b ≡ same_terminal b a
terminal_turned (Literal a) (Literal b) = literal_turned a b
terminal_turned (Literal a) (Bare b) = refl
terminal_turned (Literal a) Error = refl
terminal_turned (Bare a) (Literal b) = refl
terminal_turned (Bare a) (Bare b) = text_turned a b
terminal_turned (Bare a) Error = refl
terminal_turned Error (Literal b) = refl
terminal_turned Error (Bare b) = refl
terminal_turned Error Error = refl

found_is : (t : TerminalString) (rows : List TerminalRow) → found_terminal t rows ≡ row_of t rows
found_is t [] = refl
found_is t (r ∷ rows) = ap₂ (λ b o. cond b (Some r.1) o) (terminal_turned t r.0) (found_is t rows)

or_first : (b : Bool) (x : ReprData) (o : Option ReprData) → or_else (cond b (Some x) None) o ≡ cond b (Some x) o
or_first true x o = refl
or_first false x o = refl

abbrev with_both : TypeTable → List (TerminalString × ReprData) → List (NonterminalString × ReprData) → TypeTable
with_both u ts ns = record u { terminals = ts; nonterminals = ns }

-- a base table with the rows of a grammar lists no name
pub added_names : (g : GrammarData) (types : TypeTable) → AddsTerminals (base_table g) types (rows_with (extern_enum g) g) → types.nonterminals ≡ []
added_names g types added = ap (λ (u : TypeTable). u.nonterminals) added.rest

-- and has the grammar's tokens
pub added_tokens : (g : GrammarData) (types : TypeTable) → AddsTerminals (base_table g) types (rows_with (extern_enum g) g) → HasTokens g types
added_tokens g types added = record {
  terminals = λ t.
      added.terminals t
      ∙ (or_first (table.same_terminal t Error) (recovery_type g) (found_terminal t (rows_with (extern_enum g) g))
      ∙ found_is t (terminal_rows g));
  rest = added.rest ∙ ap (with_both (base_table g) types.terminals) (sym (added_names g types added));
}

pub from_base : (old base new : TypeTable) (rows : List TerminalRow) → old ≡ base → AddsTerminals old new rows → AddsTerminals base new rows
from_base old base new rows same added = subst (λ (u : TypeTable). AddsTerminals u new rows) same added

-- ---- declared types

pub declared_seen : {E : Type 0} (name : List ℕ) (g : GrammarData) (token : ExternTokenData) (r : Result (Option TypeRepr) E) → Some token ≡ first_of extern_token_of g.items →
    IfOk r (λ o. option_map repr_view o ≡ option_map (λ (t : AssociatedTypeData). repr_of t.type_ref) (first_of (type_named name) token.associated_types)) →
    IfOk r (λ o. option_map repr_view o ≡ declared_under name g)
declared_seen name g token r same h = rw (← same) h

pub none_declared : (name : List ℕ) (g : GrammarData) → None ≡ first_of extern_token_of g.items → None ≡ declared_under name g
none_declared name g same = rw (← same) refl
