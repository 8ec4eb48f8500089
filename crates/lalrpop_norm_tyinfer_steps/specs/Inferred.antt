-- The table of types that an expanded grammar has.
use Rattle.std.specs.Prelude.{◌≡◌, ◌↔◌, Some, codes}
use Rattle.std.specs.List.Sorted.{IsStrictlySortedBy}
use Rattle.std.specs.Map.{keys_of}
use Rattle.lalrpop_norm_tree_names.specs.declared.names.NonterminalString.{NonterminalString}
use Rattle.lalrpop_norm_tree_names.specs.declared.names.TerminalString.{TerminalString}
use Rattle.lalrpop_norm_tree.specs.Items.{GrammarData}
use Rattle.lalrpop_norm_tree_parts.specs.Reprs.{ReprData}
use Rattle.lalrpop_norm_model.specs.TerminalTypes.{declared_location, declared_under, token_type, terminal_rows, row_of}
use Rattle.lalrpop_norm_model.specs.TypeRelation.{Has}
use Rattle.lalrpop_norm_repr.specs.Orders.{name_cmp, terminal_cmp}
use Rattle.lalrpop_norm_repr.specs.Tables.{TypeTable, type_of, listed_type, new_table}

-- The table of types: each name has there the type that it has and no other name is listed; the terminals with a type of their
-- own have it; names and terminals are in their order, none twice; all else is what needs no inference.
pub record IsInferred (plain : GrammarData) (types : TypeTable) : Type 0 where
  pub names : (n : NonterminalString) (x : ReprData) → (type_of n types ≡ Some x) ↔ Has plain n.0 x
  pub names_in_order : IsStrictlySortedBy name_cmp (keys_of types.nonterminals)
  pub terminals : (t : TerminalString) → listed_type t types ≡ row_of t (terminal_rows plain)
  pub terminals_in_order : IsStrictlySortedBy terminal_cmp (keys_of types.terminals)
  pub rest : types ≡ record (new_table plain.prefix (declared_location plain)
      (declared_under (codes "Error") plain) (token_type plain)) {
        terminals = types.terminals;
        nonterminals = types.nonterminals;
      }
