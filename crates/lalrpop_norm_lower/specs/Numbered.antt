-- The types of rules by the numbers of their names.
use Rattle.std.specs.Prelude.{◌≡◌, ℕ, List, Option, Some, slice_get}
use Rattle.lalrpop_norm_tree_names.specs.declared.names.NonterminalString.{NonterminalString}
use Rattle.lalrpop_norm_tree_parts.specs.Reprs.{ReprData}
use Rattle.lalrpop_norm_names.specs.Numbers.{number_in_table}
use Rattle.lalrpop_norm_names.specs.declared.table.Names.{Names}
use Rattle.lalrpop_norm_repr.specs.Tables.{TypeTable, type_of}

-- what the table has for a name with a number is in the list at that number
abbrev pub AreTypesByNumber : TypeTable → Names → List (Option ReprData) → Type 0
AreTypesByNumber types names list = (name : NonterminalString) (k : ℕ) →
    number_in_table names name.0 ≡ Some k → slice_get list k ≡ Some (type_of name types)
