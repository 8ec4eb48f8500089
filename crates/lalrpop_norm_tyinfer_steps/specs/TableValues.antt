-- What symbols give and written types mean by a table of types. Of the grammar only its parameters are used.
use Rattle.std.specs.Prelude.{ℕ, List, Option}
use Rattle.lalrpop_norm_tree_names.specs.declared.names.NonterminalString.{NonterminalString}
use Rattle.lalrpop_norm_tree_names.specs.declared.names.TypeParameter.{TypeParameter}
use Rattle.lalrpop_norm_tree_parts.specs.Reprs.{ReprData, Reprs, MaybeRepr}
use Rattle.lalrpop_norm_tree.specs.Symbols.{Kind}
use Rattle.lalrpop_norm_tree.specs.Types.{TypeData, TypesData, MaybeType}
use Rattle.lalrpop_norm_repr.specs.Tables.{TypeTable, type_of, type_of_terminal}
use Rattle.lalrpop_norm_model.specs.TypeTables.{Table, TypeEnvironment, kind_type, type_meant, types_meant, return_meant}

abbrev pub nonterminal_named : List ℕ → NonterminalString
nonterminal_named n = record { 0 = n }

-- the names of a type table, as a function
abbrev pub type_by_name : TypeTable → Table
type_by_name tt n = type_of (nonterminal_named n) tt

-- what a type table gives types to
abbrev pub table_types : TypeTable → TypeEnvironment
table_types tt = record { terminals = λ t. type_of_terminal t tt; recovery = tt.recovery; names = type_by_name tt }

abbrev pub kind_in : TypeTable → Kind → Option ReprData
kind_in tt k = kind_type (table_types tt) k

abbrev pub type_in : List TypeParameter → TypeTable → TypeData → Option ReprData
type_in ps tt t = type_meant ps (table_types tt) t

abbrev pub types_in : List TypeParameter → TypeTable → TypesData → Option Reprs
types_in ps tt ts = types_meant ps (table_types tt) ts

abbrev pub return_in : List TypeParameter → TypeTable → MaybeType → Option MaybeRepr
return_in ps tt r = return_meant ps (table_types tt) r
