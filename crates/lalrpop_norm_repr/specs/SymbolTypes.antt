-- The types of symbols.
use Rattle.std.specs.Prelude.{Option, Some, IsSome}
use Rattle.lalrpop_norm_tree_parts.specs.Reprs.{ReprData}
use Rattle.lalrpop_norm_repr.specs.declared.symbol.Symbol.{Symbol}
use Rattle.lalrpop_norm_repr.specs.declared.symbol.Symbol.TheVariants.{Nonterminal, Terminal}
use Rattle.lalrpop_norm_repr.specs.Tables.{TypeTable, type_of, type_of_terminal}

-- what a symbol gives an action; a nonterminal may have no type yet
abbrev pub symbol_type : Symbol → TypeTable → Option ReprData
symbol_type (Nonterminal n) table = type_of n table
symbol_type (Terminal t) table = Some (type_of_terminal t table)

abbrev pub HasSymbolType : Symbol → TypeTable → Type 0
HasSymbolType s table = IsSome (symbol_type s table)
