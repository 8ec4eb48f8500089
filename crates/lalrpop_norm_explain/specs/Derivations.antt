-- The derivation trees of a lowered grammar: its productions, each with the origin of its action.
use Rattle.std.specs.Prelude.{List, map, slice_get, unwrap_or}
use Rattle.lalrpop_norm_repr.specs.declared.symbol.Symbol.{Symbol}
use Rattle.lalrpop_norm_repr.specs.declared.symbol.Symbol.TheVariants.{Nonterminal, Terminal}
use Rattle.lalrpop_norm_repr.specs.Actions.{action_index}
use Rattle.lalrpop_norm_repr.specs.Productions.{ProductionData}
use Rattle.lalrpop_norm_repr.specs.Lowered as lowered
use Rattle.lalrpop_norm_repr.specs.Lookups.{productions_of}
use Rattle.lalrpop_norm_theory.specs.LoweredTrees.{LoweredSymbol, terminal_symbol, nonterminal_symbol, Origin, from_start}
use Rattle.lalrpop_norm_theory.specs.LoweredTrees.{Production, ProductionTable}
use Rattle.lalrpop_norm_model.specs.Reading.{terminal_of}

-- a symbol as trees see it
abbrev pub tree_symbol : Symbol → LoweredSymbol
tree_symbol (Terminal t) = terminal_symbol (terminal_of t)
tree_symbol (Nonterminal n) = nonterminal_symbol n.0

abbrev pub symbols_view : List Symbol → List LoweredSymbol
symbols_view ss = map tree_symbol ss

-- a production with the origin at the number of its action
abbrev pub traced : List Origin → ProductionData → Production
traced origins p =
    record { origin = unwrap_or (slice_get origins (action_index p.action)) from_start; symbols = map tree_symbol p.symbols }

-- the lowered grammar as trees see it, with the origins of its actions in their order
abbrev pub derivations : List Origin → lowered.LoweredGrammar → ProductionTable
derivations origins l n = map (traced origins) (productions_of (record { 0 = n }) l)
