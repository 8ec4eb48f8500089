-- Symbols, productions and nonterminals as plain data.
use Rattle.std.specs.Prelude.{List, map}
use Rattle.lalrpop_norm_tree_names.specs.declared.names.NonterminalString.{NonterminalString}
use Rattle.lalrpop_norm_tree_names.specs.declared.names.Span.{Span}
use Rattle.lalrpop_norm_tree_parts.specs.Attributes.{Attributes, attributes_view}
use Rattle.lalrpop_norm_tree.specs.Items.{VisibilityData, visibility_view}
use Rattle.lalrpop_norm_repr.specs.declared.action.ActionFn.{ActionFn}
use Rattle.lalrpop_norm_repr.specs.declared.production.NonterminalData.{NonterminalData}
use Rattle.lalrpop_norm_repr.specs.declared.production.Production.{Production}
use Rattle.lalrpop_norm_repr.specs.declared.symbol.Symbol.{Symbol}
use Rattle.lalrpop_norm_repr.specs.declared.symbol.Symbol.TheVariants.{Nonterminal, Terminal}

abbrev pub IsTerminal : Symbol → Type 0
IsTerminal (Terminal t) = Unit {0}
IsTerminal (Nonterminal n) = ⊥

pub record ProductionData : Type 0 where
  pub nonterminal : NonterminalString
  pub symbols : List Symbol
  pub action : ActionFn
  pub span : Span

abbrev pub production_view : Production → ProductionData
production_view p = record { nonterminal = p.nonterminal; symbols = p.symbols.items; action = p.action; span = p.span }

-- a nonterminal of a lowered grammar
pub record EntryData : Type 0 where
  pub visibility : VisibilityData
  pub span : Span
  pub attributes : Attributes
  pub productions : List ProductionData

abbrev pub nonterminal_data_view : NonterminalData → EntryData
nonterminal_data_view n =
    record {
      visibility = visibility_view n.visibility;
      span = n.span;
      attributes = attributes_view n.attributes.items;
      productions = map production_view n.productions.items;
    }
