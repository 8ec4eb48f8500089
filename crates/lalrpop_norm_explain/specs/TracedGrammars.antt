-- A lowered grammar with its origins, as trees see it.
use Rattle.std.specs.Borrow.{Bor}
use Rattle.std.specs.Prelude.{Bool, List, map, bytes_eq}
use Rattle.std.specs.List.{list_any}
use Rattle.lalrpop_norm_theory.specs.Symbols.{Name}
use Rattle.lalrpop_norm_theory.specs.LoweredTrees as theory
use Rattle.lalrpop_norm_theory.specs.LoweredTrees.{ProductionTable}
use Rattle.lalrpop_norm_tree_names.specs.declared.names.NonterminalString.{NonterminalString}
use Rattle.lalrpop_norm_repr.specs.declared.production.Production.{Production}
use Rattle.lalrpop_norm_repr.specs.declared.symbol.Symbol.{Symbol}
use Rattle.lalrpop_norm_repr.specs.Lookups.{productions_of}
use Rattle.lalrpop_norm_repr.specs.Lowered.{LoweredGrammar, lowered_grammar_view}
use Rattle.lalrpop_norm_repr.specs.Productions.{production_view}
use Rattle.lalrpop_norm_origins.specs.declared.origin.Origin.{Origin}
use Rattle.lalrpop_norm_origins.specs.Origins.{origin_view}
use Rattle.lalrpop_norm_explain.specs.declared.traced.Traced.{Traced}
use Rattle.lalrpop_norm_explain.specs.Derivations.{symbols_view, traced}

abbrev pub grammar_in : Traced → LoweredGrammar
grammar_in t = lowered_grammar_view t.grammar

-- the origins of its actions, in their order
abbrev pub origins_in : Traced → List theory.Origin
origins_in t = map origin_view t.origins.items

abbrev pub production_in : Traced → Production → theory.Production
production_in t p = traced (origins_in t) (production_view p)

-- the grammar: a name has the productions of its row, each with the origin at the number of its action
abbrev pub grammar_of : Traced → ProductionTable
grammar_of t n = map (traced (origins_in t)) (productions_of (record { 0 = n }) (lowered_grammar_view t.grammar))

-- trees may begin at that name
abbrev pub is_root : Traced → Name → Bool
is_root t n = list_any (λ (m : NonterminalString). bytes_eq n m.0) t.rules.keys

-- a production as code hands it out: its symbols and its origin
abbrev pub pair_view : Bor (List Symbol) × Bor Origin → theory.Production
pair_view q = record { origin = origin_view q.1.now; symbols = symbols_view q.0.now }
