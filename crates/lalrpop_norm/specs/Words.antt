-- Words of written symbols and of names of a lowered grammar.
use Rattle.std.specs.Prelude.{◌≡◌, List}
use Rattle.lalrpop_norm_theory.specs.Symbols as written
use Rattle.lalrpop_norm_theory.specs.Symbols.{Name, ClosedSymbol}
use Rattle.lalrpop_norm_theory.specs.Meaning.{Meaning}
use Rattle.lalrpop_norm_theory.specs.WrittenTrees.{WrittenTree, IsTreeOf, yield}
use Rattle.lalrpop_norm_theory.specs.LoweredTrees.{nonterminal_symbol, ProductionTable, LoweredTree, IsDerivation, lowered_yield}

-- a word of a written symbol: the leaves of one of its trees
abbrev pub IsWrittenWord : Meaning → ClosedSymbol → List written.Terminal → Type 0
IsWrittenWord M s w = (t : WrittenTree) × IsTreeOf M t s × (yield t ≡ w)

-- a word of a name: the leaves of one of its derivation trees
abbrev pub IsWordOf : ProductionTable → Name → List written.Terminal → Type 0
IsWordOf P n w = (u : LoweredTree) × IsDerivation P u (nonterminal_symbol n) × (lowered_yield u ≡ w)
