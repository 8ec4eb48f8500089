-- The origins of the alternatives of the expanded grammar, in order, and of the actions of a lowered grammar.
use Rattle.std.specs.Prelude.{ℕ, List, ◌++◌, map, flat_map, replicate}
use Rattle.lalrpop_norm_theory.specs.Symbols.{ClosedSymbol}
use Rattle.lalrpop_norm_theory.specs.Meaning.{Meaning}
use Rattle.lalrpop_norm_theory.specs.LoweredTrees.{Origin, from_start}
use Rattle.lalrpop_norm_theory.specs.Clauses.{Clause, clauses}
use Rattle.lalrpop_norm_theory.specs.Met.{expanded_symbols}

-- the origins of the alternatives of a symbol's rule
abbrev pub rule_origins : Meaning → ClosedSymbol → List Origin
rule_origins M g = map (λ (c : Clause). c.origin) (clauses M g)

-- The symbols of the rules of the expanded grammar, in order: the declared references, then those desugared in the first `count`
-- rounds.
abbrev pub plain_symbols : Meaning → List ClosedSymbol → ℕ → List ClosedSymbol
plain_symbols M declared count = declared ++ expanded_symbols M declared count

-- one for each alternative of the expanded grammar
abbrev pub plain_origins : Meaning → List ClosedSymbol → ℕ → List Origin
plain_origins M declared count = flat_map (rule_origins M) (plain_symbols M declared count)

-- One for each action: that of each start symbol, then those of the alternatives.
abbrev pub action_origins : ℕ → Meaning → List ClosedSymbol → ℕ → List Origin
action_origins starts M declared count = replicate starts from_start ++ plain_origins M declared count
