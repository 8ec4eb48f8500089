-- The grammar with levels, where each level of a rule is a rule of its own: its symbols, and its relation to the written one.
use Rattle.std.specs.Prelude.{◌≡◌, ℕ, List, map, slice_get, Option, Some, None, option_map}
use Rattle.lalrpop_norm_theory.specs.Symbols.{Name, ClosedSymbol, ClosedSymbols, terminal, error, reference, call, group, star}
use Rattle.lalrpop_norm_theory.specs.Symbols.{plus, question, times, wrapped, lookahead, lookbehind, no_symbols, symbol_and}
use Rattle.lalrpop_norm_theory.specs.Meaning.{Meaning}
use Rattle.lalrpop_norm_theory.specs.LoweredTrees.{Origin, Production, ProductionTable, written}
use Rattle.lalrpop_norm_theory.specs.Clauses.{Clause, clause, clauses}
use Rattle.lalrpop_norm_theory.specs.Rounds.{In}

-- the name of a level's rule; a rule without a bound keeps its name
abbrev pub level_reference : (Name → ℕ → Name) → Name → Option ℕ → Name
level_reference l n None = n
level_reference l n (Some b) = l n b

-- the symbol with each bounded reference as the name of its level
abbrev mutual
  pub leveled_symbol : (Name → ℕ → Name) → ClosedSymbol → ClosedSymbol
  leveled_symbol l (terminal a) = terminal a
  leveled_symbol l error = error
  leveled_symbol l (reference n b) = reference (level_reference l n b) None
  leveled_symbol l (call n args) = call n (leveled_symbols l args)
  leveled_symbol l (group gs) = group (leveled_symbols l gs)
  leveled_symbol l (star x) = star (leveled_symbol l x)
  leveled_symbol l (plus x) = plus (leveled_symbol l x)
  leveled_symbol l (question x) = question (leveled_symbol l x)
  leveled_symbol l (times n x) = times n (leveled_symbol l x)
  leveled_symbol l (wrapped w x) = wrapped w (leveled_symbol l x)
  leveled_symbol l lookahead = lookahead
  leveled_symbol l lookbehind = lookbehind

  pub leveled_symbols : (Name → ℕ → Name) → ClosedSymbols → ClosedSymbols
  leveled_symbols l no_symbols = no_symbols
  leveled_symbols l (symbol_and g gs) = symbol_and (leveled_symbol l g) (leveled_symbols l gs)

-- the origin in the written grammar of what has an origin in the grammar with levels
abbrev pub composed : (Name → ℕ → Origin) → Origin → Origin
composed origin (written n p) = origin n p
composed origin o = o

-- a clause with its origin in the written grammar, and a clause with the names of levels in its parts
abbrev pub composed_clause : (Name → ℕ → Origin) → Clause → Clause
composed_clause origin c = clause (composed origin c.origin) c.parts

abbrev pub leveled_clause : (Name → ℕ → Name) → Clause → Clause
leveled_clause l c = clause c.origin (leveled_symbols l c.parts)

-- L is the grammar with levels of M: index p of the rule of a declared level has its p-th clause, no rule has levels, a call has
-- the same clauses in their order, and each alternative has its origin in M.
pub record IsLeveled (M L : Meaning) (l : Name → ℕ → Name) (origin : Name → ℕ →
    Origin) (declared : List ClosedSymbol) : Type 0 where
  pub rules : (n : Name) (b : Option ℕ) (p : ℕ) → In (reference n b) declared →
      L.reference_parts (level_reference l n b) None p
      ≡ option_map (λ c. leveled_symbols l c.parts) (slice_get (clauses M (reference n b)) p)
  pub flat : (n : Name) → L.previous n None ≡ None
  pub calls : (n : Name) (args : ClosedSymbols) →
      map (composed_clause origin) (clauses L (call n (leveled_symbols l args)))
      ≡ map (leveled_clause l) (clauses M (call n args))
  pub rule_origins : (n : Name) (b : Option ℕ) (p : ℕ) (c : Clause) → In (reference n b) declared →
      slice_get (clauses M (reference n b)) p ≡ Some c → origin (level_reference l n b) p ≡ c.origin

-- a production with its origin in the written grammar
abbrev pub recomposed_production : (Name → ℕ → Origin) → Production → Production
recomposed_production origin q = record { origin = composed origin q.origin; symbols = q.symbols }

-- the same productions, each with its origin in the written grammar
abbrev pub recomposed : (Name → ℕ → Origin) → ProductionTable → ProductionTable
recomposed origin P n = map (recomposed_production origin) (P n)
