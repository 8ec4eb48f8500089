-- The rule of a ground symbol: its clauses (productions over ground symbols), each with its origin, and the productions that they
-- become under given names.
use Rattle.std.specs.Prelude.{ℕ, zero, suc, List, [], ◌∷◌, ◌++◌, Option, Some, None}
use Rattle.lalrpop_norm_theory.specs.Symbols.{Name, error_terminal, ClosedSymbol, ClosedSymbols, terminal, error, reference, call}
use Rattle.lalrpop_norm_theory.specs.Symbols.{group, star, plus, question, times, wrapped, lookahead, lookbehind, no_symbols}
use Rattle.lalrpop_norm_theory.specs.Symbols.{symbol_and, only, replicated}
use Rattle.lalrpop_norm_theory.specs.Meaning.{Meaning}
use Rattle.lalrpop_norm_theory.specs.LoweredTrees.{Origin, LoweredSymbol, Production, terminal_symbol, nonterminal_symbol}
use Rattle.lalrpop_norm_theory.specs.LoweredTrees.{written, level_step, from_group, star_empty, star_some, plus_one, plus_more}
use Rattle.lalrpop_norm_theory.specs.LoweredTrees.{question_some, question_empty, from_times, from_lookahead, from_lookbehind}

-- an alternative of a rule: its origin, and its symbols
pub record Clause : Type 0 where
  pub origin : Origin
  pub parts : ClosedSymbols

-- a clause, in one line
abbrev pub clause : Origin → ClosedSymbols → Clause
clause o parts = record { origin = o; parts = parts }

-- the clause of alternative k before the rest, if it has parts
abbrev pub clause_and : Name → ℕ → Option ClosedSymbols → List Clause → List Clause
clause_and n k None rest = rest
clause_and n k (Some parts) rest = clause (written n k) parts ∷ rest

-- the clauses of the alternatives from number k on that have parts, `left` numbers in all
abbrev pub numbered : Name → (ℕ → Option ClosedSymbols) → ℕ → ℕ → List Clause
numbered n f k zero = []
numbered n f k (suc left) = clause_and n k (f k) (numbered n f (suc k) left)

-- the clauses of a level's own alternatives
abbrev pub own_clauses : Meaning → Name → Option ℕ → List Clause
own_clauses M n b = numbered n (M.own_parts n b) 0 (M.reference_count n)

-- the step to the level below, if there is one
abbrev pub step_clauses : Name → Option (Option ℕ) → List Clause
step_clauses n None = []
step_clauses n (Some b) = clause level_step (only (reference n b)) ∷ []

-- The rule of a ground symbol. A terminal, `!` and a wrapped symbol have none.
abbrev pub clauses : Meaning → ClosedSymbol → List Clause
clauses M (terminal a) = []
clauses M error = []
clauses M (wrapped w g) = []
clauses M (reference n b) = own_clauses M n b ++ step_clauses n (M.previous n b)
clauses M (call n args) = numbered n (M.call_parts n args) 0 (M.call_count n)
clauses M (group gs) = clause from_group gs ∷ []
clauses M (star x) = clause star_empty no_symbols ∷ (clause star_some (only (plus x)) ∷ [])
clauses M (plus x) = clause plus_one (only x) ∷ (clause plus_more (symbol_and (plus x) (only x)) ∷ [])
clauses M (question x) = clause question_some (only x) ∷ (clause question_empty no_symbols ∷ [])
clauses M (times n x) = clause from_times (replicated n x) ∷ []
clauses M lookahead = clause from_lookahead no_symbols ∷ []
clauses M lookbehind = clause from_lookbehind no_symbols ∷ []

-- the symbol of a production that represents a ground symbol
abbrev pub symbol_of : (ClosedSymbol → Name) → ClosedSymbol → LoweredSymbol
symbol_of name (terminal a) = terminal_symbol a
symbol_of name error = terminal_symbol error_terminal
symbol_of name (wrapped w g) = symbol_of name g
symbol_of name g = nonterminal_symbol (name g)

-- one for each symbol
abbrev pub symbols_of : (ClosedSymbol → Name) → ClosedSymbols → List LoweredSymbol
symbols_of name no_symbols = []
symbols_of name (symbol_and g gs) = symbol_of name g ∷ symbols_of name gs

-- a clause as a production
abbrev pub clause_production : (ClosedSymbol → Name) → Clause → Production
clause_production name c = record { origin = c.origin; symbols = symbols_of name c.parts }

-- the ground symbols that have a rule
abbrev pub IsNonterminal : ClosedSymbol → Type 0
IsNonterminal (terminal a) = ⊥
IsNonterminal error = ⊥
IsNonterminal (wrapped w g) = ⊥
IsNonterminal _ = Unit {0}
