-- The values of bounds and conditions: the bounds of all recursive occurrences of an alternative by its associativity, and when a
-- condition is true.
use Rattle.std.specs.Prelude.{◌≡◌, ℕ, zero, suc, true, List, [], ◌∷◌, ◌++◌, replicate, Option, Some, None}
use Rattle.std.specs.Prelude.{bytes_eq, if◌then◌else◌}
use Rattle.lalrpop_norm_tree_names.specs.declared.names.NonterminalString.{NonterminalString}
use Rattle.lalrpop_norm_tree.specs.declared.items.Condition.{Condition}
use Rattle.lalrpop_norm_theory.specs.Symbols.{Name, quoted, ClosedSymbol, ClosedSymbols, terminal, error, reference, call, group}
use Rattle.lalrpop_norm_theory.specs.Symbols.{star, plus, question, times, wrapped, lookahead, lookbehind, no_symbols, symbol_and}
use Rattle.lalrpop_norm_model.specs.Levels.{Side, left, right, neither, every}
use Rattle.lalrpop_norm_model.specs.Grammars.{ConditionValue, bound_argument}

-- the bounds of the references to a name, in reading order
abbrev mutual
  pub bounds_to : Name → ClosedSymbol → List (Option ℕ)
  bounds_to n (reference m b) = if bytes_eq m n then b ∷ [] else []
  bounds_to n (call m args) = all_bounds_to n args
  bounds_to n (group gs) = all_bounds_to n gs
  bounds_to n (star x) = bounds_to n x
  bounds_to n (plus x) = bounds_to n x
  bounds_to n (question x) = bounds_to n x
  bounds_to n (times k x) = bounds_to n x
  bounds_to n (wrapped w x) = bounds_to n x
  bounds_to n (terminal t) = []
  bounds_to n error = []
  bounds_to n lookahead = []
  bounds_to n lookbehind = []

  pub all_bounds_to : Name → ClosedSymbols → List (Option ℕ)
  all_bounds_to n no_symbols = []
  all_bounds_to n (symbol_and g gs) = bounds_to n g ++ all_bounds_to n gs

-- The bounds of that many recursive occurrences: `left` has the current level first and else the previous one, `right` has it
-- last, `none` has only the previous one, `all` only the current one.
abbrev pub bounds_by : Side → ℕ → ℕ → ℕ → List ℕ
bounds_by left current previous zero = []
bounds_by left current previous (suc k) = current ∷ replicate k previous
bounds_by right current previous zero = []
bounds_by right current previous (suc k) = replicate k previous ++ current ∷ []
bounds_by neither current previous k = replicate k previous
bounds_by every current previous k = replicate k current

-- A condition is true if its left operand is bound to a quoted literal and its operator holds of that; an absent one is true.
abbrev pub IsTrue : ConditionValue → List NonterminalString → ClosedSymbols → Option Condition → Type 0
IsTrue value params args None = Unit {0}
IsTrue value params args (Some c) =
    (text : Name) × (bound_argument params args c.lhs.0 ≡ Some (terminal (quoted text))) × (value c.op text c.rhs ≡ true)
