-- A grammar, as far as its trees see it.
use Rattle.std.specs.Prelude.{◌≡◌, ◌⊎◌, ◌<◌, ℕ, Option, Some, None}
use Rattle.lalrpop_norm_theory.specs.Symbols.{Name, ClosedSymbols}

-- An alternative has its written index, from 0, and parts: one ground symbol for each of its symbols. An
-- alternative that is not there, is disabled, lies above the bound or has a false condition has no parts.
pub record Meaning : Type 0 where
  -- the parts of an alternative of a nonterminal within a bound, and how many numbers it has
  pub reference_parts : Name → Option ℕ → ℕ → Option ClosedSymbols
  pub reference_count : Name → ℕ
  -- of these, the alternatives of the bound's own level
  pub own_parts : Name → Option ℕ → ℕ → Option ClosedSymbols
  -- the bound one level down, if there is a lower level
  pub previous : Name → Option ℕ → Option (Option ℕ)
  -- a number that falls from level to level
  pub depth : Name → Option ℕ → ℕ
  -- the parts of an alternative of a macro, its arguments bound to ground symbols, and how many numbers it has
  pub call_parts : Name → ClosedSymbols → ℕ → Option ClosedSymbols
  pub call_count : Name → ℕ

-- each alternative with parts is one of those counted
pub record HasCounts (M : Meaning) : Type 0 where
  pub of_rules : (n : Name) (b : Option ℕ) (k : ℕ) (parts : ClosedSymbols) →
      M.own_parts n b k ≡ Some parts → k < M.reference_count n
  pub of_calls : (n : Name) (args : ClosedSymbols) (k : ℕ) (parts : ClosedSymbols) →
      M.call_parts n args k ≡ Some parts → k < M.call_count n

-- The alternatives within a bound are those of its own level, and those within the bound one level down, which are others.
pub record HasLevels (M : Meaning) : Type 0 where
  pub deeper : (n : Name) (b c : Option ℕ) → M.previous n b ≡ Some c → M.depth n c < M.depth n b
  pub own : (n : Name) (b : Option ℕ) (k : ℕ) (parts : ClosedSymbols) → M.own_parts n b k ≡ Some parts →
      M.reference_parts n b k ≡ Some parts
  pub chained : (n : Name) (b c : Option ℕ) (k : ℕ) (parts : ClosedSymbols) → M.previous n b ≡ Some c →
      M.reference_parts n c k ≡ Some parts → M.reference_parts n b k ≡ Some parts
  pub apart : (n : Name) (b c : Option ℕ) (k : ℕ) (parts : ClosedSymbols) → M.previous n b ≡ Some c →
      M.reference_parts n c k ≡ Some parts → M.own_parts n b k ≡ None
  pub split : (n : Name) (b : Option ℕ) (k : ℕ) (parts : ClosedSymbols) → M.reference_parts n b k ≡ Some parts →
      (M.own_parts n b k ≡ Some parts) ⊎
      ((c : Option ℕ) × (M.own_parts n b k ≡ None) × (M.previous n b ≡ Some c)
      × (M.reference_parts n c k ≡ Some parts))
