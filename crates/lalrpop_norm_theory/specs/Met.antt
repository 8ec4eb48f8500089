-- What rules reach (`met`), and which symbols are known once nothing new is reached.
use Rattle.std.specs.Prelude.{◌≡◌, ℕ, Option, Some, List, [], ◌∷◌, ◌++◌, flat_map}
use Rattle.lalrpop_norm_theory.specs.Symbols.{Name, ClosedSymbol, ClosedSymbols, terminal, error, reference, call, group, star}
use Rattle.lalrpop_norm_theory.specs.Symbols.{plus, question, times, wrapped, lookahead, lookbehind, no_symbols, symbol_and}
use Rattle.lalrpop_norm_theory.specs.Meaning.{Meaning}
use Rattle.lalrpop_norm_theory.specs.Clauses.{Clause, clauses}
use Rattle.lalrpop_norm_theory.specs.Rounds.{In, Round, rounds, all_rules_made}
use Rattle.lalrpop_norm_theory.specs.Same.{same_symbol}

-- A call, group or repeat reaches what its parts reach, then itself; a wrapped symbol what its inner symbol reaches; a location
-- symbol itself; all else nothing.
abbrev mutual
  pub meets : ClosedSymbol → List ClosedSymbol
  meets (terminal a) = []
  meets error = []
  meets (reference n b) = []
  meets (call n args) = meets_all args ++ call n args ∷ []
  meets (group gs) = meets_all gs ++ group gs ∷ []
  meets (star x) = meets x ++ star x ∷ []
  meets (plus x) = meets x ++ plus x ∷ []
  meets (question x) = meets x ++ question x ∷ []
  meets (times n x) = meets x ++ times n x ∷ []
  meets (wrapped w g) = meets g
  meets lookahead = lookahead ∷ []
  meets lookbehind = lookbehind ∷ []

  pub meets_all : ClosedSymbols → List ClosedSymbol
  meets_all no_symbols = []
  meets_all (symbol_and g gs) = meets g ++ meets_all gs

-- what clauses reach, in their order
abbrev pub clauses_meet : List Clause → List ClosedSymbol
clauses_meet cs = flat_map (λ (c : Clause). meets_all c.parts) cs

-- what the rule of a symbol reaches
abbrev pub rule_meets : Meaning → ClosedSymbol → List ClosedSymbol
rule_meets M g = clauses_meet (clauses M g)

-- the state of an expansion after round k + 1, where round 1 reads the rules of the declared symbols in order
abbrev pub expansion : Meaning → List ClosedSymbol → ℕ → Round ClosedSymbol
expansion M declared k = rounds same_symbol (rule_meets M) (flat_map (rule_meets M) declared) k

-- the symbols of the generated rules in the first `count` rounds, in the order of the rules
abbrev pub expanded_symbols : Meaning → List ClosedSymbol → ℕ → List ClosedSymbol
expanded_symbols M declared count = all_rules_made same_symbol (rule_meets M) (flat_map (rule_meets M) declared) count

-- a symbol that an expansion desugars
abbrev pub BecomesRule : ClosedSymbol → Type 0
BecomesRule (terminal a) = ⊥
BecomesRule error = ⊥
BecomesRule (reference n b) = ⊥
BecomesRule (wrapped w g) = ⊥
BecomesRule _ = Unit {0}

-- A symbol is known, wrappers aside: a terminal, a declared reference, or reached.
abbrev pub IsKnown : List ClosedSymbol → List ClosedSymbol → ClosedSymbol → Type 0
IsKnown declared met (terminal a) = Unit {0}
IsKnown declared met error = Unit {0}
IsKnown declared met (reference n b) = In (reference n b) declared
IsKnown declared met (wrapped w g) = IsKnown declared met g
IsKnown declared met g = In g met

-- the references in the symbols, wrappers aside, are declared
abbrev pub IsDeclaredIn : List ClosedSymbol → ClosedSymbol → Type 0
IsDeclaredIn declared (reference n b) = In (reference n b) declared
IsDeclaredIn declared (wrapped w g) = IsDeclaredIn declared g
IsDeclaredIn declared _ = Unit {0}

-- the references in several symbols, wrappers aside, are declared
abbrev pub AreDeclaredIn : List ClosedSymbol → ClosedSymbols → Type 0
AreDeclaredIn declared no_symbols = Unit {0}
AreDeclaredIn declared (symbol_and g gs) = IsDeclaredIn declared g × AreDeclaredIn declared gs

-- all references in a symbol, also inside of its parts, are declared
abbrev mutual
  pub IsResolvedIn : List ClosedSymbol → ClosedSymbol → Type 0
  IsResolvedIn declared (terminal a) = Unit {0}
  IsResolvedIn declared error = Unit {0}
  IsResolvedIn declared (reference n b) = In (reference n b) declared
  IsResolvedIn declared (call n args) = AreResolvedIn declared args
  IsResolvedIn declared (group gs) = AreResolvedIn declared gs
  IsResolvedIn declared (star x) = IsResolvedIn declared x
  IsResolvedIn declared (plus x) = IsResolvedIn declared x
  IsResolvedIn declared (question x) = IsResolvedIn declared x
  IsResolvedIn declared (times n x) = IsResolvedIn declared x
  IsResolvedIn declared (wrapped w g) = IsResolvedIn declared g
  IsResolvedIn declared lookahead = Unit {0}
  IsResolvedIn declared lookbehind = Unit {0}

  pub AreResolvedIn : List ClosedSymbol → ClosedSymbols → Type 0
  AreResolvedIn declared no_symbols = Unit {0}
  AreResolvedIn declared (symbol_and g gs) = IsResolvedIn declared g × AreResolvedIn declared gs

-- The declared references are closed: their alternatives refer only to declared ones, the level below each is declared, and
-- a macro called by resolved arguments has resolved alternatives.
pub record IsResolved (M : Meaning) (declared : List ClosedSymbol) : Type 0 where
  pub rules : (n : Name) (b : Option ℕ) (k : ℕ) (parts : ClosedSymbols) → In (reference n b) declared →
      M.reference_parts n b k ≡ Some parts → AreResolvedIn declared parts
  pub levels : (n : Name) (b c : Option ℕ) → In (reference n b) declared → M.previous n b ≡ Some c →
      In (reference n c) declared
  pub macros : (n : Name) (args : ClosedSymbols) (k : ℕ) (parts : ClosedSymbols) → AreResolvedIn declared args →
      M.call_parts n args k ≡ Some parts → AreResolvedIn declared parts
