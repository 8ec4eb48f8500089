-- Names by text: what a lowered grammar and its names must satisfy to be that of the known symbols.
use Rattle.std.specs.Prelude.{◌≡◌, ℕ, List, [], ◌∷◌, ◌++◌, map, bytes_eq, if◌then◌else◌, slice_get, Some}
use Rattle.lalrpop_norm_theory.specs.Symbols.{Name, Wrapper, ClosedSymbol, ClosedSymbols, wrapped, no_symbols, symbol_and}
use Rattle.lalrpop_norm_theory.specs.Meaning.{Meaning}
use Rattle.lalrpop_norm_theory.specs.LoweredTrees.{ProductionTable, Production}
use Rattle.lalrpop_norm_theory.specs.Clauses.{Clause, clauses, clause_production, IsNonterminal}
use Rattle.lalrpop_norm_theory.specs.Rounds.{In}
use Rattle.lalrpop_norm_theory.specs.Met.{rule_meets, AreDeclaredIn}

-- each of several symbols is known
abbrev pub AllKnown : (ClosedSymbol → Type 0) → ClosedSymbols → Type 0
AllKnown Known no_symbols = Unit {0}
AllKnown Known (symbol_and g gs) = Known g × AllKnown Known gs

-- P has, under the name of each known symbol, the productions of its clauses; and what a known symbol's rule is made of is
-- known.
pub record Realizes (M : Meaning) (name : ClosedSymbol →
    Name) (P : ProductionTable) (Known : ClosedSymbol → Type 0) : Type 0 where
  pub productions : (g : ClosedSymbol) → IsNonterminal g → Known g →
      P (name g) ≡ map (clause_production name) (clauses M g)
  pub inner : (w : Wrapper) (g : ClosedSymbol) → Known (wrapped w g) → Known g
  pub parts_known : (g : ClosedSymbol) (p : ℕ) (c : Clause) → Known g →
      slice_get (clauses M g) p ≡ Some c → AllKnown Known c.parts

-- a rule of a lowered grammar
pub record Rule : Type 0 where
  pub name : Name
  pub productions : List Production

-- a list of rules as a lowered grammar: a name has the productions of the first rule of that name
abbrev pub table : List Rule → ProductionTable
table [] n = []
table (r ∷ rs) n = if bytes_eq r.name n then r.productions else table rs n

-- the rule of a ground symbol under its name
abbrev pub rule_of_symbol : Meaning → (ClosedSymbol → Name) → ClosedSymbol → Rule
rule_of_symbol M name g = record { name = name g; productions = map (clause_production name) (clauses M g) }

-- each name means one rule: two symbols share a name only where they have the same clauses
abbrev pub OneRuleAName : Meaning → (ClosedSymbol → Name) → List ClosedSymbol → Type 0
OneRuleAName M name gs = (g h : ClosedSymbol) → In g gs → In h gs → name g ≡ name h → clauses M g ≡ clauses M h

-- The symbol g has the name and the clauses of a declared one, as a rule taken by itself has those of its highest level.
abbrev pub SharesRule : Meaning → (ClosedSymbol → Name) → List ClosedSymbol → ClosedSymbol → Type 0
SharesRule M name declared g = (h : ClosedSymbol) × In h declared × (name g ≡ name h) × (clauses M g ≡ clauses M h)

-- The declared and the reached symbols are a complete expansion in which each name means one rule, and roots share declared
-- rules.
pub record Stands (M : Meaning) (name : ClosedSymbol → Name) (roots declared met : List ClosedSymbol) : Type 0 where
  pub distinct : OneRuleAName M name (declared ++ met)
  pub shared : (g : ClosedSymbol) → In g roots → SharesRule M name declared g
  -- each reference in a rule is declared
  pub resolved : (g : ClosedSymbol) → In g (declared ++ met) → (p : ℕ) (c : Clause) →
      slice_get (clauses M g) p ≡ Some c →
      AreDeclaredIn declared c.parts
  -- what a rule reaches is reached
  pub done : (g h : ClosedSymbol) → In g (declared ++ met) → In h (rule_meets M g) → In h met
