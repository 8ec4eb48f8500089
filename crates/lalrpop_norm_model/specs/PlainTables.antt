-- The rules of the expanded grammar (plain rules) as a lowered grammar: their names, and their alternatives as productions.
use Rattle.std.specs.Prelude.{◌≡◌, ℕ, Bool, true, false, List, [], ◌∷◌, length, map, drop}
use Rattle.lalrpop_norm_tree.specs.declared.symbol.RepeatOp.TheVariants.{Star, Plus}
use Rattle.lalrpop_norm_tree.specs.Symbols.{Kind, Part, Parts, terminal, nonterminal, repeated, chosen}
use Rattle.lalrpop_norm_tree.specs.Symbols.{named, tupled, error_terminal, at, no_parts, part_and}
use Rattle.lalrpop_norm_tree.specs.Items.{AlternativeData, RuleData, GrammarData}
use Rattle.lalrpop_norm_tree.specs.SymbolTexts.{kind_text, part_text}
use Rattle.lalrpop_norm_theory.specs.Symbols as theory
use Rattle.lalrpop_norm_theory.specs.Symbols.{ClosedSymbol, ClosedSymbols, wrapped, no_symbols, symbol_and}
use Rattle.lalrpop_norm_theory.specs.Meaning.{Meaning}
use Rattle.lalrpop_norm_theory.specs.LoweredTrees.{LoweredSymbol, terminal_symbol, nonterminal_symbol, Origin, Production}
use Rattle.lalrpop_norm_theory.specs.LoweredTrees.{ProductionTable}
use Rattle.lalrpop_norm_theory.specs.Clauses.{Clause, clauses}
use Rattle.lalrpop_norm_theory.specs.Rounds.{IsDistinct}
use Rattle.lalrpop_norm_theory.specs.Tables.{Rule, table}
use Rattle.lalrpop_norm_model.specs.Scopes.{resolved_grammar}
use Rattle.lalrpop_norm_model.specs.WrittenRules.{flat_rules}
use Rattle.lalrpop_norm_model.specs.Grammars.{ConditionValue, meaning, references}
use Rattle.lalrpop_norm_model.specs.Scoped.{IsScoped}
use Rattle.lalrpop_norm_model.specs.Reading.{terminal_of, read_part, read_all}
use Rattle.lalrpop_norm_model.specs.MadeRules.{flat_reader}
use Rattle.lalrpop_norm_model.specs.PlainRules.{plain_rules}
use Rattle.lalrpop_norm_model.specs.Origins.{plain_origins}
use Rattle.lalrpop_norm_model.specs.Expanded.{rule_names}

-- a grammar whose names are resolved, are declared once and have a meaning
pub record IsSettled (g : GrammarData) : Type 0 where
  pub resolved : resolved_grammar g ≡ g
  pub once : IsDistinct (rule_names g)
  pub scoped : IsScoped (flat_rules g)

-- what a grammar without levels means, and the references that it declares: one for each rule without arguments
abbrev pub flat_meaning : ConditionValue → GrammarData → Meaning
flat_meaning value g = meaning value (flat_rules g)

abbrev pub declared : GrammarData → List ClosedSymbol
declared g = references (flat_rules g)

-- ---- ground symbols of alternatives

-- a written symbol as the ground one that it is if there are no arguments and no bounds
abbrev pub closed : Part → ClosedSymbol
closed p = read_part flat_reader 0 0 p

abbrev pub closed_parts : AlternativeData → ClosedSymbols
closed_parts a = read_all flat_reader a.parts

-- a symbol without what is wrapped around it
abbrev pub ground_unwrapped : ClosedSymbol → ClosedSymbol
ground_unwrapped (wrapped w g) = ground_unwrapped g
ground_unwrapped g = g

abbrev pub all_unwrapped : ClosedSymbols → ClosedSymbols
all_unwrapped no_symbols = no_symbols
all_unwrapped (symbol_and g gs) = symbol_and (ground_unwrapped g) (all_unwrapped gs)

-- in the rules of `X*` and `X+` the symbols have names before them
abbrev pub names_symbols : Part → Bool
names_symbols (at s (repeated Star p)) = true
names_symbols (at s (repeated Plus p)) = true
names_symbols _ = false

-- The rule r is that of the symbol p: it has its text as its name, and its alternatives hold the clauses of p in order, apart
-- from what is wrapped around their symbols. If it names no symbols, they hold them as they are.
pub record IsRuleOf (M : Meaning) (p : Part) (r : RuleData) : Type 0 where
  pub name : r.name.0 ≡ part_text p
  pub clauses_held : map (λ (a : AlternativeData). all_unwrapped (closed_parts a)) r.alternatives
      ≡ map (λ (c : Clause). all_unwrapped c.parts) (clauses M (closed p))
  pub held_as_they_are : names_symbols p ≡ false →
      map closed_parts r.alternatives ≡ map (λ (c : Clause). c.parts) (clauses M (closed p))

-- ---- productions

-- The symbol of a production that a symbol of the expanded grammar becomes: a terminal, `!` as the error terminal, a wrapped
-- symbol as what is in it, any other as the nonterminal of its text.
abbrev mutual
  pub plain_symbol_kind : Kind → LoweredSymbol
  plain_symbol_kind (terminal t) = terminal_symbol (terminal_of t)
  plain_symbol_kind error_terminal = terminal_symbol theory.error_terminal
  plain_symbol_kind (chosen p) = lowered_part p
  plain_symbol_kind (named n p) = lowered_part p
  plain_symbol_kind (tupled ns p) = lowered_part p
  plain_symbol_kind k = nonterminal_symbol (kind_text k)

  pub lowered_part : Part → LoweredSymbol
  lowered_part (at s k) = plain_symbol_kind k

abbrev pub lowered_parts : Parts → List LoweredSymbol
lowered_parts no_parts = []
lowered_parts (part_and p ps) = lowered_part p ∷ lowered_parts ps

-- alternatives as productions, each with the next of the origins
abbrev pub productions_with_origins : List Origin → List AlternativeData → List Production
productions_with_origins origins [] = []
productions_with_origins [] (a ∷ xs) = []
productions_with_origins (o ∷ origins) (a ∷ xs) =
    record { origin = o; symbols = lowered_parts a.parts } ∷ productions_with_origins origins xs

-- rules as those of a lowered grammar, where the origins are one for each alternative, in order
abbrev pub rules_from : List Origin → List RuleData → List Rule
rules_from origins [] = []
rules_from origins (r ∷ rs) =
    record { name = r.name.0; productions = productions_with_origins origins r.alternatives }
    ∷ rules_from (drop (length r.alternatives) origins) rs

-- the rules of the expanded grammar after the first `count` rounds, by name, each alternative with the origin of its clause
abbrev pub plain_table : ConditionValue → GrammarData → ℕ → ProductionTable
plain_table value g count =
    table (rules_from (plain_origins (flat_meaning value g) (declared g) count) (plain_rules value g count))
