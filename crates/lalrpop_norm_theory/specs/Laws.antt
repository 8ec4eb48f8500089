-- What is proved of trees, levels and rounds, each statement in one piece. The functions of the crate carry them.
use Rattle.std.specs.Prelude.{◌≡◌, ◌↔◌, ◌<◌, ℕ, suc, List, [], ◌++◌, map, reverse, flat_map}
use Rattle.lalrpop_norm_theory.specs.Symbols.{Name, Terminal, ClosedSymbol}
use Rattle.lalrpop_norm_theory.specs.Meaning.{Meaning, HasCounts, HasLevels}
use Rattle.lalrpop_norm_theory.specs.WrittenTrees.{WrittenTree, IsTreeOf, yield, alternatives}
use Rattle.lalrpop_norm_theory.specs.LoweredTrees.{LoweredTree, ProductionTable, Origin, IsDerivation, lowered_yield}
use Rattle.lalrpop_norm_theory.specs.LoweredTrees.{written_origins}
use Rattle.lalrpop_norm_theory.specs.Clauses.{symbol_of}
use Rattle.lalrpop_norm_theory.specs.Pairs.{Pairs}
use Rattle.lalrpop_norm_theory.specs.Translations.{lowered_tree, written_tree}
use Rattle.lalrpop_norm_theory.specs.Rounds.{In, Chain, NewIn, IsInOrderOf, IsDistinct, IsTest}
use Rattle.lalrpop_norm_theory.specs.Same.{same_symbol}
use Rattle.lalrpop_norm_theory.specs.Met.{meets, rule_meets, expansion, expanded_symbols, BecomesRule, IsKnown, IsResolvedIn}
use Rattle.lalrpop_norm_theory.specs.Met.{IsResolved}
use Rattle.lalrpop_norm_theory.specs.Tables.{Realizes, OneRuleAName, SharesRule, Stands, table, rule_of_symbol}
use Rattle.lalrpop_norm_theory.specs.Leveled.{leveled_symbol, IsLeveled, recomposed}
use Rattle.lalrpop_norm_theory.specs.Steps.{Steps, written_alternatives}

-- one thing and no other
abbrev pub ExactlyOne : {A : Type 0} → (A → Type 0) → Type 0
ExactlyOne {A} P = (x : A) × P x × ((y : A) → P y → y ≡ x)

-- the written trees of g and the derivation trees of its symbol correspond one to one, with the same words and alternatives
pub record OneToOne (M : Meaning) (name : ClosedSymbol → Name) (P : ProductionTable) (g : ClosedSymbol) : Type 0 where
  pub down : (t : WrittenTree) → IsTreeOf M t g → ExactlyOne (λ u. IsDerivation P u (symbol_of name g) × Pairs M name g t u)
  pub up : (u : LoweredTree) → IsDerivation P u (symbol_of name g) → ExactlyOne (λ t. IsTreeOf M t g × Pairs M name g t u)
  pub same_yields : (t : WrittenTree) (u : LoweredTree) → Pairs M name g t u → yield t ≡ lowered_yield u
  pub same_alternatives : (t : WrittenTree) (u : LoweredTree) → Pairs M name g t u → alternatives t ≡ written_origins P u

-- In a lowered grammar that realizes the known symbols, the trees of each known symbol are one to one.
abbrev pub TreesAreOneToOne : Type 0
TreesAreOneToOne = (M : Meaning) → HasCounts M → HasLevels M →
    (name : ClosedSymbol → Name) (P : ProductionTable) (declared met : List ClosedSymbol) →
    Realizes M name P (IsKnown declared met) →
    (g : ClosedSymbol) → IsKnown declared met g → OneToOne M name P g

-- A word has a written tree if and only if it has a lowered one.
abbrev pub WordsAreTheSame : Type 0
WordsAreTheSame = (M : Meaning) → HasCounts M → HasLevels M →
    (name : ClosedSymbol → Name) (P : ProductionTable) (declared met : List ClosedSymbol) →
    Realizes M name P (IsKnown declared met) →
    (g : ClosedSymbol) → IsKnown declared met g → (w : List Terminal) →
    ((t : WrittenTree) × IsTreeOf M t g × (yield t ≡ w))
    ↔ ((u : LoweredTree) × IsDerivation P u (symbol_of name g) × (lowered_yield u ≡ w))

-- the translations answer the trees that correspond to their arguments, and each undoes the other
pub record TranslationsFit (M : Meaning) (name : ClosedSymbol → Name) (P : ProductionTable) (g : ClosedSymbol) : Type 0 where
  pub forward : (t : WrittenTree) → IsTreeOf M t g →
      IsDerivation P (lowered_tree M name t g) (symbol_of name g) × Pairs M name g t (lowered_tree M name t g)
  pub back : (u : LoweredTree) → IsDerivation P u (symbol_of name g) →
      IsTreeOf M (written_tree P u) g × Pairs M name g (written_tree P u) u
  pub back_forward : (t : WrittenTree) → IsTreeOf M t g → written_tree P (lowered_tree M name t g) ≡ t
  pub forward_back : (u : LoweredTree) → IsDerivation P u (symbol_of name g) → lowered_tree M name (written_tree P u) g ≡ u
  -- corresponding trees are the translations of one another
  pub paired : (t : WrittenTree) (u : LoweredTree) → Pairs M name g t u →
      (lowered_tree M name t g ≡ u) × (written_tree P u ≡ t)

-- In a lowered grammar that realizes the known symbols, the translations of each known symbol fit.
abbrev pub TranslationsAreInverse : Type 0
TranslationsAreInverse = (M : Meaning) → HasCounts M → HasLevels M →
    (name : ClosedSymbol → Name) (P : ProductionTable) (declared met : List ClosedSymbol) →
    Realizes M name P (IsKnown declared met) →
    (g : ClosedSymbol) → IsKnown declared met g → TranslationsFit M name P g

-- The list of rules of a complete expansion is a lowered grammar that realizes its symbols, and the roots.
abbrev pub RulesRealize : Type 0
RulesRealize =
    (M : Meaning) (name : ClosedSymbol → Name) (roots declared met : List ClosedSymbol) → Stands M name roots declared met →
    Realizes M name (table (map (rule_of_symbol M name) (declared ++ met))) (IsKnown (roots ++ declared) met)

-- the written trees of g and the trees of the grammar with levels correspond one to one, with the same words and alternatives
pub record StepsAreOneToOne (M L : Meaning) (l : Name → ℕ → Name) (origin : Name → ℕ →
    Origin) (g : ClosedSymbol) : Type 0 where
  pub down : (t : WrittenTree) → IsTreeOf M t g → ExactlyOne (λ m. IsTreeOf L m (leveled_symbol l g) × Steps M L l g t m)
  pub up : (m : WrittenTree) → IsTreeOf L m (leveled_symbol l g) → ExactlyOne (λ t. IsTreeOf M t g × Steps M L l g t m)
  pub same_yields : (t m : WrittenTree) → Steps M L l g t m → yield t ≡ yield m
  pub same_alternatives : (t m : WrittenTree) → Steps M L l g t m → alternatives t ≡ written_alternatives origin m

-- a ground symbol under the name that its symbol has in the grammar with levels
abbrev pub level_named : (Name → ℕ → Name) → (ClosedSymbol → Name) → ClosedSymbol → Name
level_named l name g = name (leveled_symbol l g)

-- The pairing made of two steps: written trees within bounds against trees of the grammar with levels L; then these against
-- the trees of the grammar P lowered from L. The whole is the pairing itself, in P with its origins in the written grammar.
pub record PairsInTwoSteps (M L : Meaning) (l : Name → ℕ → Name) (origin : Name → ℕ → Origin) (name : ClosedSymbol →
    Name) (P : ProductionTable) (g : ClosedSymbol) : Type 0 where
  pub first : StepsAreOneToOne M L l origin g
  pub second : OneToOne L name P (leveled_symbol l g)
  pub whole : OneToOne M (level_named l name) (recomposed origin P) g
  pub joined : (t m : WrittenTree) (u : LoweredTree) → Steps M L l g t m → Pairs L name (leveled_symbol l g) m u →
      Pairs M (level_named l name) g t u
  pub parted : (t : WrittenTree) (u : LoweredTree) → Pairs M (level_named l name) g t u →
      (m : WrittenTree) × Steps M L l g t m × Pairs L name (leveled_symbol l g) m u

-- For resolved symbols that are known in the grammar with levels, the pairing is made of two steps.
abbrev pub LevelsAreTwoSteps : Type 0
LevelsAreTwoSteps =
    (M L : Meaning) (l : Name → ℕ → Name) (origin : Name → ℕ → Origin) (references : List ClosedSymbol) →
    IsResolved M references → IsLeveled M L l origin references → HasCounts M → HasLevels M →
    HasCounts L → HasLevels L →
    (name : ClosedSymbol → Name) (P : ProductionTable) (declared met : List ClosedSymbol) →
    Realizes L name P (IsKnown declared met) →
    (g : ClosedSymbol) → IsResolvedIn references g → IsKnown declared met (leveled_symbol l g) →
    PairsInTwoSteps M L l origin name P g

-- What is new in round k + 1 is what has a chain of k + 1 rules and no shorter one.
abbrev pub RoundsAreShortestChains : Type 0
RoundsAreShortestChains = (M : Meaning) (declared : List ClosedSymbol) (k : ℕ) (x : ClosedSymbol) →
    In x (expansion M declared k).fresh ↔ NewIn (rule_meets M) (flat_map (rule_meets M) declared) k x

-- What is new in a round is in the order in which it is first reached. Round 1 reaches what the declared symbols' rules reach. A
-- later round reaches what the rules reach that the round before generated; it reads them in the reverse order.
abbrev pub RoundsAreInOrder : Type 0
RoundsAreInOrder = (M : Meaning) (declared : List ClosedSymbol) →
    IsInOrderOf (expansion M declared 0).fresh (flat_map (rule_meets M) declared)
    × ((k : ℕ) → IsInOrderOf (expansion M declared (suc k)).fresh
    (flat_map (rule_meets M) (reverse (expansion M declared k).fresh)))

-- Exactly one rule is generated for each symbol that is new in some round, and none of any other.
abbrev pub RulesAreMadeOnce : Type 0
RulesAreMadeOnce = (M : Meaning) (declared : List ClosedSymbol) (count : ℕ) →
    IsDistinct (expanded_symbols M declared count)
    × ((x : ClosedSymbol) → In x (expanded_symbols M declared count)
    ↔ ((k : ℕ) × (k < count) × NewIn (rule_meets M) (flat_map (rule_meets M) declared) k x))

-- What a symbol reaches has a chain wherever the symbol itself has one: an argument substituted into the body of a macro reaches
-- nothing there that the call did not reach.
abbrev pub PartsAreMetNoLater : Type 0
PartsAreMetNoLater = (M : Meaning) (declared : List ClosedSymbol) (k : ℕ) (g h : ClosedSymbol) →
    Chain (rule_meets M) (flat_map (rule_meets M) declared) k g → In h (meets g) →
    Chain (rule_meets M) (flat_map (rule_meets M) declared) k h

-- an expansion in which round k + 1 adds nothing
pub record IsWhole (M : Meaning) (declared met : List ClosedSymbol) : Type 0 where
  -- what a rule reaches is reached
  pub done : (g h : ClosedSymbol) → In g (declared ++ met) → In h (rule_meets M g) → In h met
  -- only what an expansion desugars is reached
  pub expanded : (g : ClosedSymbol) → In g met → BecomesRule g
  -- all that is reached is reached by a chain
  pub reached : (g : ClosedSymbol) → In g met → (k : ℕ) × Chain (rule_meets M) (flat_map (rule_meets M) declared) k g

-- If round k + 1 adds nothing, the symbols of the generated rules so far are complete.
abbrev pub NothingNewIsWhole : Type 0
NothingNewIsWhole = (M : Meaning) (declared : List ClosedSymbol) (k : ℕ) → (expansion M declared k).fresh ≡ [] →
    IsWhole M declared (expanded_symbols M declared k)

-- If a resolved expansion has nothing new and each name means one rule, its rules are complete, in the order in which they are
-- generated.
abbrev pub ExpansionsStand : Type 0
ExpansionsStand = (M : Meaning) → HasLevels M → (declared : List ClosedSymbol) → IsResolved M declared →
    ((g : ClosedSymbol) → In g declared → IsResolvedIn declared g) →
    (k : ℕ) → (expansion M declared k).fresh ≡ [] →
    (name : ClosedSymbol → Name) → OneRuleAName M name (declared ++ expanded_symbols M declared k) →
    (roots : List ClosedSymbol) → ((g : ClosedSymbol) → In g roots → SharesRule M name declared g) →
    Stands M name roots declared (expanded_symbols M declared k)

-- End to end: where an expansion of a resolved grammar has nothing new and each name means one rule, the trees of each
-- known symbol and of each root are one to one with those of the generated rules.
abbrev pub ExpansionsAreOneToOne : Type 0
ExpansionsAreOneToOne =
    (M : Meaning) → HasCounts M → HasLevels M → (declared : List ClosedSymbol) → IsResolved M declared →
    ((g : ClosedSymbol) → In g declared → IsResolvedIn declared g) →
    (k : ℕ) → (expansion M declared k).fresh ≡ [] →
    (name : ClosedSymbol → Name) → OneRuleAName M name (declared ++ expanded_symbols M declared k) →
    (roots : List ClosedSymbol) → ((g : ClosedSymbol) → In g roots → SharesRule M name declared g) →
    (g : ClosedSymbol) → IsKnown (roots ++ declared) (expanded_symbols M declared k) g →
    OneToOne M name (table (map (rule_of_symbol M name) (declared ++ expanded_symbols M declared k))) g

-- Two ground symbols pass the test of sameness if and only if they are equal.
abbrev pub SameIsEqual : Type 0
SameIsEqual = IsTest same_symbol
