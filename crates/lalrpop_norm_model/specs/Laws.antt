-- What is proved of these definitions, each statement in one piece. The functions of the crate carry them.
use Rattle.std.specs.Prelude.{◌≡◌, ◌⊎◌, ◌↔◌, ℕ, ◌≤◌, List, [], ◌∷◌, map, flat_map, length, filter}
use Rattle.std.specs.Prelude.{take, slice_get, Option, Some, None, IsSome, option_map, true, false, bytes_eq}
use Rattle.lalrpop_norm_theory.specs.Rounds.{In, IsDistinct}
use Rattle.lalrpop_norm_tree.specs.Items.{AlternativeData, RuleData, ExternTokenData, InternTokenData, GrammarData, rule_item}
use Rattle.lalrpop_norm_tree.specs.Items.{extern_item}
use Rattle.lalrpop_norm_tree.specs.declared.items.MatchEntry.{MatchEntry}
use Rattle.lalrpop_norm_model.specs.Features.{Features, is_active}
use Rattle.lalrpop_norm_model.specs.Enabled.{PlacedAlternatives, present, all_places, enabled_places, enabled_rule, enabled_extern}
use Rattle.lalrpop_norm_model.specs.Scopes.{Global, globals, resolved_grammar}
use Rattle.lalrpop_norm_model.specs.Levels.{every, Leveled, level_at, side_at, leveled_at, has_levels, with_levels, levels_of}
use Rattle.lalrpop_norm_model.specs.Levels.{highest_level, previous_level}
use Rattle.lalrpop_norm_model.specs.Stated.{IsRising, HasLevel, IsBelow, IsHighest, IsStatedLevel, NoLevelIsStated, IsStatedSide}
use Rattle.lalrpop_norm_model.specs.Stated.{NoSideIsStated, handed_on}
use Rattle.lalrpop_norm_theory.specs.Meaning.{HasCounts, HasLevels}
use Rattle.lalrpop_norm_theory.specs.Met.{meets, rule_meets, expansion, expanded_symbols, BecomesRule, IsKnown, IsResolved}
use Rattle.lalrpop_norm_theory.specs.Met.{IsResolvedIn}
use Rattle.lalrpop_norm_tree_parts.specs.Reprs.{ReprData}
use Rattle.lalrpop_norm_tree.specs.Symbols.{Kind, Part, Parts}
use Rattle.lalrpop_norm_theory.specs.LoweredTrees.{ProductionTable}
use Rattle.lalrpop_norm_theory.specs.Tables.{Realizes}
use Rattle.lalrpop_norm_theory.specs.Laws.{PairsInTwoSteps}
use Rattle.lalrpop_norm_tree.specs.SymbolTexts.{kind_text}
use Rattle.lalrpop_norm_model.specs.WrittenRules.{WrittenRule, written_rule_with_levels, rule_named, written_rules, leveled_rules}
use Rattle.lalrpop_norm_model.specs.WrittenRules.{flat_rules}
use Rattle.lalrpop_norm_model.specs.Grammars.{ConditionValue, is_nil, has_arguments, arguments_fit, rule_reader, macro_reader}
use Rattle.lalrpop_norm_model.specs.Grammars.{meaning, references, roots}
use Rattle.lalrpop_norm_model.specs.Scoped.{is_scoped, are_scoped, NamesAreScoped, IsScoped}
use Rattle.lalrpop_norm_model.specs.Occurrences.{count_parts}
use Rattle.lalrpop_norm_model.specs.Bounds.{all_bounds_to, bounds_by, IsTrue}
use Rattle.lalrpop_norm_model.specs.Reading.{read_kind, read_part, read_all}
use Rattle.lalrpop_norm_model.specs.ClosedTexts.{closed_text, level_names, text_in}
use Rattle.lalrpop_norm_model.specs.MadeRules.{argument_kind, substituted, flat_reader, made_rules}
use Rattle.lalrpop_norm_model.specs.LevelRules.{level_rule, leveled_grammar}
use Rattle.lalrpop_norm_theory.specs.Symbols.{Name, ClosedSymbol, ClosedSymbols, reference}
use Rattle.lalrpop_norm_theory.specs.Clauses.{Clause, clauses}
use Rattle.lalrpop_norm_model.specs.PlainRules.{met, met_in_rule, met_by_made, rules_without_arguments, macros_of}
use Rattle.lalrpop_norm_model.specs.PlainRules.{expansion_round, made_symbols, IsEnded, all_rules, plain_grammar, plain_rules}
use Rattle.lalrpop_norm_model.specs.Origins.{plain_symbols, plain_origins}
use Rattle.lalrpop_norm_model.specs.PlainTables.{IsSettled, flat_meaning, declared, closed, closed_parts, IsRuleOf, rules_from}
use Rattle.lalrpop_norm_model.specs.PlainTables.{plain_table}
use Rattle.lalrpop_norm_theory.specs.Leveled.{leveled_symbols, leveled_symbol, IsLeveled, recomposed}
use Rattle.lalrpop_norm_theory.specs.Tables.{OneRuleAName, rule_of_symbol}
use Rattle.lalrpop_norm_theory.specs.Laws.{OneToOne, level_named}
use Rattle.lalrpop_norm_model.specs.Expanded.{rule_names, interns, IsExpanded, IsTyped}
use Rattle.lalrpop_norm_model.specs.TypeRelation.{IsRule, TypeClause, alternative_clause, Has, Makes, IsTotal, IsFunctional}
use Rattle.lalrpop_norm_model.specs.TypeTables.{Table, IsTable}
use Rattle.lalrpop_norm_model.specs.TypeRounds.{IsEnd, inferred}
use Rattle.lalrpop_norm_model.specs.TuplePatterns.{IsTypable}
use Rattle.lalrpop_norm_model.specs.CheckedTokens.{with_tokens, IsEntered}
use Rattle.lalrpop_norm_model.specs.EnteredGrammars.{all_entries, entered_grammar}
use Rattle.lalrpop_norm_model.specs.Entries.{AreEntries}
use Rattle.lalrpop_norm_model.specs.InferenceFaults.{lacking, inferred_table, untyped_rules, disagreeing, inference_faults}
use Rattle.lalrpop_norm_model.specs.LoweringFaults.{lowering_faults}
use Rattle.lalrpop_norm_model.specs.TokenFaults.{token_faults}
use Rattle.lalrpop_norm_model.specs.LevelNames.{HasLevelNames, level_origin, written_origin}
use Rattle.lalrpop_norm_model.specs.Renumbered.{prepared_grammar, closed_up, rank_in, rank_by, ranked_clause, IsRenumbered}
use Rattle.lalrpop_norm_model.specs.Renumbered.{TreesAreRenumbered, OneToOneByRank}

-- The meaning of each grammar has what the theory of trees asks: numbers within the count, and levels one above the other.
abbrev pub MeaningsHaveLevels : Type 0
MeaningsHaveLevels =
    (value : ConditionValue) (rs : List WrittenRule) → HasCounts (meaning value rs) × HasLevels (meaning value rs)

-- If each name has a meaning, the references that the rules declare are closed: they lead only to declared ones.
abbrev pub MeaningsAreResolved : Type 0
MeaningsAreResolved =
    (value : ConditionValue) (rs : List WrittenRule) → IsScoped rs → IsResolved (meaning value rs) (references rs)

-- Of the rules that a grammar is read as, only the names matter: if these have a meaning, the rules are scoped. A rule without
-- levels has no two levels.
abbrev pub AreScopedByNames : List WrittenRule → Type 0
AreScopedByNames rs =
    (NamesAreScoped rs → IsScoped rs)
    × ((r : WrittenRule) → In r rs → r.has_levels ≡ false → length (levels_of r.places) ≤ 1)

abbrev pub ScopedAsWritten : Type 0
ScopedAsWritten = (fs : Features) (g : GrammarData) →
    AreScopedByNames (written_rules fs g) × AreScopedByNames (leveled_rules g) × AreScopedByNames (flat_rules g)

-- The text of a ground symbol without bounds is the text that its written symbol is displayed with.
abbrev pub TextsAreDisplayed : Type 0
TextsAreDisplayed = (k : Kind) → closed_text (λ n b. n) (read_kind flat_reader 0 0 k) ≡ kind_text k

-- ---- levels

-- The levels of a rule are those that its alternatives have, rising.
abbrev pub LevelsAreListed : Type 0
LevelsAreListed =
    (ps : List (Option Leveled)) → IsRising (levels_of ps) × ((l : ℕ) → In l (levels_of ps) ↔ HasLevel ps l)

-- The previous level is the one below: the greatest lower one.
abbrev pub PreviousIsBelow : Type 0
PreviousIsBelow = (ps : List (Option Leveled)) (l m : ℕ) → (previous_level ps l ≡ Some m) ↔ IsBelow ps l m

-- The highest level of a rule that has one is the greatest that it has.
abbrev pub HighestIsGreatest : Type 0
HighestIsGreatest = (ps : List (Option Leveled)) (l : ℕ) → HasLevel ps l → IsHighest ps (highest_level ps)

-- An enabled alternative at index k has the level and the associativity of that index.
abbrev pub PlacesAreLeveled : Type 0
PlacesAreLeveled = (ps : PlacedAlternatives) (k : ℕ) → slice_get (with_levels ps) k ≡ option_map (leveled_at ps k) (slice_get ps k)

-- The level of index k is the one stated last at or before it; 0 if there is none.
abbrev pub LevelsAreStated : Type 0
LevelsAreStated =
    (ps : PlacedAlternatives) (k : ℕ) → IsStatedLevel ps k (level_at ps k) ⊎ (NoLevelIsStated ps k × (level_at ps k ≡ 0))

-- The associativity of index k is the one stated last at or before it and not before its level; `all` if there is none.
abbrev pub SidesAreStated : Type 0
SidesAreStated =
    (ps : PlacedAlternatives) (k : ℕ) → IsStatedSide ps k (side_at ps k) ⊎ (NoSideIsStated ps k × (side_at ps k ≡ every))

-- Levels and associativities are inherited from index to index, from the first one on.
abbrev pub LevelsAreHandedOn : Type 0
LevelsAreHandedOn = (ps : PlacedAlternatives) → with_levels ps ≡ handed_on None None ps

-- Disabled alternatives do not matter for levels and associativities: without them the others keep theirs.
abbrev pub DisabledAreNoMatter : Type 0
DisabledAreNoMatter = (ps : PlacedAlternatives) → present (with_levels ps) ≡ present (with_levels (map Some (present ps)))

-- The recursive occurrences in an alternative with a level below its own have, in order, the bounds of its associativity.
abbrev pub BoundsAreBySide : Type 0
BoundsAreBySide = (rs : List WrittenRule) (r : WrittenRule) (a : Leveled) (previous : ℕ) → r.has_levels ≡ true →
    previous_level r.places a.level ≡ Some previous → are_scoped rs r.args a.alternative.parts ≡ true →
    all_bounds_to r.name (read_all (rule_reader rs r a) a.alternative.parts)
    ≡ map Some (bounds_by a.side a.level previous (count_parts (λ n. bytes_eq n r.name) a.alternative.parts))

-- An alternative of a macro is there, for arguments that fit, if and only if its condition is true.
abbrev pub ConditionsDecide : Type 0
ConditionsDecide =
    (value : ConditionValue) (rs : List WrittenRule) (n : Name) (r : WrittenRule) (args : ClosedSymbols)
    (k : ℕ) (a : Leveled) →
    rule_named rs n ≡ Some r → has_arguments r ≡ true → arguments_fit r.args args ≡ true →
    slice_get r.places k ≡ Some (Some a) →
    ((parts : ClosedSymbols) × ((meaning value rs).call_parts n args k ≡ Some parts))
    ↔ IsTrue value r.args args a.alternative.condition

-- ---- enabled and resolved

-- The alternatives of an enabled rule are the active ones in order; and its indices stay.
abbrev pub EnabledAreActive : Type 0
EnabledAreActive = (fs : Features) (r : RuleData) →
    ((enabled_rule fs r).alternatives ≡ filter (λ a. is_active fs a.attributes) r.alternatives)
    × ((k : ℕ) (a : AlternativeData) → (slice_get (enabled_places fs r) k ≡ Some (Some a))
    ↔ ((slice_get r.alternatives k ≡ Some a) × (is_active fs a.attributes ≡ true)))

-- Resolving names is idempotent.
abbrev pub ResolvedOnce : Type 0
ResolvedOnce = (g : GrammarData) → resolved_grammar (resolved_grammar g) ≡ resolved_grammar g

-- ---- numbers of alternatives

-- The rules that the pass on levels gets are those of the written grammar, in order, each without its holes.
abbrev pub DisabledAreLeftOut : Type 0
DisabledAreLeftOut =
    (fs : Features) (g : GrammarData) → leveled_rules (prepared_grammar fs g) ≡ map closed_up (written_rules fs g)

-- The rank of an index is the number of enabled alternatives written before it.
abbrev pub RanksCountEnabled : Type 0
RanksCountEnabled = (fs : Features) (ds : List Global) (r : RuleData) (k : ℕ) →
    rank_in (written_rule_with_levels ds r (enabled_places fs r)).places k
    ≡ length (filter (λ a. is_active fs a.attributes) (take k r.alternatives))

-- Disabled alternatives only renumber: the grammar that the pass on levels gets is the written one, each alternative with its
-- rank for its number. The references that it declares and its roots are the same.
abbrev pub DisabledOnlyRenumber : Type 0
DisabledOnlyRenumber = (value : ConditionValue) (fs : Features) (g : GrammarData) →
    IsRenumbered (meaning value (written_rules fs g)) (meaning value (leveled_rules (prepared_grammar fs g)))
    (rank_by (written_rules fs g))
    × (references (leveled_rules (prepared_grammar fs g)) ≡ references (written_rules fs g))
    × (roots (leveled_rules (prepared_grammar fs g)) ≡ roots (written_rules fs g))

-- Each ground symbol has the same clauses in the same order, where an alternative's clause has its rank for its number.
abbrev pub ClausesOnlyRenumber : Type 0
ClausesOnlyRenumber = (value : ConditionValue) (fs : Features) (g : GrammarData) (x : ClosedSymbol) →
    clauses (meaning value (leveled_rules (prepared_grammar fs g))) x
    ≡ map (ranked_clause (rank_by (written_rules fs g))) (clauses (meaning value (written_rules fs g)) x)

-- The written trees of each ground symbol correspond one to one with its trees in the grammar that the pass on levels gets: the
-- number of each node becomes its rank, and all else stays.
abbrev pub TreesOnlyRenumber : Type 0
TreesOnlyRenumber = (value : ConditionValue) (fs : Features) (g : GrammarData) →
    TreesAreRenumbered (meaning value (written_rules fs g)) (meaning value (leveled_rules (prepared_grammar fs g)))
    (rank_by (written_rules fs g))

-- ---- level rules

-- The rule of a level, its symbols read without bounds, holds the clauses of that level, each bounded reference by the name of
-- its level: the level's own alternatives in order, then the step to the level below.
abbrev pub LevelRulesAreRead : Type 0
LevelRulesAreRead =
    (value : ConditionValue) (g : GrammarData) → resolved_grammar g ≡ g → NamesAreScoped (leveled_rules g) →
    (d : RuleData) → In (rule_item d) g.items → rule_named (leveled_rules g) d.name.0
    ≡ Some (written_rule_with_levels (globals g) d (all_places d)) →
    has_levels (all_places d) ≡ true → is_nil d.args ≡ true → (l : ℕ) →
    map (λ a. read_all flat_reader a.parts) (level_rule d (with_levels (all_places d)) l).alternatives
    ≡ map (λ c. leveled_symbols (level_names (leveled_rules g)) c.parts)
    (clauses (meaning value (leveled_rules g)) (reference d.name.0 (Some l)))

-- The grammar with levels is that of the written grammar, as the theory of trees has it: index by index its rules hold the
-- clauses of the levels, calls have the same clauses, and each alternative has its origin. And macros keep their numbers.
abbrev pub GrammarsAreLeveled : Type 0
GrammarsAreLeveled = (value : ConditionValue) (g : GrammarData) → HasLevelNames g →
    IsLeveled (meaning value (leveled_rules g)) (meaning value (flat_rules (leveled_grammar g)))
    (level_names (leveled_rules g)) (level_origin value g) (references (leveled_rules g))
    × ((n : Name) (args : ClosedSymbols) (k : ℕ) →
    (meaning value (flat_rules (leveled_grammar g))).call_parts n (leveled_symbols (level_names (leveled_rules g)) args) k
    ≡ option_map (leveled_symbols (level_names (leveled_rules g))) ((meaning value (leveled_rules g)).call_parts n args k))
    × ((n : Name) → (meaning value (flat_rules (leveled_grammar g))).call_count n
    ≡ (meaning value (leveled_rules g)).call_count n)

-- It is also that of the written grammar with its holes, by the written indices.
abbrev pub WrittenGrammarsAreLeveled : Type 0
WrittenGrammarsAreLeveled = (value : ConditionValue) (fs : Features) (g : GrammarData) →
    HasLevelNames (prepared_grammar fs g) →
    IsLeveled (meaning value (written_rules fs g)) (meaning value (flat_rules (leveled_grammar (prepared_grammar fs g))))
    (level_names (written_rules fs g)) (written_origin value (written_rules fs g)) (references (written_rules fs g))

-- Of a grammar whose levels can become rules: with a lowered grammar that realizes the symbols of the grammar with levels, the
-- trees of each resolved symbol correspond in two steps, from bounds to levels and from levels to the lowered grammar.
abbrev pub LevelsAreSteps : Type 0
LevelsAreSteps = (value : ConditionValue) (g : GrammarData) → HasLevelNames g →
    (name : ClosedSymbol → Name) (P : ProductionTable) (declared met : List ClosedSymbol) →
    Realizes (meaning value (flat_rules (leveled_grammar g))) name P (IsKnown declared met) →
    (x : ClosedSymbol) → IsResolvedIn (references (leveled_rules g)) x →
    IsKnown declared met (leveled_symbol (level_names (leveled_rules g)) x) →
    PairsInTwoSteps (meaning value (leveled_rules g)) (meaning value (flat_rules (leveled_grammar g)))
    (level_names (leveled_rules g)) (level_origin value g) name P x

-- Of a grammar whose levels can become rules once it is prepared: with a lowered grammar that realizes the symbols of its grammar
-- with levels, the written trees of each resolved symbol, by the written indices, correspond one to one with the derivation
-- trees.
abbrev pub WrittenTreesAreLowered : Type 0
WrittenTreesAreLowered = (value : ConditionValue) (fs : Features) (g : GrammarData) → HasLevelNames (prepared_grammar fs g) →
    (name : ClosedSymbol → Name) (P : ProductionTable) (declared met : List ClosedSymbol) →
    Realizes (meaning value (flat_rules (leveled_grammar (prepared_grammar fs g)))) name P (IsKnown declared met) →
    (x : ClosedSymbol) → IsResolvedIn (references (written_rules fs g)) x →
    IsKnown declared met (leveled_symbol (level_names (leveled_rules (prepared_grammar fs g))) x) →
    OneToOneByRank (meaning value (written_rules fs g)) (meaning value (leveled_rules (prepared_grammar fs g)))
    (rank_by (written_rules fs g))
    (level_named (level_names (leveled_rules (prepared_grammar fs g))) name)
    (recomposed (level_origin value (prepared_grammar fs g)) P) x

-- ---- the two readings of the expansion

-- A symbol with the arguments of a macro substituted reads as the symbol in the environment of these arguments.
abbrev pub ArgumentsAreSubstituted : Type 0
ArgumentsAreSubstituted = (g : GrammarData) (r : WrittenRule) (args : Parts) (p : Part) (before after : ℕ) →
    closed (substituted (argument_kind r.args args) p)
    ≡ read_part (macro_reader (flat_rules g) r (read_all flat_reader args)) before after p

-- Each symbol of a kind that is desugared is desugared to one rule, and that is the rule of the symbol.
abbrev pub MadeRulesAreRead : Type 0
MadeRulesAreRead = (value : ConditionValue) (g : GrammarData) → resolved_grammar g ≡ g → IsScoped (flat_rules g) →
    (p : Part) → is_scoped (flat_rules g) [] p ≡ true → BecomesRule (closed p) →
    (r : RuleData) × (made_rules value (macros_of g) p ≡ r ∷ []) × IsRuleOf (flat_meaning value g) p r

-- The rules without arguments declare the references, in order, and their alternatives hold the clauses of these.
abbrev pub RulesAreRead : Type 0
RulesAreRead = (value : ConditionValue) (g : GrammarData) → IsSettled g →
    (declared g ≡ map (λ (r : RuleData). reference r.name.0 None) (rules_without_arguments g))
    × ((r : RuleData) → In r (rules_without_arguments g) →
    map closed_parts r.alternatives ≡ map (λ (c : Clause). c.parts) (clauses (flat_meaning value g) (reference r.name.0 None)))

-- What is reached in a symbol, in the rules of a grammar and in the rule of a symbol is what the ground symbols reach.
abbrev pub MetIsRead : Type 0
MetIsRead = (value : ConditionValue) (g : GrammarData) → IsSettled g →
    ((p : Part) → map closed (met p) ≡ meets (closed p))
    × (map closed (flat_map met_in_rule (rules_without_arguments g))
    ≡ flat_map (rule_meets (flat_meaning value g)) (declared g))
    × ((p : Part) → is_scoped (flat_rules g) [] p ≡ true → BecomesRule (closed p) →
    map closed (met_by_made value (macros_of g) p) ≡ rule_meets (flat_meaning value g) (closed p))

-- Each symbol that is desugared is a call, group, repeat or location symbol, and its names have a meaning without arguments.
abbrev pub MadeSymbolsAreScoped : Type 0
MadeSymbolsAreScoped =
    (value : ConditionValue) (g : GrammarData) → IsSettled g → (n : ℕ) (p : Part) → In p (made_symbols value g n) →
    (is_scoped (flat_rules g) [] p ≡ true) × BecomesRule (closed p)

-- Read, the symbols desugared in the first rounds are the expanded ones, and each round is the round of the ground symbols. A
-- round has nothing new in the one if and only if it has nothing new in the other.
abbrev pub RoundsAreRead : Type 0
RoundsAreRead = (value : ConditionValue) (g : GrammarData) → IsSettled g → (n : ℕ) →
    (map closed (made_symbols value g n) ≡ expanded_symbols (flat_meaning value g) (declared g) n)
    × (map closed (expansion_round value g n).seen ≡ (expansion (flat_meaning value g) (declared g) n).seen)
    × (map closed (expansion_round value g n).fresh ≡ (expansion (flat_meaning value g) (declared g) n).fresh)
    × (IsEnded value g n ↔ ((expansion (flat_meaning value g) (declared g) n).fresh ≡ []))

-- In every grammar the text of a ground symbol without bounds is the text that its written symbol is displayed with.
abbrev pub TextsInGrammars : Type 0
TextsInGrammars = (rs : List WrittenRule) (k : Kind) → text_in rs (read_kind flat_reader 0 0 k) ≡ kind_text k

-- The rules of the expanded grammar, with the origins of the clauses of their symbols, are the rules of these symbols, each under
-- its text. There is one origin for each alternative.
abbrev pub PlainRulesAreRead : Type 0
PlainRulesAreRead = (value : ConditionValue) (g : GrammarData) → IsSettled g → (n : ℕ) →
    (length (plain_origins (flat_meaning value g) (declared g) n)
    ≡ length (flat_map (λ (r : RuleData). r.alternatives) (plain_rules value g n)))
    × (rules_from (plain_origins (flat_meaning value g) (declared g) n) (plain_rules value g n)
    ≡ map (rule_of_symbol (flat_meaning value g) (text_in (flat_rules g)))
    (plain_symbols (flat_meaning value g) (declared g) n))

-- The expanded grammar has the plain rules (`plain_rules`) for its rules.
abbrev pub PlainGrammarsHoldPlainRules : Type 0
PlainGrammarsHoldPlainRules =
    (value : ConditionValue) (g : GrammarData) (n : ℕ) → all_rules (plain_grammar value g n) ≡ plain_rules value g n

-- If the names of the rules of the expanded grammar are distinct, each name means one rule.
abbrev pub DistinctNamesMeanOneRule : Type 0
DistinctNamesMeanOneRule =
    (value : ConditionValue) (g : GrammarData) → IsSettled g → (n : ℕ) →
    IsDistinct (rule_names (plain_grammar value g n)) →
    OneRuleAName (flat_meaning value g) (text_in (flat_rules g)) (plain_symbols (flat_meaning value g) (declared g) n)

-- If round n + 1 has nothing new and each name means one rule, the written trees of each declared reference, and of each known
-- symbol, correspond one to one with its derivation trees by the rules of the expanded grammar.
abbrev pub PlainRulesAreFaithful : Type 0
PlainRulesAreFaithful = (value : ConditionValue) (g : GrammarData) → IsSettled g → (n : ℕ) → IsEnded value g n →
    OneRuleAName (flat_meaning value g) (text_in (flat_rules g)) (plain_symbols (flat_meaning value g) (declared g) n) →
    ((s : ClosedSymbol) → In s (declared g) → OneToOne (flat_meaning value g) (text_in (flat_rules g))
    (plain_table value g n) s)
    × ((s : ClosedSymbol) → IsKnown (declared g) (expanded_symbols (flat_meaning value g) (declared g) n) s →
    OneToOne (flat_meaning value g) (text_in (flat_rules g)) (plain_table value g n) s)

-- A grammar of distinct names is typable if and only if no fault of inference holds.
abbrev pub TypableExactly : Type 0
TypableExactly = (g : GrammarData) → IsDistinct (rule_names g) → IsTypable g ↔ (inference_faults g ≡ [])

-- The rounds of inference end: once there were as many as rules, a further one adds nothing.
abbrev pub TypeRoundsEnd : Type 0
TypeRoundsEnd = (g : GrammarData) → IsEnd g (inferred g)

-- The rules without a type where the rounds end are the rules for which no type is derivable; there is none if and only if each
-- rule has a type. If no two rules share a name, a rule with a derivable type does not lack what gives one.
abbrev pub UntypedRulesHaveNoType : Type 0
UntypedRulesHaveNoType = (g : GrammarData) →
    ((r : RuleData) → In r (untyped_rules g) ↔ (IsRule g r × ((x : ReprData) → Has g r.name.0 x → ⊥)))
    × ((untyped_rules g ≡ []) ↔ IsTotal g)
    × (IsDistinct (rule_names g) → (r : RuleData) → IsRule g r → (x : ReprData) → Has g r.name.0 x → lacking r ≡ [])

-- An alternative of a rule without a declared type makes a type, the rounds give the rule another, and the rule has both.
pub record IsOfTwoTypes (g : GrammarData) (a : AlternativeData) : Type 0 where
  pub rule : RuleData
  pub stands : IsRule g rule
  pub undeclared : rule.type_decl ≡ None
  pub among : In a rule.alternatives
  pub clause : TypeClause
  pub of_alternative : alternative_clause a ≡ Some clause
  pub made : ReprData
  pub makes : Makes g clause made
  pub given : ReprData
  pub in_table : inferred_table g rule.name.0 ≡ Some given
  pub differ : made ≡ given → ⊥
  pub has_made : Has g rule.name.0 made
  pub has_given : Has g rule.name.0 given

-- Each alternative that disagrees gives its rule a second type. If no two rules share a name, none disagrees if and only if no
-- name has two types; and then the table where the rounds end lists the types that names have, each of them and no other.
abbrev pub DisagreementsAreTwoTypes : Type 0
DisagreementsAreTwoTypes = (g : GrammarData) →
    ((a : AlternativeData) → In a (disagreeing g) → IsOfTwoTypes g a)
    × (IsDistinct (rule_names g) → ((disagreeing g ≡ []) ↔ IsFunctional g)
    × (disagreeing g ≡ [] → IsTable g (inferred_table g)))

-- The faults of inference of a grammar with internal tokens are those of its entries, whatever the automaton.
abbrev pub AutomatonIsUnseen : Type 0
AutomatonIsUnseen = (t u : InternTokenData) → t.match_entries ≡ u.match_entries → (g : GrammarData) →
    inference_faults (with_tokens t g) ≡ inference_faults (with_tokens u g)

-- ---- entries

-- The entries of a grammar are one list: those of the match block and those of the literals used, in their order.
abbrev pub EntriesAreOneList : Type 0
EntriesAreOneList = (g : GrammarData) (es : List MatchEntry) → AreEntries g es ↔ (es ≡ all_entries g)

-- An expanded grammar without internal tokens stays expanded once it has its entries.
abbrev pub EnteredAreExpanded : Type 0
EnteredAreExpanded = (g h : GrammarData) → IsExpanded g → interns g ≡ [] → IsEntered g h → IsExpanded h

-- If the pass on tokens finds nothing wrong, and all conversions are active, an expanded grammar is typed, once it has its
-- entries, by each table in which each of its rules has a type: its terminals are distinct, and each one used is one of them.
abbrev pub EnteredAreTyped : Type 0
EnteredAreTyped = (fs : Features) (g h : GrammarData) → IsExpanded g → interns g ≡ [] →
    ((t : ExternTokenData) → In (extern_item t) g.items → enabled_extern fs t ≡ t) → token_faults g ≡ [] →
    IsEntered g h → (table : Table) →
    ((r : RuleData) → IsRule h r → IsSome (table r.name.0)) → IsTyped fs h table

-- What inference and lowering find wrong with a grammar that has its entries, and the types where its rounds end, are those of
-- the grammar with these entries, whatever the automaton.
abbrev pub EntriesDecideTypes : Type 0
EntriesDecideTypes = (g h : GrammarData) → IsEntered g h →
    (inference_faults h ≡ inference_faults (entered_grammar g)) × (inferred_table h ≡ inferred_table (entered_grammar g))
    × ((types : Table) → lowering_faults h types ≡ lowering_faults (entered_grammar g) types)
