-- What is proved of the whole way, each statement in one piece. The functions of the module `laws` carry them.
use Rattle.std.specs.Prelude.{◌≡◌, ◌↔◌, ◌⊎◌, ◌++◌, ◌<◌, ◌≤◌, ◌∷◌, ℕ, suc, List, [], Some, Bool, false, map, flat_map, replicate}
use Rattle.std.specs.List.{range_with_len}
use Rattle.lalrpop_norm_tree_names.specs.declared.names.Span.{Span}
use Rattle.lalrpop_norm_faults.specs.declared.kind.FaultKind.TheVariants.{RecursionCap, SharedName}
use Rattle.lalrpop_norm_faults.specs.Faults.{first}
use Rattle.lalrpop_norm_tree.specs.Symbols.{Part}
use Rattle.lalrpop_norm_tree.specs.SymbolTexts.{part_text}
use Rattle.lalrpop_norm_tree.specs.Items.{RuleData, GrammarData}
use Rattle.lalrpop_norm_tree_parts.specs.Reprs.{ReprData}
use Rattle.lalrpop_norm_theory.specs.Symbols.{ClosedSymbol, Name, Terminal}
use Rattle.lalrpop_norm_theory.specs.Laws.{OneToOne}
use Rattle.lalrpop_norm_theory.specs.LoweredTrees.{Origin, from_start}
use Rattle.lalrpop_norm_theory.specs.Met.{rule_meets}
use Rattle.lalrpop_norm_theory.specs.Rounds.{In, IsDistinct, Chain, NewIn}
use Rattle.lalrpop_norm_tree.specs.declared.items.Condition.{Condition}
use Rattle.lalrpop_norm_conditions.specs.Conditions.{comparison, condition_value}
use Rattle.lalrpop_norm_model.specs.Features.{Features}
use Rattle.lalrpop_norm_model.specs.WrittenRules.{flat_rules}
use Rattle.lalrpop_norm_model.specs.ClosedTexts.{text_in}
use Rattle.lalrpop_norm_model.specs.Enabled.{all_places, enabled_grammar}
use Rattle.lalrpop_norm_model.specs.Levels.{with_levels}
use Rattle.lalrpop_norm_model.specs.Scopes.{resolved_grammar}
use Rattle.lalrpop_norm_model.specs.Stated.{HasLevel}
use Rattle.lalrpop_norm_model.specs.Grammars.{ConditionValue, is_nil, value_of}
use Rattle.lalrpop_norm_model.specs.PlainTables.{IsSettled, IsRuleOf, flat_meaning, declared, closed}
use Rattle.lalrpop_norm_model.specs.MadeRules.{span_of, made_rules}
use Rattle.lalrpop_norm_model.specs.LevelRules.{leveled_grammar}
use Rattle.lalrpop_norm_model.specs.PlainRules.{all_rules, macros_of, made_symbols, expansion_round, IsEnded}
use Rattle.lalrpop_norm_model.specs.Origins.{action_origins}
use Rattle.lalrpop_norm_model.specs.Renumbered.{prepared_grammar}
use Rattle.lalrpop_norm_model.specs.Expanded.{rule_names}
use Rattle.lalrpop_norm_model.specs.TypeTables.{Table}
use Rattle.lalrpop_norm_model.specs.LoweringFaults.{lowering_faults}
use Rattle.lalrpop_norm_model.specs.CheckedTokens.{IsEntered}
use Rattle.lalrpop_norm_resolve.specs.NameFaults.{resolve_faults}
use Rattle.lalrpop_norm_precedence.specs.PrecedenceFaults.{leveled_faults}
use Rattle.lalrpop_norm_macro_expand.specs.Expansion.{expansion_faults, macro_faults, met_before, past_cap, shared_in, unmade_in}
use Rattle.lalrpop_norm_origins.specs.MadeOrigins.{in_one_list}
use Rattle.lalrpop_norm_repr.specs.Lowered.{LoweredGrammar}
use Rattle.lalrpop_norm_repr.specs.Tables.{TypeTable}
use Rattle.lalrpop_norm_lower.specs.Lowering.{public_rules_in, start_name}
use Rattle.lalrpop_norm_lower.specs.Shape.{IsLoweringOf}
use Rattle.lalrpop_norm_explain.specs.Derivations.{derivations}
use Rattle.lalrpop_norm.specs.Words.{IsWrittenWord, IsWordOf}
use Rattle.lalrpop_norm.specs.Faithful.{HasFaithfulTrees, IsSymbolOf, written_meaning, written_name}
use Rattle.lalrpop_norm.specs.Faithful.{grammar_with_levels, grammar_of_plain_rules, written_references}
use Rattle.lalrpop_norm.specs.TracedLists.{lists_of_plain_rules}

-- no macro has two levels
abbrev pub HasFlatMacros : GrammarData → Type 0
HasFlatMacros g = (d : RuleData) → In d (all_rules g) → is_nil d.args ≡ false → (l m : ℕ) →
    HasLevel (with_levels (all_places d)) l → HasLevel (with_levels (all_places d)) m → l ≡ m

-- Where the pass over levels finds no fault, no macro has two levels, and no fault of names holds in the grammar with levels.
abbrev pub LevelsSettleMacros : Type 0
LevelsSettleMacros =
    (g : GrammarData) → resolved_grammar g ≡ g → leveled_faults g ≡ [] →
    HasFlatMacros g × (resolve_faults (leveled_grammar g) ≡ [])

-- names occur once, and no start symbol has the name of a rule
pub record HasOwnNames (g : GrammarData) : Type 0 where
  pub once : IsDistinct (rule_names g)
  pub starts : (r : RuleData) → In r (public_rules_in (all_rules g)) →
      In (start_name g.prefix r.name).0 (rule_names g) → ⊥

-- Names that occur once are a grammar's own where lowering has no fault and each rule has a type.
abbrev pub NamesAreOwn : Type 0
NamesAreOwn = (g : GrammarData) (types : Table) → IsDistinct (rule_names g) → lowering_faults g types ≡ [] →
    ((n : Name) → In n (rule_names g) → (t : ReprData) × (types n ≡ Some t)) → HasOwnNames g

-- If no fault of names holds in the enabled grammar and in the one with levels, and so many rounds make all expanded rules, then
-- what these are lowered to, once they have their tokens, has trees that correspond one to one to the written ones, and each
-- enabled public rule that is no macro has its start symbols there, with its words.
abbrev pub LoweredTreesAreFaithful : Type 0
LoweredTreesAreFaithful =
    (fs : Features) (g : GrammarData) → resolve_faults (enabled_grammar fs g) ≡ [] →
    HasFlatMacros (prepared_grammar fs g) →
    resolve_faults (grammar_with_levels fs g) ≡ [] → (rounds : ℕ) →
    IsEnded comparison (grammar_with_levels fs g) rounds →
    HasOwnNames (grammar_of_plain_rules fs g rounds) → (plain : GrammarData) →
    IsEntered (grammar_of_plain_rules fs g rounds) plain →
    (types : TypeTable) (l : LoweredGrammar) → IsLoweringOf plain (all_rules plain) types l →
    HasFaithfulTrees fs g rounds l

-- The lists that the traced passes return, those of the expanded rules in a row behind the origin of each start symbol, are the
-- origins of the actions of a lowered grammar, if no fault of names holds in the enabled grammar and in the one with levels.
abbrev pub ListsAreActionOrigins : Type 0
ListsAreActionOrigins =
    (fs : Features) (g : GrammarData) → resolve_faults (enabled_grammar fs g) ≡ [] →
    HasFlatMacros (prepared_grammar fs g) →
    resolve_faults (grammar_with_levels fs g) ≡ [] → (starts rounds : ℕ) →
    replicate starts from_start ++ in_one_list (lists_of_plain_rules fs g rounds)
    ≡ action_origins starts (written_meaning fs g) (written_references fs g) rounds

-- the symbol is new in the round after the first `limit`: its shortest chain has one rule more than there are such rounds
abbrev pub IsPastLimit : ConditionValue → GrammarData → ℕ → ClosedSymbol → Type 0
IsPastLimit value g limit x =
    NewIn (rule_meets (flat_meaning value g)) (flat_map (rule_meets (flat_meaning value g)) (declared g)) limit x

-- What an expansion that is rejected for F36 at s has done: in the rounds that may make rules nothing shared a name, and each new
-- symbol got its rule; in the round after them nothing shared a name, something is new, and of that the symbol reached last is at
-- s.
pub record EndsPastLimit (value : ConditionValue) (g : GrammarData) (limit : ℕ) (s : Span) : Type 0 where
  pub made : (k : ℕ) → k < limit → shared_in value g k ++ unmade_in value g k ≡ []
  pub own : shared_in value g limit ≡ []
  pub last : past_cap (expansion_round value g limit).fresh ≡ (RecursionCap, s) ∷ []
  pub past : (x : ClosedSymbol) × IsPastLimit value g limit x

-- The cap. In the expansion of a settled grammar F36 holds exactly where some symbol is past the limit; likewise among the
-- faults of `expand_macros`, if no fault of names holds. There it is what the call is rejected for, at s, exactly where the
-- expansion of the resolved grammar ends past the limit at s.
abbrev pub CapIsExact : Type 0
CapIsExact = (value : ConditionValue) (g : GrammarData) (limit : ℕ) →
    (IsSettled g → ((s : Span) × In (RecursionCap, s) (expansion_faults value g limit))
    ↔ ((x : ClosedSymbol) × IsPastLimit value g limit x))
    × (resolve_faults g ≡ [] → (((s : Span) × In (RecursionCap, s) (macro_faults value g limit))
    ↔ ((x : ClosedSymbol) × IsPastLimit value (resolved_grammar g) limit x))
    × ((s : Span) → (first (macro_faults value g limit) ≡ Some (RecursionCap, s))
    ↔ EndsPastLimit value (resolved_grammar g) limit s))

-- ---- shared names

-- x shares its name: its text is one of the names, or that of a symbol that was reached before it and is not equal
abbrev pub SharesName : List Name → List Part → Part → Type 0
SharesName names before x =
    In (part_text x) names ⊎ ((y : Part) × In y before × (part_text y ≡ part_text x) × (closed y ≡ closed x → ⊥))

-- Of all that is reached in the rounds that may make rules and in the one after them, a symbol at s shares its name with a rule,
-- with a macro, or with a symbol that was reached before it.
pub record SharesNameAt (value : ConditionValue) (g : GrammarData) (limit : ℕ) (s : Span) : Type 0 where
  pub before : List Part
  pub symbol : Part
  pub later : List Part
  pub met : met_before value g (suc limit) ≡ before ++ symbol ∷ later
  pub there : span_of symbol ≡ s
  pub shared : SharesName (rule_names g) before symbol

-- x is reached in these rounds: a chain of at most `limit` + 1 rules leads to it
abbrev pub IsMetWithin : ConditionValue → GrammarData → ℕ → ClosedSymbol → Type 0
IsMetWithin value g limit x = (k : ℕ) × (k ≤ limit)
    × Chain (rule_meets (flat_meaning value g)) (flat_map (rule_meets (flat_meaning value g)) (declared g)) k x

-- a symbol that is reached has the name of a rule or macro for its text, or the text of another one that is reached
abbrev pub HasSharedName : ConditionValue → GrammarData → ℕ → Type 0
HasSharedName value g limit = (x : ClosedSymbol) × IsMetWithin value g limit x
    × (In (text_in (flat_rules g) x) (rule_names g)
    ⊎ ((y : ClosedSymbol) × IsMetWithin value g limit y × (text_in (flat_rules g) y ≡ text_in (flat_rules g) x) × (y ≡ x → ⊥)))

-- What an expansion that is rejected for F37 at s has done: in the rounds before one of these nothing shared a name, and each new
-- symbol got its rule; in this one the first symbol that shares its name is at s.
pub record EndsAtShared (value : ConditionValue) (g : GrammarData) (limit : ℕ) (s : Span) : Type 0 where
  pub round : ℕ
  pub within : round ≤ limit
  pub made : (k : ℕ) → k < round → shared_in value g k ++ unmade_in value g k ≡ []
  pub told : first (shared_in value g round) ≡ Some (SharedName, s)

-- Shared names. F37 holds at s exactly where a symbol that is reached there shares its name. In the expansion of a settled
-- grammar it holds exactly where two symbols that are reached and are not equal have one text, or one that is reached has the
-- text of a rule's or macro's name; likewise among the faults of `expand_macros`, if no fault of names holds. There it is what
-- the call is rejected for, at s, exactly where the expansion of the resolved grammar ends so at s.
abbrev pub SharedNamesStandExactly : Type 0
SharedNamesStandExactly = (value : ConditionValue) (g : GrammarData) (limit : ℕ) →
    ((s : Span) → In (SharedName, s) (expansion_faults value g limit) ↔ SharesNameAt value g limit s)
    × (IsSettled g → ((s : Span) × In (SharedName, s) (expansion_faults value g limit)) ↔ HasSharedName value g limit)
    × (resolve_faults g ≡ [] → (((s : Span) × In (SharedName, s) (macro_faults value g limit))
    ↔ HasSharedName value (resolved_grammar g) limit)
    × ((s : Span) → (first (macro_faults value g limit) ≡ Some (SharedName, s))
    ↔ EndsAtShared value (resolved_grammar g) limit s))

-- ---- one rule for each symbol

-- If no fault of names holds, then the resolved grammar is settled: its names are resolved, occur once and have a meaning.
abbrev pub ResolvedGrammarsAreSettled : Type 0
ResolvedGrammarsAreSettled = (g : GrammarData) → resolve_faults g ≡ [] → IsSettled (resolved_grammar g)

-- The symbols that get rules in the first `count` rounds: no two are equal up to spans, each symbol is among them that some
-- chain of rules leads to, and no other, and one rule is generated for each, which is the rule of that symbol.
pub record HasOneRuleEach (value : ConditionValue) (g : GrammarData) (count : ℕ) : Type 0 where
  pub once : IsDistinct (map closed (made_symbols value g count))
  pub met : (x : ClosedSymbol) → In x (map closed (made_symbols value g count))
      ↔ ((k : ℕ) × Chain (rule_meets (flat_meaning value g)) (flat_map (rule_meets (flat_meaning value g)) (declared g)) k x)
  pub one : (p : Part) → In p (made_symbols value g count) →
      (r : RuleData) × (made_rules value (macros_of g) p ≡ r ∷ []) × IsRuleOf (flat_meaning value g) p r

-- If no fault of names holds and no round after the first `limit` has a new symbol in the resolved grammar, then each class of
-- symbols that are equal up to spans and are reached has one rule there.
abbrev pub EachClassHasOneRule : Type 0
EachClassHasOneRule = (value : ConditionValue) (g : GrammarData) (limit : ℕ) → resolve_faults g ≡ [] →
    IsEnded value (resolved_grammar g) limit → HasOneRuleEach value (resolved_grammar g) limit

-- ---- round by round

-- The faults of an expansion, round by round: of each round that may make rules, what shares a name as it is reached, then what
-- no rule is generated for; of the one after them, what shares a name, then that something is new there.
abbrev pub FaultsAreByRound : Type 0
FaultsAreByRound = (value : ConditionValue) (g : GrammarData) (limit : ℕ) →
    expansion_faults value g limit
    ≡ flat_map (λ (k : ℕ). shared_in value g k ++ unmade_in value g k) (range_with_len 0 limit)
    ++ (shared_in value g limit ++ past_cap (expansion_round value g limit).fresh)

-- Where the trees of a written rule, by itself or within a level, correspond one to one to derivation trees, whatever the origins
-- of their alternatives, it has in both languages the same words: the leaves of its written trees are the leaves of the
-- derivation trees of its nonterminal.
abbrev pub WordsAreEqual : Type 0
WordsAreEqual =
    (fs : Features) (g : GrammarData) (l : LoweredGrammar) (origins : List Origin) (r : RuleData) (s : ClosedSymbol) → IsSymbolOf r s →
    OneToOne (written_meaning fs g) (written_name fs g) (derivations origins l) s →
    (w : List Terminal) → IsWrittenWord (written_meaning fs g) s w ↔ IsWordOf (derivations origins l) (written_name fs g s) w

-- If a condition has a value by what its left operand is bound to, that is its value in the meaning of a grammar.
abbrev pub ConditionsHaveOneValue : Type 0
ConditionsHaveOneValue = (c : Condition) (left : ClosedSymbol) (value : Bool) →
    condition_value c.op left c.rhs ≡ Some value → value_of comparison c (Some left) ≡ value
