-- What is proved of the definitions: what the early passes promise is what the late ones ask, and with what these promise it is
-- the headline.
use Rattle.std.specs.Prelude.{◌≡◌, ℕ, ◌++◌, List, [], Option, IsSome}
use Rattle.lalrpop_norm_tree.specs.Items.{RuleData, ExternTokenData, GrammarData, extern_item}
use Rattle.lalrpop_norm_tree_parts.specs.Reprs.{ReprData}
use Rattle.lalrpop_norm_theory.specs.Rounds.{In}
use Rattle.lalrpop_norm_conditions.specs.Conditions.{comparison}
use Rattle.lalrpop_norm_model.specs.CheckedTokens.{IsChecked, IsEntered}
use Rattle.lalrpop_norm_model.specs.Lexers.{Lexer}
use Rattle.lalrpop_norm_model.specs.TokenFaults.{token_faults}
use Rattle.lalrpop_norm_model.specs.Enabled.{enabled_extern, enabled_grammar}
use Rattle.lalrpop_norm_model.specs.Expanded.{rule_names, interns, IsExpanded, IsTyped}
use Rattle.lalrpop_norm_model.specs.Features.{Features}
use Rattle.lalrpop_norm_model.specs.InferenceFaults.{inference_faults}
use Rattle.lalrpop_norm_model.specs.LoweringFaults.{lowering_faults}
use Rattle.lalrpop_norm_model.specs.PlainRules.{all_rules}
use Rattle.lalrpop_norm_model.specs.TypeRelation.{IsRule}
use Rattle.lalrpop_norm_model.specs.Renumbered.{prepared_grammar}
use Rattle.lalrpop_norm_resolve.specs.NameFaults.{resolve_faults}
use Rattle.lalrpop_norm_precedence.specs.PrecedenceFaults.{leveled_faults}
use Rattle.lalrpop_norm_prevalidate.specs.GrammarFaults.{validate_faults}
use Rattle.lalrpop_norm_macro_expand.specs.Expansion.{expansion_faults}
use Rattle.lalrpop_norm_repr.specs.Closed.{IsClosed}
use Rattle.lalrpop_norm_repr.specs.Lowered.{LoweredGrammar}
use Rattle.lalrpop_norm_repr.specs.Tables.{TypeTable}
use Rattle.lalrpop_norm_lower.specs.Lowering.{public_rules_in}
use Rattle.lalrpop_norm_lower.specs.Made.{types_by_name}
use Rattle.lalrpop_norm_lower.specs.Shape.{HasStartTypes, IsLoweringOf}
use Rattle.lalrpop_norm.specs.Faithful.{HasGroundedTypes, IsInferred, IsFaithful, grammar_with_levels, grammar_of_plain_rules}

-- ---- what passes find

-- The passes up to the expansion, which makes so many rounds, find nothing wrong with a written grammar.
pub record PassesExpansion (fs : Features) (g : GrammarData) (limit : ℕ) : Type 0 where
  pub valid : validate_faults g ≡ []
  pub resolved : resolve_faults (enabled_grammar fs g) ≡ []
  pub leveled : leveled_faults (prepared_grammar fs g) ≡ []
  pub expanded : expansion_faults comparison (grammar_with_levels fs g) limit ≡ []

-- Nor does the pass on tokens with the expanded grammar, of which the other grammar is the one with its entries.
pub record PassesTokens (fs : Features) (g : GrammarData) (limit : ℕ) (entered : GrammarData) : Type 0 where
  pub before : PassesExpansion fs g limit
  pub supplied : token_faults (grammar_of_plain_rules fs g limit) ≡ []
  pub entries : IsEntered (grammar_of_plain_rules fs g limit) entered

-- Nor do inference, which infers that table, and lowering with the grammar with its entries.
pub record PassesLowering (fs : Features) (g : GrammarData) (limit : ℕ) (entered : GrammarData)
    (table : TypeTable) : Type 0 where
  pub before : PassesTokens fs g limit entered
  pub typable : inference_faults entered ≡ []
  pub inferred : IsInferred entered table
  pub lowerable : lowering_faults entered (types_by_name table) ≡ []

-- ---- rules of the expanded grammar

-- The expanded grammar satisfies `IsExpanded`, and has no internal tokens yet, as the pass on tokens asks.
abbrev pub PlainGrammarsAreExpanded : Type 0
PlainGrammarsAreExpanded =
    (fs : Features) (g : GrammarData) (limit : ℕ) → PassesExpansion fs g limit →
    IsExpanded (grammar_of_plain_rules fs g limit) × (interns (grammar_of_plain_rules fs g limit) ≡ [])

-- With its entries it satisfies `IsExpanded` as well.
abbrev pub EnteredGrammarsAreExpanded : Type 0
EnteredGrammarsAreExpanded =
    (fs : Features) (g : GrammarData) (limit : ℕ) (entered : GrammarData) →
    PassesTokens fs g limit entered → IsExpanded entered

-- With its entries it is typed by each table in which each of its rules has a type.
abbrev pub PlainGrammarsAreTyped : Type 0
PlainGrammarsAreTyped =
    (fs : Features) (g : GrammarData) (limit : ℕ) (entered : GrammarData) → PassesTokens fs g limit entered →
    (table : List ℕ → Option ReprData) → ((r : RuleData) → IsRule entered r → IsSome (table r.name.0)) →
    IsTyped fs entered table

-- Of its conversions each is active.
abbrev pub PlainConversionsAreActive : Type 0
PlainConversionsAreActive = (fs : Features) (g : GrammarData) (limit : ℕ) (t : ExternTokenData) →
    In (extern_item t) (grammar_of_plain_rules fs g limit).items → enabled_extern fs t ≡ t

-- ---- types

-- The inferred table has a type for each rule.
abbrev pub InferredTypesAreTotal : Type 0
InferredTypesAreTotal = (fs : Features) (g : GrammarData) (limit : ℕ) (entered : GrammarData) (table : TypeTable) →
    PassesTokens fs g limit entered → inference_faults entered ≡ [] → IsInferred entered table →
    (r : RuleData) → IsRule entered r → IsSome (types_by_name table r.name.0)

-- The start name of a public rule is no rule's name.
abbrev pub StartNamesAreFree : Type 0
StartNamesAreFree = (fs : Features) (g : GrammarData) (limit : ℕ) (entered : GrammarData) (table : TypeTable) →
    PassesLowering fs g limit entered table → (r : RuleData) → In r (public_rules_in (all_rules entered)) →
    In (entered.prefix ++ r.name.0) (rule_names entered) → ⊥

-- Once start symbols have their rules' types, each nonterminal has its only derivable type.
abbrev pub LoweredTypesAreGrounded : Type 0
LoweredTypesAreGrounded = (fs : Features) (g : GrammarData) (limit : ℕ) (entered : GrammarData) (table types : TypeTable) →
    PassesLowering fs g limit entered table → HasStartTypes entered.prefix (all_rules entered) table types →
    HasGroundedTypes entered types

-- ---- the whole

-- What is lowered from the expanded grammar with its tokens, for which that lexer builds the automaton, with nothing left open,
-- is faithful.
abbrev pub LoweredGrammarsAreFaithful : {R : Type 0} → Lexer R → Type 0
LoweredGrammarsAreFaithful lexer =
    (fs : Features) (g : GrammarData) (limit : ℕ) (checked : GrammarData) (table : TypeTable) (l : LoweredGrammar) →
    IsChecked lexer (grammar_of_plain_rules fs g limit) checked → PassesLowering fs g limit checked table →
    IsLoweringOf checked (all_rules checked) table l → IsClosed l →
    IsFaithful lexer fs limit g l
