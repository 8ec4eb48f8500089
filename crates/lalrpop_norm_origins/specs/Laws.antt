-- What is proved of lists of origins, each statement in one piece. The functions of the module `laws` carry them.
use Rattle.std.specs.Prelude.{◌≡◌, ℕ, Bool, true, List, [], ◌∷◌, map, flat_map, Option, Some, None, if◌then◌else◌}
use Rattle.lalrpop_norm_tree.specs.Items.{GrammarData}
use Rattle.lalrpop_norm_theory.specs.Symbols.{Name, ClosedSymbols, call}
use Rattle.lalrpop_norm_theory.specs.LoweredTrees.{Origin}
use Rattle.lalrpop_norm_theory.specs.Leveled.{leveled_symbol}
use Rattle.lalrpop_norm_theory.specs.Met.{expanded_symbols}
use Rattle.lalrpop_norm_theory.specs.Rounds.{In, IsDistinct}
use Rattle.lalrpop_norm_model.specs.Features.{Features}
use Rattle.lalrpop_norm_model.specs.Enabled.{enabled_grammar}
use Rattle.lalrpop_norm_model.specs.Levels.{Leveled}
use Rattle.lalrpop_norm_model.specs.WrittenRules.{WrittenRule, rule_named, written_rules, leveled_rules}
use Rattle.lalrpop_norm_model.specs.Grammars.{ConditionValue, meaning, has_arguments, arguments_fit, is_true, references}
use Rattle.lalrpop_norm_model.specs.ClosedTexts.{level_names}
use Rattle.lalrpop_norm_model.specs.LevelRules.{leveled_grammar}
use Rattle.lalrpop_norm_model.specs.LevelNames.{HasLevelNames}
use Rattle.lalrpop_norm_model.specs.PlainRules.{made_symbols}
use Rattle.lalrpop_norm_model.specs.PlainTables.{IsSettled, closed}
use Rattle.lalrpop_norm_model.specs.Origins.{rule_origins, plain_origins}
use Rattle.lalrpop_norm_model.specs.Renumbered.{prepared_grammar}
use Rattle.lalrpop_norm_origins.specs.EnabledOrigins.{places_from, enabled_origins}
use Rattle.lalrpop_norm_origins.specs.LeveledOrigins.{level_origins, leveled_lists}
use Rattle.lalrpop_norm_origins.specs.MadeOrigins.{expanded_lists, in_one_list}

-- of a written rule that is no macro one list for each level, rising, where each alternative comes from its written index
abbrev pub written_level_origins : WrittenRule → List (List Origin)
written_level_origins w = if has_arguments w then [] else level_origins w.has_levels w.places (places_from w.name 0 w.places)

-- These lists are the origins of the rules of the declared references, one list for each, in their order.
abbrev pub LevelOriginsAreRuleOrigins : Type 0
LevelOriginsAreRuleOrigins = (value : ConditionValue) (rs : List WrittenRule) →
    ((w : WrittenRule) → In w rs → rule_named rs w.name ≡ Some w) →
    flat_map written_level_origins rs ≡ map (rule_origins (meaning value rs)) (references rs)

-- of the origins of the alternatives at some indices, those of the alternatives that are kept
abbrev pub kept_there : (Leveled → Bool) → List (Option Leveled) → List Origin → List Origin
kept_there keeps [] os = []
kept_there keeps (None ∷ ps) os = kept_there keeps ps os
kept_there keeps (Some a ∷ ps) [] = []
kept_there keeps (Some a ∷ ps) (o ∷ os) = if keeps a then o ∷ kept_there keeps ps os else kept_there keeps ps os

-- The origins of the rule of a macro call are those of the written indices whose condition is true or absent.
abbrev pub CallsKeepOrigins : Type 0
CallsKeepOrigins = (value : ConditionValue) (rs : List WrittenRule) (n : Name) (args : ClosedSymbols) (r : WrittenRule) →
    rule_named rs n ≡ Some r → has_arguments r ≡ true → arguments_fit r.args args ≡ true →
    rule_origins (meaning value rs) (call n args)
    ≡ kept_there (λ a. is_true value r.args args a.alternative.condition) r.places (places_from n 0 r.places)

-- Of a grammar whose levels can become rules, and whose grammar with levels is settled: where names of written rules are
-- distinct, and the symbols that are desugared are those of the written grammar, the lists of the rules of the expanded grammar,
-- concatenated, are the origins of its alternatives, by the written indices.
abbrev pub ListsArePlainOrigins : Type 0
ListsArePlainOrigins = (value : ConditionValue) (fs : Features) (g : GrammarData) →
    HasLevelNames (prepared_grammar fs g) →
    IsSettled (leveled_grammar (prepared_grammar fs g)) →
    IsDistinct (map (λ (w : WrittenRule). w.name) (written_rules fs g)) → (count : ℕ) →
    map closed (made_symbols value (leveled_grammar (prepared_grammar fs g)) count)
    ≡ map (leveled_symbol (level_names (leveled_rules (prepared_grammar fs g))))
    (expanded_symbols (meaning value (written_rules fs g)) (references (written_rules fs g)) count) →
    in_one_list (expanded_lists value (leveled_grammar (prepared_grammar fs g))
    (leveled_lists (enabled_grammar fs g).items (enabled_origins fs g)) count)
    ≡ plain_origins (meaning value (written_rules fs g)) (references (written_rules fs g)) count
