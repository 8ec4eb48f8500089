-- The rules of the expanded grammar (`plain_rules`): those of the grammar, then the generated ones, round by round. Each symbol
-- that is desugared is rewritten to the nonterminal of its text.
use Rattle.std.specs.Prelude.{ℕ, Bool, List, [], ◌∷◌, ◌++◌, ◌≡◌, map, flat_map, filter, not}
use Rattle.std.specs.Prelude.{if◌then◌else◌}
use Rattle.lalrpop_norm_tree_names.specs.declared.names.Span.{Span}
use Rattle.lalrpop_norm_tree.specs.Symbols.{Kind, Part, Parts, at}
use Rattle.lalrpop_norm_tree.specs.Traversal.{fold_part, fold_parts}
use Rattle.lalrpop_norm_tree.specs.Items.{AlternativeData, RuleData, ItemData, GrammarData, match_item, extern_item, intern_item}
use Rattle.lalrpop_norm_tree.specs.Items.{rule_item, use_item}
use Rattle.lalrpop_norm_theory.specs.Same.{same_symbol}
use Rattle.lalrpop_norm_theory.specs.Rounds.{Round, rounds, all_rules_made}
use Rattle.lalrpop_norm_model.specs.Reading.{read_part}
use Rattle.lalrpop_norm_model.specs.Replaced.{is_desugared, all_replaced}
use Rattle.lalrpop_norm_model.specs.Grammars.{ConditionValue, is_nil}
use Rattle.lalrpop_norm_model.specs.MadeRules.{flat_reader, made_rules}

-- ---- rules rewritten

abbrev pub replaced_alternative : AlternativeData → AlternativeData
replaced_alternative a = record a { parts = all_replaced a.parts }

-- a rule with the symbols of its alternatives rewritten
abbrev pub replaced_rule : RuleData → RuleData
replaced_rule r = record r { alternatives = map replaced_alternative r.alternatives }

-- ---- what is reached

-- what is reached in a symbol, then the symbol itself if it is desugared
abbrev pub then_itself : Span → Kind → List Part → List Part
then_itself s k inside = if is_desugared k then inside ++ at s k ∷ [] else inside

-- A symbol reaches (`met`) what its parts reach, then itself if it is desugared.
abbrev pub met : Part → List Part
met = fold_part then_itself [] (λ ms ns. ms ++ ns)

abbrev pub all_met : Parts → List Part
all_met = fold_parts then_itself [] (λ ms ns. ms ++ ns)

abbrev pub met_in_rule : RuleData → List Part
met_in_rule r = flat_map (λ (a : AlternativeData). all_met a.parts) r.alternatives

-- ---- rounds

-- Two symbols are the same if they are equal up to spans. An identifier counts as the name of a rule: in a grammar
-- whose names are resolved there is none.
abbrev pub same_apart_from_spans : Part → Part → Bool
same_apart_from_spans p q = same_symbol (read_part flat_reader 0 0 p) (read_part flat_reader 0 0 q)

-- what the rule of a symbol reaches
abbrev pub met_by_made : ConditionValue → List RuleData → Part → List Part
met_by_made value macros p = flat_map met_in_rule (made_rules value macros p)

abbrev pub rule_of_item : ItemData → List RuleData
rule_of_item (rule_item r) = r ∷ []
rule_of_item _ = []

abbrev pub all_rules : GrammarData → List RuleData
all_rules g = flat_map rule_of_item g.items

-- rules without arguments, and macros
abbrev pub rules_without_arguments : GrammarData → List RuleData
rules_without_arguments g = filter (λ r. is_nil r.args) (all_rules g)

abbrev pub macros_of : GrammarData → List RuleData
macros_of g = filter (λ r. not (is_nil r.args)) (all_rules g)

-- what is new in round k + 1, and what was before: round 1 reads the rules of the grammar, each later one those generated in the
-- round before
abbrev pub expansion_round : ConditionValue → GrammarData → ℕ → Round Part
expansion_round value g k =
    rounds same_apart_from_spans (met_by_made value (macros_of g)) (flat_map met_in_rule (rules_without_arguments g)) k

-- the symbols that are desugared in the first `count` rounds, in the order of their rules
abbrev pub made_symbols : ConditionValue → GrammarData → ℕ → List Part
made_symbols value g count =
    all_rules_made same_apart_from_spans (met_by_made value (macros_of g))
    (flat_map met_in_rule (rules_without_arguments g)) count

abbrev pub made_in : ConditionValue → GrammarData → ℕ → List RuleData
made_in value g count = flat_map (made_rules value (macros_of g)) (made_symbols value g count)

-- no round after the first `count` has a new symbol
abbrev pub IsEnded : ConditionValue → GrammarData → ℕ → Type 0
IsEnded value g count = (expansion_round value g count).fresh ≡ []

-- ---- the expanded grammar

-- a rule without arguments, its symbols rewritten; macros are dropped; all else as it is
abbrev pub plain_item : ItemData → List ItemData
plain_item (rule_item r) = if is_nil r.args then rule_item (replaced_rule r) ∷ [] else []
plain_item (match_item m) = match_item m ∷ []
plain_item (extern_item t) = extern_item t ∷ []
plain_item (intern_item t) = intern_item t ∷ []
plain_item (use_item u) = use_item u ∷ []

-- the expanded grammar, if the first `count` rounds generate all rules: what is left of its items, then the generated rules
abbrev pub plain_grammar : ConditionValue → GrammarData → ℕ → GrammarData
plain_grammar value g count =
    record g { items = flat_map plain_item g.items ++ map (λ r. rule_item (replaced_rule r)) (made_in value g count) }

abbrev pub plain_rules : ConditionValue → GrammarData → ℕ → List RuleData
plain_rules value g count = map replaced_rule (rules_without_arguments g) ++ map replaced_rule (made_in value g count)
