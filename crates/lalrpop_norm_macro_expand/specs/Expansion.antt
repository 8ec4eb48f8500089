-- All errors of an expansion (`expand_macros`), round by round.
use Rattle.std.specs.Prelude.{ℕ, zero, suc, Bool, not, ◌&&◌, ◌||◌, List, [], ◌∷◌, ◌++◌, flat_map, bytes_eq}
use Rattle.std.specs.List.{list_any}
use Rattle.lalrpop_norm_tree.specs.declared.symbol.RepeatOp.{RepeatOp}
use Rattle.lalrpop_norm_tree.specs.declared.symbol.RepeatOp.TheVariants.{Star, Plus, Question, Times}
use Rattle.lalrpop_norm_tree_names.specs.declared.names.Span.{Span}
use Rattle.lalrpop_norm_tree.specs.Symbols.{Part, group, call, repeated}
use Rattle.lalrpop_norm_tree.specs.Symbols.{at}
use Rattle.lalrpop_norm_tree.specs.SymbolTexts.{part_text}
use Rattle.lalrpop_norm_tree.specs.Items.{RuleData, GrammarData}
use Rattle.lalrpop_norm_faults.specs.declared.kind.FaultKind.TheVariants.{NamedInGroup, NamedInTimes, RecursionCap, SharedName}
use Rattle.lalrpop_norm_faults.specs.Faults.{Fault, fault_if}
use Rattle.lalrpop_norm_theory.specs.Rounds.{rules_made}
use Rattle.lalrpop_norm_model.specs.Grammars.{ConditionValue}
use Rattle.lalrpop_norm_model.specs.MadeRules.{macro_named, names_value, some_name_value}
use Rattle.lalrpop_norm_model.specs.PlainRules.{met_in_rule, met_by_made, rules_without_arguments, macros_of}
use Rattle.lalrpop_norm_model.specs.PlainRules.{same_apart_from_spans, expansion_round}
use Rattle.lalrpop_norm_model.specs.Expanded.{rule_names}
use Rattle.lalrpop_norm_model.specs.Scopes.{resolved_grammar}
use Rattle.lalrpop_norm_resolve.specs.NameFaults.{resolve_faults}
use Rattle.lalrpop_norm_model.specs.MadeRules.{span_of}
use Rattle.lalrpop_norm_macro_expand_rules.specs.Conditions.{called_faults}
use Rattle.lalrpop_norm_macro_expand_rules.specs.Names.{is_declared_name}

-- ---- F37: shared names

-- one of the reached symbols has its text and is not equal up to spans
abbrev pub has_other : List Part → Part → Bool
has_other met x = list_any (λ y. bytes_eq (part_text y) (part_text x) && not (same_apart_from_spans y x)) met

-- Of symbols that are reached one after another, those of `met` before them: each whose text is a declared name, or the text of
-- another symbol that was reached and is not the same.
abbrev pub shared_names : List (List ℕ) → List Part → List Part → List Fault
shared_names names met [] = []
shared_names names met (x ∷ xs) =
    fault_if (is_declared_name names (part_text x) || has_other met x) (SharedName, span_of x)
    ++ shared_names names (met ++ x ∷ []) xs

-- what round k + 1 reaches: round 1 in the rules of the grammar, each later one in those that the round before generated
abbrev pub meetings : ConditionValue → GrammarData → ℕ → List Part
meetings value g zero = flat_map met_in_rule (rules_without_arguments g)
meetings value g (suc k) = flat_map (met_by_made value (macros_of g)) (rules_made (expansion_round value g k))

-- all that is reached in the first rounds
abbrev pub met_before : ConditionValue → GrammarData → ℕ → List Part
met_before value g zero = []
met_before value g (suc k) = met_before value g k ++ meetings value g k

abbrev pub shared_in : ConditionValue → GrammarData → ℕ → List Fault
shared_in value g k = shared_names (rule_names g) (met_before value g k) (meetings value g k)

-- ---- F33, F34, F35, F57: no rule is generated

-- a named or tuple symbol that is repeated by `X{n}`
abbrev pub unmade_repeat : Span → RepeatOp → Part → List Fault
unmade_repeat s Star p = []
unmade_repeat s Plus p = []
unmade_repeat s Question p = []
unmade_repeat s (Times n) p = fault_if (names_value p) (NamedInTimes, s)

-- a group with a named or tuple symbol in it; such a repeat; a call of a macro with a condition that has no value
abbrev pub unmade : List RuleData → Part → List Fault
unmade macros (at s (group ps)) = fault_if (some_name_value ps) (NamedInGroup, s)
unmade macros (at s (call n ps)) = called_faults (macro_named macros n) ps
unmade macros (at s (repeated op p)) = unmade_repeat s op p
unmade macros (at s _) = []

-- of the new symbols of round k + 1, the one reached last first
abbrev pub unmade_in : ConditionValue → GrammarData → ℕ → List Fault
unmade_in value g k = flat_map (unmade (macros_of g)) (rules_made (expansion_round value g k))

-- ---- F36: the cap

-- something is new where nothing may be: at the symbol reached last
abbrev pub past_cap : List Part → List Fault
past_cap [] = []
past_cap (x ∷ []) = (RecursionCap, span_of x) ∷ []
past_cap (x ∷ y ∷ xs) = past_cap (y ∷ xs)

-- ---- all of them

-- Of round k + 1 and those after it, where the rules of that many rounds may still be generated: what shares a name, as it is
-- reached; then that something is new past the cap, or what has no rule.
abbrev pub faults_from : ConditionValue → GrammarData → ℕ → ℕ → List Fault
faults_from value g k zero = shared_in value g k ++ past_cap (expansion_round value g k).fresh
faults_from value g k (suc left) = shared_in value g k ++ (unmade_in value g k ++ faults_from value g (suc k) left)

-- all errors of an expansion, in visiting order
abbrev pub expansion_faults : ConditionValue → GrammarData → ℕ → List Fault
expansion_faults value g limit = faults_from value g 0 limit

-- the faults of the names of a grammar, then those of the expansion of the resolved one
abbrev pub macro_faults : ConditionValue → GrammarData → ℕ → List Fault
macro_faults value g limit = resolve_faults g ++ expansion_faults value (resolved_grammar g) limit
