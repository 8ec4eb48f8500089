-- The origins of the alternatives of the expanded grammar: a rule without arguments keeps its list, and each generated rule gets
-- its own, parallel to `made_rules`.
use Rattle.std.specs.Prelude.{ℕ, Bool, not, ◌&&◌, List, [], ◌∷◌, ◌++◌, flat_map, Option, Some, None, bytes_eq, if◌then◌else◌}
use Rattle.lalrpop_norm_theory.specs.Symbols.{Name}
use Rattle.lalrpop_norm_theory.specs.LoweredTrees.{Origin, from_group, star_empty, star_some, plus_one, plus_more, question_some}
use Rattle.lalrpop_norm_theory.specs.LoweredTrees.{question_empty, from_times, from_lookahead, from_lookbehind}
use Rattle.lalrpop_norm_tree.specs.declared.symbol.RepeatOp.{RepeatOp}
use Rattle.lalrpop_norm_tree.specs.declared.symbol.RepeatOp.TheVariants.{Star, Plus, Question, Times}
use Rattle.lalrpop_norm_tree.specs.Symbols.{Part, Parts, group, call, repeated, lookahead, lookbehind, at}
use Rattle.lalrpop_norm_tree.specs.Items.{AlternativeData, RuleData, ItemData, GrammarData, rule_item, match_item, extern_item}
use Rattle.lalrpop_norm_tree.specs.Items.{intern_item, use_item}
use Rattle.lalrpop_norm_model.specs.Grammars.{ConditionValue, is_nil, is_true}
use Rattle.lalrpop_norm_model.specs.Reading.{read_all}
use Rattle.lalrpop_norm_model.specs.MadeRules.{flat_reader}
use Rattle.lalrpop_norm_model.specs.PlainRules.{made_symbols}

-- ---- rules with their lists

-- a rule, and the origins of its alternatives
abbrev pub TracedRule : Type 0
TracedRule = RuleData × List Origin

-- each rule with its list
abbrev pub traced_rules : List ItemData → List (List Origin) → List TracedRule
traced_rules [] oss = []
traced_rules (rule_item r ∷ items) [] = traced_rules items []
traced_rules (rule_item r ∷ items) (os ∷ oss) = (r, os) ∷ traced_rules items oss
traced_rules (match_item m ∷ items) oss = traced_rules items oss
traced_rules (extern_item t ∷ items) oss = traced_rules items oss
traced_rules (intern_item t ∷ items) oss = traced_rules items oss
traced_rules (use_item u ∷ items) oss = traced_rules items oss

-- the list of a rule without arguments
abbrev pub plain_list : TracedRule → List (List Origin)
plain_list t = if is_nil t.0.args then t.1 ∷ [] else []

abbrev pub is_macro_of : Name → RuleData → Bool
is_macro_of n r = not (is_nil r.args) && bytes_eq r.name.0 n

-- the macro of a name; of several the first
abbrev pub traced_macro : List TracedRule → Name → Option TracedRule
traced_macro [] n = None
traced_macro (t ∷ ts) n = if is_macro_of n t.0 then Some t else traced_macro ts n

-- ---- generated rules

-- of the origins of some alternatives, those of the alternatives that are kept
abbrev pub kept_origins : (AlternativeData → Bool) → List AlternativeData → List Origin → List Origin
kept_origins keeps [] os = []
kept_origins keeps (a ∷ rest) [] = []
kept_origins keeps (a ∷ rest) (o ∷ os) = if keeps a then o ∷ kept_origins keeps rest os else kept_origins keeps rest os

-- A call of a macro: the macro's origins of the alternatives whose condition is true or absent.
abbrev pub instance_origins : ConditionValue → Option TracedRule → Parts → List (List Origin)
instance_origins value None args = []
instance_origins value (Some t) args =
    kept_origins (λ a. is_true value t.0.args (read_all flat_reader args) a.condition) t.0.alternatives t.1 ∷ []

abbrev pub repeat_origins : RepeatOp → List Origin
repeat_origins Star = star_empty ∷ star_some ∷ []
repeat_origins Plus = plus_one ∷ plus_more ∷ []
repeat_origins Question = question_some ∷ question_empty ∷ []
repeat_origins (Times n) = from_times ∷ []

-- one list for each rule that a symbol is desugared to, where `macro` finds the macros
abbrev pub made_origins : ConditionValue → (Name → Option TracedRule) → Part → List (List Origin)
made_origins value macro (at s (group ps)) = (from_group ∷ []) ∷ []
made_origins value macro (at s (call n ps)) = instance_origins value (macro n) ps
made_origins value macro (at s (repeated op p)) = repeat_origins op ∷ []
made_origins value macro (at s lookahead) = (from_lookahead ∷ []) ∷ []
made_origins value macro (at s lookbehind) = (from_lookbehind ∷ []) ∷ []
made_origins value macro (at s _) = []

-- ---- the expanded grammar

-- One list for each rule of the expanded grammar, if the first `count` rounds generate all rules: those of the rules that are no
-- macros, then those of the generated rules, in order.
abbrev pub expanded_lists : ConditionValue → GrammarData → List (List Origin) → ℕ → List (List Origin)
expanded_lists value g oss count =
    flat_map plain_list (traced_rules g.items oss)
    ++ flat_map (made_origins value (traced_macro (traced_rules g.items oss))) (made_symbols value g count)

-- those of all alternatives, rule by rule
abbrev pub in_one_list : List (List Origin) → List Origin
in_one_list oss = flat_map (λ os. os) oss
