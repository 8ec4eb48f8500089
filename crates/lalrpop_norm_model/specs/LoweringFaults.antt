-- All errors of lowering, in visiting order.
use Rattle.std.specs.Prelude.{ℕ, suc, Bool, not, ◌&&◌, List, [], ◌∷◌, ◌++◌, length, filter, flat_map, Option}
use Rattle.std.specs.Prelude.{Some, None, is_none, nat_eq, nat_le, codes, if◌then◌else◌}
use Rattle.std.specs.List.{starts_with, enumerate_from}
use Rattle.lalrpop_norm_tree_names.specs.declared.names.Span.{Span}
use Rattle.lalrpop_norm_tree.specs.Accessors.{is_public}
use Rattle.lalrpop_norm_tree.specs.Items.{Action, user_code, fallible_code, lookahead_code, lookbehind_code, AlternativeData}
use Rattle.lalrpop_norm_tree.specs.Items.{RuleData, GrammarData}
use Rattle.lalrpop_norm_faults.specs.Faults.{Fault, fault_if}
use Rattle.lalrpop_norm_faults.specs.declared.kind.FaultKind.TheVariants.{Placeholders, StartTaken, TooManyActions}
use Rattle.lalrpop_norm_model.specs.MadeRules.{some_name_value, span_of}
use Rattle.lalrpop_norm_model.specs.PlainRules.{all_rules}
use Rattle.lalrpop_norm_model.specs.Sources.{Source, sources}
use Rattle.lalrpop_norm_model.specs.TypeTables.{Table}

-- ---- `<>` and sources

-- how often `<>` is in a text
abbrev pub slots : List ℕ → ℕ
slots [] = 0
slots (c ∷ cs) = if starts_with nat_eq (c ∷ cs) (codes "<>") then suc (slots cs) else slots cs

abbrev pub code_in : Option Action → List ℕ
code_in (Some (user_code code)) = code
code_in (Some (fallible_code code)) = code
code_in (Some lookahead_code) = []
code_in (Some lookbehind_code) = []
code_in None = []

-- several `<>` that are not as many as the sources, and no symbol has a name for its value
abbrev pub miscounts : AlternativeData → Bool
miscounts a =
    not (some_name_value a.parts)
    && (nat_le 2 (slots (code_in a.action)) && not (nat_eq (slots (code_in a.action)) (length (sources a.parts))))

abbrev pub last_of : Source → List Source → Source
last_of x [] = x
last_of x (y ∷ ys) = last_of y ys

-- from the start of the first source to the end of the last one; if there is none, all
abbrev pub span_over : Span → List Source → Span
span_over all [] = all
span_over all (x ∷ xs) = record { 0 = (span_of x.symbol).0; 1 = (span_of (last_of x xs).symbol).1 }

abbrev pub code_faults : AlternativeData → List Fault
code_faults a = fault_if (miscounts a) (Placeholders, span_over a.span (sources a.parts))

-- ---- start symbols

abbrev pub public_rules : GrammarData → List RuleData
public_rules g = filter (λ (r : RuleData). is_public r.visibility) (all_rules g)

-- the name of a start symbol, the prefix and the rule's, has a type already
abbrev pub start_faults : List ℕ → Table → RuleData → List Fault
start_faults prefix types r = fault_if (not (is_none (types (prefix ++ r.name.0)))) (StartTaken, r.span)

-- ---- numbers of actions

-- an action is numbered by 32 bits
abbrev pub action_number_faults : ℕ → Span → List Fault
action_number_faults number s = fault_if (nat_le 4294967296 number) (TooManyActions, s)

-- ---- all of them

abbrev pub all_alternatives : GrammarData → List AlternativeData
all_alternatives g = flat_map (λ (r : RuleData). r.alternatives) (all_rules g)

-- start symbols, then alternatives, each with the number of its action; its number is looked at last
abbrev pub lowering_faults : GrammarData → Table → List Fault
lowering_faults g types =
    flat_map (λ (e : ℕ × RuleData). start_faults g.prefix types e.1 ++ action_number_faults e.0 e.1.span)
    (enumerate_from 0 (public_rules g))
    ++ flat_map (λ (e : ℕ × AlternativeData). code_faults e.1 ++ action_number_faults e.0 e.1.span)
    (enumerate_from (length (public_rules g)) (all_alternatives g))
