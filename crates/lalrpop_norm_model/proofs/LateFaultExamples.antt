-- The errors of inference and lowering in small grammars, with the spans of their texts, found by hand.
use Rattle.std.proofs.Common.{◌≡◌, ℕ, List, [], ◌∷◌, Option, Some, None, false, codes, refl, ap, arith}
use Rattle.lalrpop_norm_tree_names.specs.declared.names.Span.{Span}
use Rattle.lalrpop_norm_tree.specs.Items.{Action, user_code, fallible_code, lookahead_code, AlternativeData, RuleData, GrammarData, everywhere}
use Rattle.lalrpop_norm_tree.specs.Symbols.{ArgumentPattern, ArgumentPatterns, one_name, several, no_arguments, argument_and, Part, terminal, nonterminal, chosen, tupled, at, parts_of}
use Rattle.lalrpop_norm_tree.specs.Types.{TypeData, id, tuple, no_types}
use Rattle.lalrpop_norm_faults.specs.Faults.{Fault, first}
use Rattle.lalrpop_norm_faults.specs.declared.kind.FaultKind.TheVariants.{NoAlternatives, OnlyCoded, NotGrounded, Disagreement, TupleOverSymbol, TupleOverType, TupleLength, Placeholders, StartTaken, TooManyActions}
use Rattle.lalrpop_norm_model.specs.InferenceFaults.{inferred_table, inference_faults}
use Rattle.lalrpop_norm_model.specs.LoweringFaults.{slots, action_number_faults, lowering_faults}
use Rattle.lalrpop_norm_model.proofs.ExampleWords.{span, name_before}
use Rattle.lalrpop_norm_model.proofs.ExampleGrammars.{quoted, with_code, a_rule, tok_tokens, of_rules}

-- ---- words

abbrev literal_at : Span → List ℕ → Part
literal_at s text = at s (terminal (quoted text))

abbrev name_at : Span → List ℕ → Part
name_at s n = at s (nonterminal n)

abbrev alternative_at : Span → Option Action → List Part → AlternativeData
alternative_at s code ps = record (with_code code []) { span = s; parts = parts_of ps }

abbrev rule_at : Span → List ℕ → Option TypeData → List AlternativeData → RuleData
rule_at s n t alternatives = record (a_rule n t alternatives) { span = s }

abbrev written : List ℕ → Option Action
written text = Some (user_code text)

abbrev unit : Option TypeData
unit = Some (tuple no_types)

abbrev one : List ℕ → ArgumentPattern
one n = one_name (record { mutable = false; name = n })

abbrev pair : ArgumentPattern → ArgumentPattern → ArgumentPatterns
pair p q = argument_and p (argument_and q no_arguments)

-- `(a, b)`
abbrev a_and_b : ArgumentPatterns
a_and_b = pair (one (codes "a")) (one (codes "b"))

abbrev under : Span → ArgumentPatterns → Part → Part
under s ns p = at s (tupled ns p)

-- ---- rules for which no type is derivable

-- `A = {};`
without_alternatives : inference_faults (of_rules (tok_tokens [] ∷ []) (rule_at (span 35 36) (codes "A") None [] ∷ []))
    ≡ (NoAlternatives, span 35 36) ∷ (NotGrounded, span 35 36) ∷ []
without_alternatives = refl

-- `A = { => 1 };`, which is reported at the alternative
abbrev coded_alone : GrammarData
coded_alone = of_rules (tok_tokens [] ∷ []) (rule_at (span 35 36) (codes "A") None (alternative_at (span 41 46) (written (codes "1")) [] ∷ []) ∷ [])

coded_faults : inference_faults coded_alone ≡ (OnlyCoded, span 41 46) ∷ (NotGrounded, span 35 36) ∷ []
coded_faults = refl

-- and not at the rule as one without a type
not_grounded_first : first (inference_faults coded_alone) ≡ Some (NotGrounded, span 35 36) → ⊥
not_grounded_first h = let apart : 41 ≡ 35 = ap place_of h in absurd (omega (arith, apart))
  where
    place_of : Option Fault → ℕ
    place_of None = 0
    place_of (Some f) = f.1.0

-- `A: () = {};`
declared_alone : inference_faults (of_rules (tok_tokens [] ∷ []) (rule_at (span 35 36) (codes "A") unit [] ∷ [])) ≡ []
declared_alone = refl

-- `A = { => 1 }; B = {};`: rule by rule, and not one kind after the other
by_rules : inference_faults (of_rules (tok_tokens [] ∷ [])
    (rule_at (span 35 36) (codes "A") None (alternative_at (span 41 46) (written (codes "1")) [] ∷ []) ∷ rule_at (span 49 50) (codes "B") None [] ∷ []))
    ≡ (OnlyCoded, span 41 46) ∷ (NoAlternatives, span 49 50) ∷ (NotGrounded, span 35 36) ∷ (NotGrounded, span 49 50) ∷ []
by_rules = refl

-- `L = @L`'s rule where no location is declared: it lacks nothing, and has no type
located_nowhere : inference_faults (of_rules (tok_tokens [] ∷ []) (rule_at (span 3 4) (codes "L") None (alternative_at (span 5 6) (Some lookahead_code) [] ∷ []) ∷ []))
    ≡ (NotGrounded, span 3 4) ∷ []
located_nowhere = refl

-- `A = B; B = C; C = D; D = A;`
circle_faults : inference_faults (of_rules (tok_tokens [] ∷ [])
    (rule_at (span 35 36) (codes "A") None (alternative_at (span 39 40) None (name_at (span 39 40) (codes "B") ∷ []) ∷ [])
    ∷ rule_at (span 42 43) (codes "B") None (alternative_at (span 46 47) None (name_at (span 46 47) (codes "C") ∷ []) ∷ [])
    ∷ rule_at (span 49 50) (codes "C") None (alternative_at (span 53 54) None (name_at (span 53 54) (codes "D") ∷ []) ∷ [])
    ∷ rule_at (span 56 57) (codes "D") None (alternative_at (span 60 61) None (name_at (span 60 61) (codes "A") ∷ []) ∷ []) ∷ []))
    ≡ (NotGrounded, span 35 36) ∷ (NotGrounded, span 42 43) ∷ (NotGrounded, span 49 50) ∷ (NotGrounded, span 56 57) ∷ []
circle_faults = refl

-- ---- alternatives that disagree

-- `X = {X Y, Y}; Y: u8 = "y";`: X has u8 by its second alternative
back_faults : inference_faults (of_rules (tok_tokens (codes "y" ∷ []) ∷ [])
    (rule_at (span 48 49) (codes "X") None (alternative_at (span 53 56) None (name_at (span 53 54) (codes "X") ∷ name_at (span 55 56) (codes "Y") ∷ [])
    ∷ alternative_at (span 58 59) None (name_at (span 58 59) (codes "Y") ∷ []) ∷ [])
    ∷ rule_at (span 62 63) (codes "Y") (Some (id (codes "u8"))) (alternative_at (span 70 73) None (literal_at (span 70 73) (codes "y") ∷ []) ∷ []) ∷ []))
    ≡ (Disagreement, span 53 56) ∷ []
back_faults = refl

-- `A = {B, "x"}; B = {A C, "y"}; C = "c";`
chain_faults : inference_faults (of_rules (tok_tokens (codes "x" ∷ codes "y" ∷ codes "c" ∷ []) ∷ [])
    (rule_at (span 78 79) (codes "A") None (alternative_at (span 83 84) None (name_at (span 83 84) (codes "B") ∷ []) ∷ alternative_at (span 86 89) None (literal_at (span 86 89) (codes "x") ∷ []) ∷ [])
    ∷ rule_at (span 92 93) (codes "B") None (alternative_at (span 97 100) None (name_at (span 97 98) (codes "A") ∷ name_at (span 99 100) (codes "C") ∷ []) ∷ alternative_at (span 102 105) None (literal_at (span 102 105) (codes "y") ∷ []) ∷ [])
    ∷ rule_at (span 108 109) (codes "C") None (alternative_at (span 112 115) None (literal_at (span 112 115) (codes "c") ∷ []) ∷ []) ∷ []))
    ≡ (Disagreement, span 97 100) ∷ []
chain_faults = refl

-- ---- tuple patterns

-- `A: () = <(a, b):"x"> => ();`, and `<(a, b):B>` with `B: u8 = "x";`
over_a_literal : inference_faults (of_rules (tok_tokens (codes "x" ∷ []) ∷ [])
    (rule_at (span 48 49) (codes "A") unit (alternative_at (span 56 74) (written (codes "()")) (under (span 56 68) a_and_b (literal_at (span 64 67) (codes "x")) ∷ []) ∷ []) ∷ []))
    ≡ (TupleOverSymbol, span 64 67) ∷ []
over_a_literal = refl

over_no_tuple : inference_faults (of_rules (tok_tokens (codes "x" ∷ []) ∷ [])
    (rule_at (span 48 49) (codes "A") unit (alternative_at (span 56 72) (written (codes "()")) (under (span 56 66) a_and_b (name_at (span 64 65) (codes "B")) ∷ []) ∷ [])
    ∷ rule_at (span 74 75) (codes "B") (Some (id (codes "u8"))) (alternative_at (span 82 85) None (literal_at (span 82 85) (codes "x") ∷ []) ∷ []) ∷ []))
    ≡ (TupleOverType, span 64 65) ∷ []
over_no_tuple = refl

-- `Bar = "a" "b" "c"; Bam = "b" Bar;`
abbrev bar_and_bam : List RuleData
bar_and_bam =
    rule_at (span 151 154) (codes "Bar") None (alternative_at (span 157 168) None (literal_at (span 157 160) (codes "a") ∷ literal_at (span 161 164) (codes "b") ∷ literal_at (span 165 168) (codes "c") ∷ []) ∷ [])
    ∷ rule_at (span 170 173) (codes "Bam") None (alternative_at (span 176 183) None (literal_at (span 176 179) (codes "b") ∷ name_at (span 180 183) (codes "Bar") ∷ []) ∷ []) ∷ []

abbrev abc : List (List ℕ)
abc = codes "a" ∷ codes "b" ∷ codes "c" ∷ []

-- `Foo: String = { <(a, b):Bar> => a + b, <(a, (b, c)):Bam> => a + b + c };`: both patterns are too short, the second inside
of_other_lengths : inference_faults (of_rules (tok_tokens abc ∷ [])
    (rule_at (span 78 81) (codes "Foo") (Some (id (codes "String")))
    (alternative_at (span 94 115) (written (codes "a + b")) (under (span 94 106) a_and_b (name_at (span 102 105) (codes "Bar")) ∷ [])
    ∷ alternative_at (span 117 148) (written (codes "a + b + c")) (under (span 117 134) (pair (one (codes "a")) (several (pair (one (codes "b")) (one (codes "c"))))) (name_at (span 130 133) (codes "Bam")) ∷ []) ∷ [])
    ∷ bar_and_bam))
    ≡ (TupleLength, span 102 105) ∷ (TupleLength, span 130 133) ∷ []
of_other_lengths = refl

-- `<(a, b):Bam>` fits
fitting : inference_faults (of_rules (tok_tokens abc ∷ [])
    (rule_at (span 78 81) (codes "Foo") (Some (id (codes "String"))) (alternative_at (span 94 115) (written (codes "a")) (under (span 94 106) a_and_b (name_at (span 102 105) (codes "Bam")) ∷ []) ∷ []) ∷ bar_and_bam))
    ≡ []
fitting = refl

-- `(a, (b, c))` over the type of `"x" B`, where `B: u8`: what is nested is over no tuple type
nested_over_no_tuple : inference_faults (of_rules (tok_tokens (codes "x" ∷ []) ∷ [])
    (rule_at (span 1 2) (codes "A") unit (alternative_at (span 3 9) (written (codes "()")) (under (span 4 8) (pair (one (codes "a")) (several (pair (one (codes "b")) (one (codes "c"))))) (name_at (span 6 7) (codes "C")) ∷ []) ∷ [])
    ∷ rule_at (span 10 11) (codes "C") None (alternative_at (span 12 15) None (literal_at (span 12 13) (codes "x") ∷ name_at (span 14 15) (codes "B") ∷ []) ∷ [])
    ∷ rule_at (span 20 21) (codes "B") (Some (id (codes "u8"))) (alternative_at (span 22 23) None (literal_at (span 22 23) (codes "x") ∷ []) ∷ []) ∷ []))
    ≡ (TupleOverType, span 6 7) ∷ []
nested_over_no_tuple = refl

-- ---- lowering: `<>` and sources

slots_counted : slots (codes "a<>b<><>< ><") ≡ 3
slots_counted = refl

abbrev faults_of : GrammarData → List Fault
faults_of g = lowering_faults g (inferred_table g)

-- `A: u32 = => "<> <>";`: two, and no source
no_source : faults_of (of_rules (tok_tokens (codes "a" ∷ []) ∷ []) (rule_at (span 48 49) (codes "A") (Some (id (codes "u32"))) (alternative_at (span 57 67) (written (codes "\"<> <>\"")) [] ∷ []) ∷ []))
    ≡ (Placeholders, span 57 67) ∷ []
no_source = refl

-- `<"a"> "b" <"c">` with some code
abbrev two_chosen : Option Action → GrammarData
two_chosen code = of_rules (tok_tokens abc ∷ [])
    (rule_at (span 78 79) (codes "A") (Some (id (codes "u32")))
    (alternative_at (span 87 119) code (at (span 87 92) (chosen (literal_at (span 88 91) (codes "a"))) ∷ literal_at (span 93 96) (codes "b") ∷ at (span 97 102) (chosen (literal_at (span 98 101) (codes "c"))) ∷ []) ∷ []) ∷ [])

three_for_two : faults_of (two_chosen (written (codes "f(<>, <>, <>)"))) ≡ (Placeholders, span 88 101) ∷ []
three_for_two = refl

three_may_fail : faults_of (two_chosen (Some (fallible_code (codes "f(<>, <>, <>)")))) ≡ (Placeholders, span 88 101) ∷ []
three_may_fail = refl

two_for_two : faults_of (two_chosen (written (codes "g(<>) + h(<>)"))) ≡ []
two_for_two = refl

-- one stands for all, and absent code has one at most
one_for_two : faults_of (two_chosen (written (codes "f(<>)"))) ≡ []
one_for_two = refl

absent_for_two : faults_of (two_chosen None) ≡ []
absent_for_two = refl

-- `<><>` beside a name counts nothing: each `<>` becomes all names
beside_a_name : faults_of (of_rules (tok_tokens abc ∷ [])
    (rule_at (span 78 79) (codes "A") (Some (id (codes "u32"))) (alternative_at (span 87 119) (written (codes "<><>")) (at (span 87 92) (name_before (codes "x") (literal_at (span 88 91) (codes "a"))) ∷ literal_at (span 93 96) (codes "b") ∷ []) ∷ []) ∷ []))
    ≡ []
beside_a_name = refl

-- ---- lowering: start symbols

abbrev public_at : Span → List ℕ → RuleData
public_at s n = record (rule_at s n unit (alternative_at s None (literal_at s (codes "a") ∷ []) ∷ [])) { visibility = everywhere None }

abbrev private_at : Span → List ℕ → RuleData
private_at s n = rule_at s n unit (alternative_at s None (literal_at s (codes "a") ∷ []) ∷ [])

abbrev with_prefix : List ℕ → List RuleData → GrammarData
with_prefix prefix rules = record (of_rules (tok_tokens (codes "a" ∷ []) ∷ []) rules) { prefix = prefix }

-- the prefix `x`, and the public rules A and xA in this order: the start symbol of A has the name of xA
taken_by_public : faults_of (with_prefix (codes "x") (public_at (span 52 53) (codes "A") ∷ public_at (span 69 71) (codes "xA") ∷ [])) ≡ (StartTaken, span 52 53) ∷ []
taken_by_public = refl

-- `pub S: () = "a"; __S: () = "a";`
taken_by_private : faults_of (with_prefix (codes "__") (public_at (span 52 53) (codes "S") ∷ private_at (span 65 68) (codes "__S") ∷ [])) ≡ (StartTaken, span 52 53) ∷ []
taken_by_private = refl

-- without a prefix the name is the rule's own; a private rule has no start symbol
own_name : faults_of (with_prefix [] (public_at (span 52 53) (codes "S") ∷ private_at (span 65 66) (codes "T") ∷ [])) ≡ (StartTaken, span 52 53) ∷ []
own_name = refl

free_name : faults_of (with_prefix (codes "__") (public_at (span 52 53) (codes "S") ∷ private_at (span 65 66) (codes "T") ∷ [])) ≡ []
free_name = refl

-- start symbols come before alternatives
starts_first : faults_of (with_prefix (codes "__") (rule_at (span 10 11) (codes "__S") unit (alternative_at (span 12 13) (written (codes "<><>")) [] ∷ []) ∷ public_at (span 52 53) (codes "S") ∷ []))
    ≡ (StartTaken, span 52 53) ∷ (Placeholders, span 12 13) ∷ []
starts_first = refl

-- ---- lowering: numbers

last_number : action_number_faults 4294967295 (span 1 2) ≡ []
last_number = refl

past_the_last : action_number_faults 4294967296 (span 1 2) ≡ (TooManyActions, span 1 2) ∷ []
past_the_last = refl
