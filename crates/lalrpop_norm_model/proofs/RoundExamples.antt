-- What is new in each round of small expansions, where it was first reached, and the order of the rules.
use Rattle.std.proofs.Common.{◌≡◌, ℕ, List, [], ◌∷◌, refl}
use Rattle.std.specs.Prelude.{true, false, codes, length, map}
use Rattle.std.specs.Str.{chars}
use lib.Utf8.{encode}
use Rattle.lalrpop_norm_tree_names.specs.declared.names.TerminalString.TheVariants.{Error}
use Rattle.lalrpop_norm_tree.specs.Symbols.{Kind, Part, group, terminal, call, chosen, lookahead, lookbehind, error_terminal, at, parts_of}
use Rattle.lalrpop_norm_tree.specs.Items.{RuleData, GrammarData}
use Rattle.lalrpop_norm_tree.specs.SymbolTexts.{kind_text}
use Rattle.lalrpop_norm_model.specs.MadeRules.{kind_of}
use Rattle.lalrpop_norm_model.specs.PlainRules.{met, same_apart_from_spans, expansion_round, made_symbols, made_in, IsEnded}
use Rattle.lalrpop_norm_model.proofs.ExampleWords.{span, literal, name, starred, plussed, optional, name_before, alternative, rule, macro_rule, rules_alone, example_value}

-- ---- nested macros
-- A<I> = { "a" B<("." I)> }; B<I> = { "b" C<("," I)> }; C<I> = { "c" I }; pub D = A<"d"> B<"d"> C<"d">;

abbrev token : ℕ → ℕ → List ℕ → Part
token a b t = at (span a b) (literal t)

-- a call with one argument
abbrev called : List ℕ → Part → Kind
called n p = call n (parts_of (p ∷ []))

abbrev pair : Part → Part → Kind
pair p q = group (parts_of (p ∷ (q ∷ [])))

-- a macro of the argument I
abbrev of_i : ℕ → ℕ → List ℕ → ℕ → ℕ → List Part → RuleData
of_i a b n c d ps = macro_rule (span a b) n (codes "I" ∷ []) (alternative (span c d) [] (parts_of ps) ∷ [])

abbrev nested : GrammarData
nested = rules_alone
    (of_i 0 4 (codes "A") 9 23 (token 9 12 (codes "a") ∷ (at (span 13 23) (called (codes "B") (at (span 15 22) (pair (token 16 19 (codes ".")) (at (span 20 21) (name (codes "I")))))) ∷ []))
    ∷ (of_i 27 31 (codes "B") 36 50 (token 36 39 (codes "b") ∷ (at (span 40 50) (called (codes "C") (at (span 42 49) (pair (token 43 46 (codes ",")) (at (span 47 48) (name (codes "I")))))) ∷ []))
    ∷ (of_i 54 58 (codes "C") 63 68 (token 63 66 (codes "c") ∷ (at (span 67 68) (name (codes "I")) ∷ []))
    ∷ (rule (span 76 77) (codes "D") (alternative (span 80 100) [] (parts_of
    (at (span 80 86) (called (codes "A") (token 82 85 (codes "d")))
    ∷ (at (span 87 93) (called (codes "B") (token 89 92 (codes "d")))
    ∷ (at (span 94 100) (called (codes "C") (token 96 99 (codes "d"))) ∷ [])))) ∷ []) ∷ []))))

-- what is new in round k + 1
abbrev new_in : ℕ → List Part
new_in k = (expansion_round example_value nested k).fresh

first_round : new_in 0 ≡
    at (span 80 86) (called (codes "A") (token 82 85 (codes "d")))
    ∷ (at (span 87 93) (called (codes "B") (token 89 92 (codes "d")))
    ∷ (at (span 94 100) (called (codes "C") (token 96 99 (codes "d"))) ∷ []))
first_round = refl

-- Round 2 reads the rules of C, B and A. An argument that is substituted has the span of its name in the macro.
abbrev comma_group : Part
comma_group = at (span 42 49) (pair (token 43 46 (codes ",")) (token 47 48 (codes "d")))

abbrev dot_group : Part
dot_group = at (span 15 22) (pair (token 16 19 (codes ".")) (token 20 21 (codes "d")))

second_round : new_in 1 ≡
    comma_group
    ∷ (at (span 40 50) (called (codes "C") comma_group)
    ∷ (dot_group
    ∷ (at (span 13 23) (called (codes "B") dot_group) ∷ [])))
second_round = refl

-- round 3 reads B, the group with the dot, C and the group with the comma; B puts its group in place of I
abbrev inner_group : Part
inner_group = at (span 42 49) (pair (token 43 46 (codes ",")) (at (span 47 48) (kind_of dot_group)))

third_round : new_in 2 ≡ inner_group ∷ (at (span 40 50) (called (codes "C") inner_group) ∷ [])
third_round = refl

fourth_round : new_in 3 ≡ []
fourth_round = refl

-- so three rounds are enough, and two are not: the call of C in the body of B is still on the worklist
three_are_enough : IsEnded example_value nested 3
three_are_enough = refl

two_are_not : IsEnded example_value nested 2 → ⊥
two_are_not h = cc h

-- the rules of a round are in the reverse of the order in which they are reached
nine_rules : map (λ (r : RuleData). r.name.0) (made_in example_value nested 3) ≡
    codes "C<\"d\">" ∷ (codes "B<\"d\">" ∷ (codes "A<\"d\">"
    ∷ (codes "B<(\".\" \"d\")>" ∷ (codes "(\".\" \"d\")" ∷ (codes "C<(\",\" \"d\")>" ∷ (codes "(\",\" \"d\")"
    ∷ (codes "C<(\",\" (\".\" \"d\"))>" ∷ (codes "(\",\" (\".\" \"d\"))" ∷ []))))))))
unfolding chars encode
nine_rules = refl

two_rounds_make_seven : length (made_symbols example_value nested 2) ≡ 7
two_rounds_make_seven = refl

-- ---- one rule
-- S = .. ; the macro M<T> = T* is beside it

abbrev made_from : List Part → ℕ → List Part
made_from ps count = made_symbols example_value (rules_alone
    (rule (span 0 1) (codes "S") (alternative (span 4 99) [] (parts_of ps) ∷ [])
    ∷ (macro_rule (span 100 104) (codes "M") (codes "T" ∷ []) (alternative (span 107 109) [] (parts_of (at (span 107 109) (starred (at (span 107 108) (name (codes "T")))) ∷ [])) ∷ []) ∷ []))) count

-- nothing is made without calls, groups, repeats and location symbols; a macro that is not called makes nothing
nothing_made : made_from (token 4 7 (codes "a") ∷ (at (span 8 9) error_terminal ∷ (at (span 10 13) (chosen (at (span 11 12) (name (codes "S")))) ∷ []))) 3 ≡ []
nothing_made = refl

-- no round makes nothing, and a limit of 0 is kept if the worklist is empty
no_rounds : made_from (at (span 4 8) (starred (token 4 7 (codes "a"))) ∷ []) 0 ≡ []
no_rounds = refl

without_expansion : IsEnded example_value (rules_alone (rule (span 0 1) (codes "A") (alternative (span 4 7) [] (parts_of (token 4 7 (codes "a") ∷ [])) ∷ []) ∷ [])) 0
without_expansion = refl

-- "a"* "b" "a"*: of two occurrences the first counts, and X+ is where X* was reached
met_twice : made_from (at (span 4 8) (starred (token 4 7 (codes "a"))) ∷ (token 9 12 (codes "b") ∷ (at (span 13 17) (starred (token 13 16 (codes "a"))) ∷ []))) 2
    ≡ at (span 4 8) (starred (token 4 7 (codes "a"))) ∷ (at (span 4 8) (plussed (token 4 7 (codes "a"))) ∷ [])
met_twice = refl

-- "a"* "a"+: X+ is reached in the first round, so where it is written
plus_written : made_from (at (span 4 8) (starred (token 4 7 (codes "a"))) ∷ (at (span 9 13) (plussed (token 9 12 (codes "a"))) ∷ [])) 2
    ≡ at (span 9 13) (plussed (token 9 12 (codes "a"))) ∷ (at (span 4 8) (starred (token 4 7 (codes "a"))) ∷ [])
plus_written = refl

-- ("a" <"b">)?: the group is reached before the repeat, and its rule is behind it
optional_group : made_from (at (span 4 15) (optional (at (span 4 14) (pair (token 5 8 (codes "a")) (at (span 9 14) (chosen (token 10 13 (codes "b"))))))) ∷ []) 1
    ≡ at (span 4 15) (optional (at (span 4 14) (pair (token 5 8 (codes "a")) (at (span 9 14) (chosen (token 10 13 (codes "b")))))))
    ∷ (at (span 4 14) (pair (token 5 8 (codes "a")) (at (span 9 14) (chosen (token 10 13 (codes "b"))))) ∷ [])
optional_group = refl

-- M<("a" "b")>: an argument is reached before its call, and not again where it is substituted
argument_first : made_from (at (span 4 16) (called (codes "M") (at (span 6 15) (pair (token 7 10 (codes "a")) (token 11 14 (codes "b"))))) ∷ []) 2
    ≡ at (span 4 16) (called (codes "M") (at (span 6 15) (pair (token 7 10 (codes "a")) (token 11 14 (codes "b")))))
    ∷ (at (span 6 15) (pair (token 7 10 (codes "a")) (token 11 14 (codes "b")))
    ∷ (at (span 107 109) (starred (at (span 107 108) (pair (token 7 10 (codes "a")) (token 11 14 (codes "b"))))) ∷ []))
argument_first = refl

-- @L @R @L: one rule for each of the two
lookarounds : made_from (at (span 4 6) lookahead ∷ (at (span 7 9) lookbehind ∷ (at (span 10 12) lookahead ∷ []))) 1
    ≡ at (span 7 9) lookbehind ∷ (at (span 4 6) lookahead ∷ [])
lookarounds = refl

-- ---- sameness and texts

-- (error) (!), the first `error` being a rule: two symbols of one text
abbrev of_rule : Part
of_rule = at (span 4 11) (group (parts_of (at (span 5 10) (name (codes "error")) ∷ [])))

abbrev of_error : Part
of_error = at (span 12 15) (group (parts_of (at (span 13 14) error_terminal ∷ [])))

two_symbols : made_from (of_rule ∷ (of_error ∷ [])) 1 ≡ of_error ∷ (of_rule ∷ [])
two_symbols = refl

one_text : kind_text (kind_of of_rule) ≡ kind_text (kind_of of_error)
one_text = refl

-- nor are `!` and a terminal that is the error terminal the same
error_kinds : made_from (at (span 4 11) (group (parts_of (at (span 5 10) (terminal Error) ∷ []))) ∷ (of_error ∷ [])) 1
    ≡ of_error ∷ (at (span 4 11) (group (parts_of (at (span 5 10) (terminal Error) ∷ []))) ∷ [])
error_kinds = refl

-- spans are no part of sameness
same_elsewhere : same_apart_from_spans of_rule (at (span 90 97) (kind_of (at (span 0 0) (group (parts_of (at (span 91 96) (name (codes "error")) ∷ [])))))) ≡ true
same_elsewhere = refl

-- M<x:Y*> read as a named repeat and as the repeat of a named symbol
abbrev named_repeat : Part
named_repeat = at (span 4 12) (called (codes "M") (at (span 6 10) (name_before (codes "x") (at (span 8 10) (starred (at (span 8 9) (name (codes "Y"))))))))

abbrev repeated_named : Part
repeated_named = at (span 4 12) (called (codes "M") (at (span 6 10) (starred (at (span 6 9) (name_before (codes "x") (at (span 8 9) (name (codes "Y"))))))))

two_readings : same_apart_from_spans named_repeat repeated_named ≡ false
two_readings = refl

one_text_of_both : kind_text (kind_of named_repeat) ≡ kind_text (kind_of repeated_named)
one_text_of_both = refl

-- the wrapper reaches nothing by itself: Y* is reached, then the call
named_repeat_meets : met named_repeat ≡ at (span 8 10) (starred (at (span 8 9) (name (codes "Y")))) ∷ (named_repeat ∷ [])
named_repeat_meets = refl

-- ()
empty_group : made_from (at (span 4 6) (group (parts_of [])) ∷ []) 1 ≡ at (span 4 6) (group (parts_of [])) ∷ []
empty_group = refl
