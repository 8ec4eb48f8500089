-- Ground symbols of small written ones, and their texts.
use Rattle.std.proofs.Common.{◌≡◌, [], ◌∷◌, refl, arith}
use Rattle.std.specs.Prelude.{true, false, Some, None, codes, bytes_eq, if◌then◌else◌}
use Rattle.std.specs.Fmt.{digits}
use Rattle.std.specs.Str.{chars}
use Rattle.std.proofs.lemmas.Fmt.{decimal_digit}
use lib.Utf8.{encode}
use Rattle.lalrpop_norm_tree_names.specs.declared.names.TerminalString.TheVariants.{Literal, Error}
use Rattle.lalrpop_norm_tree_names.specs.declared.names.TerminalLiteral.TheVariants.{Regex}
use Rattle.lalrpop_norm_tree.specs.Symbols as written
use Rattle.lalrpop_norm_tree.specs.Symbols.{Kind, argument_patterns_of, one_name, several}
use Rattle.lalrpop_norm_theory.specs.Symbols.{Name, quoted, regex, bare, error_terminal, ClosedPatterns, name_pattern, tuple_pattern, no_patterns, pattern_and, chosen, named, tuple, ClosedSymbol, terminal, error, reference, call, group, star, plus, question, times, wrapped, lookahead, lookbehind, no_symbols, symbol_and, only}
use Rattle.lalrpop_norm_model.specs.Reading.{Reader, read_kind}
use Rattle.lalrpop_norm_model.specs.MadeRules.{flat_reader}
use Rattle.lalrpop_norm_model.specs.ClosedTexts.{closed_text, level_name, text_in}
use Rattle.lalrpop_norm_model.specs.WrittenRules.{leveled_rules}
use Rattle.lalrpop_norm_model.proofs.ExampleWords as words
use Rattle.lalrpop_norm_model.proofs.ExampleWords.{nowhere, precedence, here, symbols, alternative, rule, rules_alone}

-- ---- texts

-- the text of a symbol without bounds
abbrev text : ClosedSymbol → Name
text g = closed_text (λ n b. n) g

abbrev literal : Name → ClosedSymbol
literal a = terminal (quoted a)

text_of_literal : text (literal (codes "a b")) ≡ codes "\"a b\""
unfolding chars encode
text_of_literal = refl

text_of_regex : text (terminal (regex (codes "[a-z]+"))) ≡ codes "r#\"[a-z]+\"#"
unfolding chars encode
text_of_regex = refl

text_of_bare : text (terminal (bare (codes "ID"))) ≡ codes "ID"
text_of_bare = refl

-- `!`, the error terminal and a rule of that name have one text
texts_of_error : text error ∷ (text (terminal error_terminal) ∷ (text (reference (codes "error") None) ∷ []))
    ≡ codes "error" ∷ (codes "error" ∷ (codes "error" ∷ []))
texts_of_error = refl

text_of_call : text (call (codes "M") (symbol_and (literal (codes "a")) (symbol_and (reference (codes "B") None) (only lookahead))))
    ≡ codes "M<\"a\", B, @L>"
unfolding chars encode
text_of_call = refl

text_of_group : text (group (symbol_and (literal (codes "a")) (symbol_and lookbehind (only (reference (codes "B") None))))) ≡ codes "(\"a\" @R B)"
unfolding chars encode
text_of_group = refl

text_of_empty_group : text (group no_symbols) ≡ codes "()"
text_of_empty_group = refl

text_of_repeats : text (star (question (plus (literal (codes "a"))))) ≡ codes "\"a\"+?*"
unfolding chars encode
text_of_repeats = refl

text_of_times : text (times 2 (reference (codes "X") None)) ≡ codes "X{2}"
text_of_times = rw (decimal_digit 2 (omega arith)) refl

-- ---- wrappers

text_of_chosen : text (wrapped chosen (star (literal (codes "a")))) ≡ codes "<\"a\"*>"
unfolding chars encode
text_of_chosen = refl

text_of_named : text (wrapped (named false (codes "x")) (reference (codes "Y") None)) ≡ codes "x:Y"
text_of_named = refl

text_of_mutable : text (wrapped (named true (codes "x")) (reference (codes "Y") None)) ≡ codes "mut x:Y"
text_of_mutable = refl

-- (a, (mut b, c)):Y and ():Y
abbrev patterns : ClosedPatterns
patterns = pattern_and (name_pattern false (codes "a"))
    (pattern_and (tuple_pattern (pattern_and (name_pattern true (codes "b")) (pattern_and (name_pattern false (codes "c")) no_patterns))) no_patterns)

text_of_tuple : text (wrapped (tuple patterns) (reference (codes "Y") None)) ≡ codes "(a, (mut b, c)):Y"
text_of_tuple = refl

text_of_empty_tuple : text (wrapped (tuple no_patterns) (reference (codes "Y") None)) ≡ codes "():Y"
text_of_empty_tuple = refl

-- the wrapper round a repeat and the repeat of a wrapped symbol have one text
one_text_of_two : text (wrapped (named false (codes "x")) (star (reference (codes "Y") None))) ≡ text (star (wrapped (named false (codes "x")) (reference (codes "Y") None)))
one_text_of_two = refl

-- ---- escapes

-- quote, backslash, line feed, carriage return, tab, NUL
usual_escapes : text (literal (34 ∷ (92 ∷ (10 ∷ (13 ∷ (9 ∷ (0 ∷ []))))))) ≡ codes "\"\\\"\\\\\\n\\r\\t\\0\""
unfolding chars encode
usual_escapes = refl

-- other controls by their number: 1, 31, 127
control_escapes : text (literal (1 ∷ (31 ∷ (127 ∷ [])))) ≡ codes "\"\\u{1}\\u{1f}\\u{7f}\""
unfolding chars encode digits
control_escapes = refl

-- a regular expression is escaped likewise, and an apostrophe is not
regex_escapes : text (terminal (regex (codes "\\d'"))) ≡ codes "r#\"\\\\d'\"#"
unfolding chars encode
regex_escapes = refl

-- past ASCII all stays: two bytes of one character
past_ascii : text (literal (195 ∷ (169 ∷ []))) ≡ 34 ∷ (195 ∷ (169 ∷ (34 ∷ [])))
unfolding chars encode
past_ascii = refl

-- ---- names of levels

level_names : level_name (codes "E") 12 12 ∷ (level_name (codes "E") 12 10 ∷ (level_name (codes "E") 12 0 ∷ []))
    ≡ codes "E" ∷ (codes "E10" ∷ (codes "E0" ∷ []))
unfolding digits
level_names = refl

-- E = { #[precedence(level="1")] "n", #[precedence(level="2")] "m" }; A = "a";
abbrev grammar_text : ClosedSymbol → Name
grammar_text g = text_in (leveled_rules (rules_alone
    (rule nowhere (codes "E")
    (alternative nowhere (precedence (codes "1") ∷ []) (symbols (words.literal (codes "n") ∷ []))
    ∷ (alternative nowhere (precedence (codes "2") ∷ []) (symbols (words.literal (codes "m") ∷ [])) ∷ []))
    ∷ (rule nowhere (codes "A") (alternative nowhere [] (symbols (words.literal (codes "a") ∷ [])) ∷ []) ∷ [])))) g

-- each reference within a bound has the name of its level, in a symbol too
bounded_texts : grammar_text (call (codes "M") (symbol_and (star (reference (codes "E") (Some 1))) (symbol_and (reference (codes "E") (Some 2)) (only (reference (codes "A") None)))))
    ≡ codes "M<E1*, E, A>"
unfolding digits
bounded_texts = refl

-- without a bound, and without a rule, a name is itself
unbounded_texts : grammar_text (group (symbol_and (reference (codes "E") None) (only (reference (codes "B") (Some 1))))) ≡ codes "(E B)"
unbounded_texts = refl

-- ---- reading

-- a symbol in which T is bound to `"t"*`
abbrev t_bound : Reader
t_bound = record flat_reader { argument = λ n. if bytes_eq n (codes "T") then Some (star (literal (codes "t"))) else None }

abbrev closed : Kind → ClosedSymbol
closed k = read_kind t_bound 0 0 k

-- the kinds of terminals stay apart
read_terminals : closed (words.literal (codes "T")) ∷ (closed (words.bare (codes "T")) ∷ (closed (written.terminal (Literal (Regex (codes "T")))) ∷ (closed (written.terminal Error) ∷ (closed written.error_terminal ∷ []))))
    ≡ literal (codes "T") ∷ (terminal (bare (codes "T")) ∷ (terminal (regex (codes "T")) ∷ (terminal error_terminal ∷ (error ∷ []))))
read_terminals = refl

-- an argument is what it is bound to, another name a reference
read_names : closed (words.name (codes "T")) ∷ (closed (words.name (codes "U")) ∷ []) ≡ star (literal (codes "t")) ∷ (reference (codes "U") None ∷ [])
read_names = refl

read_call : closed (written.call (codes "T") (symbols (words.name (codes "T") ∷ (written.lookahead ∷ (written.lookbehind ∷ [])))))
    ≡ call (codes "T") (symbol_and (star (literal (codes "t"))) (symbol_and lookahead (only lookbehind)))
read_call = refl

read_repeats : closed (words.starred (here (words.plussed (here (words.optional (here (written.group (symbols (words.name (codes "T") ∷ []))))))))) ≡ star (plus (question (group (only (star (literal (codes "t")))))))
read_repeats = refl

read_wrappers : closed (written.chosen (here (written.named (record { mutable = true; name = codes "x" }) (here (words.name (codes "T")))))) ≡ wrapped chosen (wrapped (named true (codes "x")) (star (literal (codes "t"))))
read_wrappers = refl

-- `(a, (mut b, c)):T`
read_tuple : closed (written.tupled
    (argument_patterns_of (one_name (record { mutable = false; name = codes "a" })
    ∷ (several (argument_patterns_of (one_name (record { mutable = true; name = codes "b" }) ∷ (one_name (record { mutable = false; name = codes "c" }) ∷ []))) ∷ [])))
    (here (words.name (codes "T"))))
    ≡ wrapped (tuple patterns) (star (literal (codes "t")))
read_tuple = refl

-- so the text has the argument substituted
text_with_argument : text (closed (written.call (codes "M") (symbols (words.name_before (codes "x") (here (words.name (codes "T"))) ∷ [])))) ≡ codes "M<x:\"t\"*>"
unfolding chars encode
text_with_argument = refl
