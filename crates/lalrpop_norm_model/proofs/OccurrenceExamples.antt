-- Recursive occurrences of small rules: how many there are, and the bound of each.
use Rattle.std.proofs.Common.{◌≡◌, ℕ, List, [], ◌∷◌, refl}
use Rattle.std.specs.Prelude.{Option, Some, None, codes, bytes_eq, false}
use Rattle.lalrpop_norm_tree_parts.specs.Attributes.{AttributeData}
use Rattle.lalrpop_norm_tree.specs.Symbols.{Kind, group, call, chosen, tupled, no_arguments, lookahead, lookbehind, error_terminal}
use Rattle.lalrpop_norm_tree.specs.Items.{GrammarData}
use Rattle.lalrpop_norm_theory.specs.Symbols as closed
use Rattle.lalrpop_norm_theory.specs.Symbols.{ClosedSymbol, ClosedSymbols, reference, no_symbols, symbol_and}
use Rattle.lalrpop_norm_model.specs.Levels.{left, right, neither, every}
use Rattle.lalrpop_norm_model.specs.Occurrences.{count_parts, bound_at, own_bound}
use Rattle.lalrpop_norm_model.specs.WrittenRules.{leveled_rules}
use Rattle.lalrpop_norm_model.specs.Grammars.{ConditionValue, meaning}
use Rattle.lalrpop_norm_model.proofs.ExampleWords.{nowhere, precedence, assoc, literal, name, identifier, bare, starred, plussed, optional, name_before, here, symbols, alternative, rule, rules_alone}

-- ---- numbers of recursive occurrences

abbrev occurrences : List Kind → ℕ
occurrences ks = count_parts (λ n. bytes_eq n (codes "E")) (symbols ks)

-- no terminal, other name or open identifier is one, whatever its text
none_of_them : occurrences (literal (codes "E") ∷ (bare (codes "E") ∷ (name (codes "E1") ∷ (identifier (codes "E") ∷ (lookahead ∷ (lookbehind ∷ (error_terminal ∷ []))))))) ≡ 0
none_of_them = refl

-- they are found in arguments, groups, repeats and wrapped symbols; the name of a macro is none
five_of_them : occurrences
    (call (codes "E") (symbols (name (codes "E") ∷ (literal (codes "x") ∷ [])))
    ∷ (starred (here (group (symbols (name (codes "E") ∷ (name (codes "F") ∷ (name (codes "E") ∷ []))))))
    ∷ (chosen (here (name (codes "E")))
    ∷ (name_before (codes "E") (here (name (codes "E"))) ∷ [])))) ≡ 5
five_of_them = refl

in_tuple_symbol : occurrences (tupled no_arguments (here (optional (here (name (codes "E"))))) ∷ []) ≡ 1
in_tuple_symbol = refl

-- ---- bounds, level 5 being the current and 3 the previous one

left_leaves_first : bound_at left 5 3 0 2 ∷ (bound_at left 5 3 1 1 ∷ (bound_at left 5 3 2 0 ∷ [])) ≡ 5 ∷ (3 ∷ (3 ∷ []))
left_leaves_first = refl

right_leaves_last : bound_at right 5 3 0 2 ∷ (bound_at right 5 3 1 1 ∷ (bound_at right 5 3 2 0 ∷ [])) ≡ 3 ∷ (3 ∷ (5 ∷ []))
right_leaves_last = refl

none_leaves_none : bound_at neither 5 3 0 2 ∷ (bound_at neither 5 3 1 1 ∷ (bound_at neither 5 3 2 0 ∷ [])) ≡ 3 ∷ (3 ∷ (3 ∷ []))
none_leaves_none = refl

all_leaves_each : bound_at every 5 3 0 2 ∷ (bound_at every 5 3 1 1 ∷ (bound_at every 5 3 2 0 ∷ [])) ≡ 5 ∷ (5 ∷ (5 ∷ []))
all_leaves_each = refl

-- one recursive occurrence is both the first and the last
one_alone : bound_at left 5 3 0 0 ∷ (bound_at right 5 3 0 0 ∷ (bound_at neither 5 3 0 0 ∷ [])) ≡ 5 ∷ (5 ∷ (3 ∷ []))
one_alone = refl

-- the lowest level with the associativity `all`
lowest_with_all : own_bound every 0 None 0 0 ≡ 0
lowest_with_all = refl

-- ---- bounds of the alternatives of E

-- E = { #[precedence(level="1")] "n", #[precedence(level="2")] .. }, the second alternative with an associativity or without one
abbrev of_e : List AttributeData → List Kind → GrammarData
of_e xs ks = rules_alone (rule nowhere (codes "E")
    (alternative nowhere (precedence (codes "1") ∷ []) (symbols (literal (codes "n") ∷ []))
    ∷ (alternative nowhere (precedence (codes "2") ∷ xs) (symbols ks) ∷ [])) ∷ [])

-- no conditions are in these grammars
abbrev no_value : ConditionValue
no_value = λ op g text. false

-- what the second alternative is read as
abbrev second_of_e : List AttributeData → List Kind → Option ClosedSymbols
second_of_e xs ks = (meaning no_value (leveled_rules (of_e xs ks))).reference_parts (codes "E") None 1

abbrev e : ℕ → ClosedSymbol
e l = reference (codes "E") (Some l)

abbrev token : List ℕ → ClosedSymbol
token a = closed.terminal (closed.quoted a)

abbrev some_symbols : List ClosedSymbol → ClosedSymbols
some_symbols [] = no_symbols
some_symbols (g ∷ gs) = symbol_and g (some_symbols gs)

-- E "+" E
abbrev sum : List Kind
sum = name (codes "E") ∷ (literal (codes "+") ∷ (name (codes "E") ∷ []))

abbrev sum_read : ℕ → ℕ → Option ClosedSymbols
sum_read l m = Some (some_symbols (e l ∷ (token (codes "+") ∷ (e m ∷ []))))

two_left : second_of_e (assoc (codes "left") ∷ []) sum ≡ sum_read 2 1
two_left = refl

two_right : second_of_e (assoc (codes "right") ∷ []) sum ≡ sum_read 1 2
two_right = refl

two_none : second_of_e (assoc (codes "none") ∷ []) sum ≡ sum_read 1 1
two_none = refl

two_all : second_of_e (assoc (codes "all") ∷ []) sum ≡ sum_read 2 2
two_all = refl

-- E "?" E ":" E
abbrev choice : List Kind
choice = name (codes "E") ∷ (literal (codes "?") ∷ (name (codes "E") ∷ (literal (codes ":") ∷ (name (codes "E") ∷ []))))

abbrev choice_read : ℕ → ℕ → ℕ → Option ClosedSymbols
choice_read l m n = Some (some_symbols (e l ∷ (token (codes "?") ∷ (e m ∷ (token (codes ":") ∷ (e n ∷ []))))))

three_left : second_of_e (assoc (codes "left") ∷ []) choice ≡ choice_read 2 1 1
three_left = refl

three_right : second_of_e (assoc (codes "right") ∷ []) choice ≡ choice_read 1 1 2
three_right = refl

three_none : second_of_e (assoc (codes "none") ∷ []) choice ≡ choice_read 1 1 1
three_none = refl

three_all : second_of_e (assoc (codes "all") ∷ []) choice ≡ choice_read 2 2 2
three_all = refl

three_without_side : second_of_e [] choice ≡ choice_read 2 2 2
three_without_side = refl

-- Two<E> "+" E: an occurrence in an argument counts in reading order
abbrev two_and_sum : List Kind
two_and_sum = call (codes "Two") (symbols (name (codes "E") ∷ [])) ∷ (literal (codes "+") ∷ (name (codes "E") ∷ []))

abbrev two_and_sum_read : ℕ → ℕ → Option ClosedSymbols
two_and_sum_read l m = Some (some_symbols (closed.call (codes "Two") (some_symbols (e l ∷ [])) ∷ (token (codes "+") ∷ (e m ∷ []))))

argument_first : second_of_e (assoc (codes "left") ∷ []) two_and_sum ≡ two_and_sum_read 2 1
argument_first = refl

argument_not_last : second_of_e (assoc (codes "right") ∷ []) two_and_sum ≡ two_and_sum_read 1 2
argument_not_last = refl

-- M<(E "x"), E>+ <E> n:E?
abbrev within_others : List Kind
within_others =
    plussed (here (call (codes "M") (symbols (group (symbols (name (codes "E") ∷ (literal (codes "x") ∷ []))) ∷ (name (codes "E") ∷ [])))))
    ∷ (chosen (here (name (codes "E")))
    ∷ (name_before (codes "n") (here (optional (here (name (codes "E"))))) ∷ []))

abbrev within_others_read : ℕ → ℕ → ℕ → ℕ → Option ClosedSymbols
within_others_read a b c d = Some (some_symbols
    (closed.plus (closed.call (codes "M") (some_symbols (closed.group (some_symbols (e a ∷ (token (codes "x") ∷ []))) ∷ (e b ∷ []))))
    ∷ (closed.wrapped closed.chosen (e c)
    ∷ (closed.wrapped (closed.named false (codes "n")) (closed.question (e d)) ∷ []))))

within_others_left : second_of_e (assoc (codes "left") ∷ []) within_others ≡ within_others_read 2 1 1 1
within_others_left = refl

within_others_right : second_of_e (assoc (codes "right") ∷ []) within_others ≡ within_others_read 1 1 1 2
within_others_right = refl
