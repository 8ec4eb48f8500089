-- The rules of levels of small rules, whole, with their spans.
use Rattle.std.proofs.Common.{◌≡◌, ℕ, List, [], ◌∷◌, refl}
use Rattle.std.specs.Prelude.{Some, None, codes}
use Rattle.std.specs.Fmt.{digits}
use Rattle.lalrpop_norm_tree.specs.declared.items.ConditionOp.TheVariants.{Equals}
use Rattle.lalrpop_norm_tree_parts.specs.Attributes.{AttributeData, paren, attribute, no_attributes, attributes_of}
use Rattle.lalrpop_norm_tree.specs.Symbols.{Kind, call, at, parts_of}
use Rattle.lalrpop_norm_tree.specs.Types.{tuple, no_types}
use Rattle.lalrpop_norm_tree.specs.Items.{AlternativeData, RuleData, user_code, everywhere, use_item, rule_item}
use Rattle.lalrpop_norm_model.specs.LevelRules.{without_first, level_rules, leveled_grammar}
use Rattle.lalrpop_norm_model.proofs.ExampleWords.{span, nowhere, rule_name, bare_attribute, precedence, assoc, literal, name, starred, name_before, here, symbols, alternative, rule, macro_rule, grammar_of}

-- ---- one rule with all that it carries
-- #[cfg(all())] pub E: () = { #[precedence(level="1")] "n",
--   #[precedence(level="2")] #[assoc(side="left")] #[cfg(all())] <l:E> "+" <r:E> => add(l, r) };

-- `cfg(all())`, with the spans of the two names
abbrev active : ℕ → ℕ → ℕ → ℕ → AttributeData
active a b c d = attribute (span a b) (codes "cfg") (paren (attributes_of (attribute (span c d) (codes "all") (paren no_attributes) ∷ [])))

-- a public rule of the declared type `()` with an attribute
abbrev whole : List ℕ → List AlternativeData → RuleData
whole n alternatives = record (rule (span 18 23) n alternatives) {
  visibility = everywhere None;
  attributes = attributes_of (active 2 5 6 9 ∷ []);
  type_decl = Some (tuple no_types);
}

abbrev number : List AttributeData → AlternativeData
number xs = alternative (span 53 56) xs (parts_of (at (span 53 56) (literal (codes "n")) ∷ []))

abbrev sum : List AttributeData → List ℕ → List ℕ → AlternativeData
sum xs l r = record (alternative (span 119 147) xs (parts_of
    (at (span 119 124) (name_before (codes "l") (at (span 122 123) (name l)))
    ∷ (at (span 125 128) (literal (codes "+"))
    ∷ (at (span 129 134) (name_before (codes "r") (at (span 132 133) (name r))) ∷ []))))) { action = Some (user_code (codes "add(l, r)")) }

abbrev sums : RuleData
sums = whole (codes "E")
    (number (precedence (codes "1") ∷ [])
    ∷ (sum (precedence (codes "2") ∷ (assoc (codes "left") ∷ (active 107 110 111 114 ∷ []))) (codes "E") (codes "E") ∷ []))

-- E1 has the number; E the sum, with E1 on its right, then the step to E1, which has the rule's span
sums_leveled : level_rules sums ≡
    whole (codes "E1") (number [] ∷ [])
    ∷ (whole (codes "E")
    (sum (active 107 110 111 114 ∷ []) (codes "E") (codes "E1")
    ∷ (alternative (span 18 23) [] (parts_of (at (span 18 23) (name (codes "E1")) ∷ [])) ∷ []))
    ∷ [])
unfolding digits
sums_leveled = refl

-- ---- associativities
-- E = { #[precedence(level="1")] "n", #[precedence(level="2")] .. E "?" E ":" E };

abbrev choice : List AttributeData → List ℕ → List ℕ → List ℕ → AlternativeData
choice xs l m r = alternative (span 87 98) xs (parts_of
    (at (span 87 88) (name l)
    ∷ (at (span 89 92) (literal (codes "?"))
    ∷ (at (span 93 94) (name m)
    ∷ (at (span 95 98) (literal (codes ":"))
    ∷ (at (span 99 100) (name r) ∷ []))))))

abbrev choices : List AttributeData → RuleData
choices xs = rule (span 0 1) (codes "E")
    (number (precedence (codes "1") ∷ []) ∷ (choice (precedence (codes "2") ∷ xs) (codes "E") (codes "E") (codes "E") ∷ []))

abbrev step_to : List ℕ → AlternativeData
step_to n = alternative (span 0 1) [] (parts_of (at (span 0 1) (name n) ∷ []))

abbrev choices_leveled : List ℕ → List ℕ → List ℕ → List RuleData
choices_leveled l m r = rule (span 0 1) (codes "E1") (number [] ∷ [])
    ∷ (rule (span 0 1) (codes "E") (choice [] l m r ∷ (step_to (codes "E1") ∷ [])) ∷ [])

choices_left : level_rules (choices (assoc (codes "left") ∷ [])) ≡ choices_leveled (codes "E") (codes "E1") (codes "E1")
unfolding digits
choices_left = refl

choices_right : level_rules (choices (assoc (codes "right") ∷ [])) ≡ choices_leveled (codes "E1") (codes "E1") (codes "E")
unfolding digits
choices_right = refl

choices_none : level_rules (choices (assoc (codes "none") ∷ [])) ≡ choices_leveled (codes "E1") (codes "E1") (codes "E1")
unfolding digits
choices_none = refl

choices_all : level_rules (choices (assoc (codes "all") ∷ [])) ≡ choices_leveled (codes "E") (codes "E") (codes "E")
unfolding digits
choices_all = refl

choices_without_side : level_rules (choices []) ≡ choices_leveled (codes "E") (codes "E") (codes "E")
unfolding digits
choices_without_side = refl

-- ---- order, names and attributes

abbrev one_of : List AttributeData → Kind → AlternativeData
one_of xs k = alternative nowhere xs (symbols (k ∷ []))

abbrev step_nowhere : List ℕ → AlternativeData
step_nowhere n = one_of [] (name n)

-- levels rise whatever the order of the alternatives, which keep their order within a level
levels_in_order : level_rules (rule nowhere (codes "E")
    (one_of (precedence (codes "3") ∷ []) (literal (codes "a"))
    ∷ (one_of (precedence (codes "1") ∷ []) (literal (codes "b"))
    ∷ (one_of (precedence (codes "3") ∷ []) (literal (codes "c"))
    ∷ (one_of (precedence (codes "2") ∷ []) (literal (codes "d"))
    ∷ (one_of [] (literal (codes "e")) ∷ []))))))
    ≡ rule nowhere (codes "E1") (one_of [] (literal (codes "b")) ∷ [])
    ∷ (rule nowhere (codes "E2") (one_of [] (literal (codes "d")) ∷ (one_of [] (literal (codes "e")) ∷ (step_nowhere (codes "E1") ∷ [])))
    ∷ (rule nowhere (codes "E") (one_of [] (literal (codes "a")) ∷ (one_of [] (literal (codes "c")) ∷ (step_nowhere (codes "E2") ∷ [])))
    ∷ []))
unfolding digits
levels_in_order = refl

-- a level is named by its number, without the plus and the zeros of its text
level_names : level_rules (rule nowhere (codes "E")
    (one_of (precedence (codes "10") ∷ []) (literal (codes "n")) ∷ (one_of (precedence (codes "+02") ∷ []) (literal (codes "m")) ∷ [])))
    ≡ rule nowhere (codes "E2") (one_of [] (literal (codes "m")) ∷ [])
    ∷ (rule nowhere (codes "E") (one_of [] (literal (codes "n")) ∷ (step_nowhere (codes "E2") ∷ [])) ∷ [])
unfolding digits
level_names = refl

-- level 0 is a level, and the names are those of the rule
level_zero : level_rules (rule nowhere (codes "E")
    (one_of (precedence (codes "0") ∷ []) (literal (codes "n")) ∷ (one_of (precedence (codes "4294967295") ∷ []) (starred (here (name (codes "E")))) ∷ [])))
    ≡ rule nowhere (codes "E0") (one_of [] (literal (codes "n")) ∷ [])
    ∷ (rule nowhere (codes "E") (one_of [] (starred (here (name (codes "E")))) ∷ (step_nowhere (codes "E0") ∷ [])) ∷ [])
unfolding digits
level_zero = refl

-- the first `precedence` and the first `assoc` are taken out, and no other attribute
first_taken_out : without_first (codes "precedence") (attributes_of (assoc (codes "left") ∷ (precedence (codes "1") ∷ (precedence (codes "2") ∷ []))))
    ≡ attributes_of (assoc (codes "left") ∷ (precedence (codes "2") ∷ []))
first_taken_out = refl

second_stays : level_rules (rule nowhere (codes "E")
    (one_of (assoc (codes "all") ∷ (precedence (codes "1") ∷ (bare_attribute (codes "cfg") ∷ (precedence (codes "2") ∷ (assoc (codes "left") ∷ []))))) (literal (codes "n")) ∷ []))
    ≡ rule nowhere (codes "E") (one_of (bare_attribute (codes "cfg") ∷ (precedence (codes "2") ∷ (assoc (codes "left") ∷ []))) (literal (codes "n")) ∷ []) ∷ []
second_stays = refl

-- without levels a rule stays as it is
no_levels : level_rules (rule nowhere (codes "E") (one_of (bare_attribute (codes "cfg") ∷ []) (name (codes "E")) ∷ []))
    ≡ rule nowhere (codes "E") (one_of (bare_attribute (codes "cfg") ∷ []) (name (codes "E")) ∷ []) ∷ []
no_levels = refl

-- ---- macros, and whole grammars

-- a macro with one level keeps its name, its arguments and its conditions
abbrev only_x : List AttributeData → AlternativeData
only_x xs = record (one_of xs (name (codes "T"))) { condition = Some (record { span = span 9 20; lhs = rule_name (codes "T"); rhs = codes "x"; op = Equals }) }

macro_of_one_level : level_rules (macro_rule nowhere (codes "M") (codes "T" ∷ []) (only_x (precedence (codes "1") ∷ []) ∷ []))
    ≡ macro_rule nowhere (codes "M") (codes "T" ∷ []) (only_x [] ∷ []) ∷ []
macro_of_one_level = refl

-- one with two levels has its arguments on both, and the step names no arguments, which is an error
macro_of_two_levels : level_rules (macro_rule nowhere (codes "M") (codes "T" ∷ [])
    (only_x (precedence (codes "1") ∷ []) ∷ (one_of (precedence (codes "2") ∷ []) (literal (codes "y")) ∷ [])))
    ≡ macro_rule nowhere (codes "M1") (codes "T" ∷ []) (only_x [] ∷ [])
    ∷ (macro_rule nowhere (codes "M") (codes "T" ∷ []) (one_of [] (literal (codes "y")) ∷ (step_nowhere (codes "M1") ∷ [])) ∷ [])
unfolding digits
macro_of_two_levels = refl

-- a name in a macro that is the macro's own is that of an argument, and keeps it on each level and with each associativity
abbrev own_argument : List AttributeData → AlternativeData
own_argument xs = alternative nowhere xs (symbols (name (codes "M") ∷ (literal (codes "+") ∷ (name (codes "M") ∷ []))))

macro_keeps_its_argument : level_rules (macro_rule nowhere (codes "M") (codes "M" ∷ [])
    (one_of (precedence (codes "1") ∷ []) (literal (codes "a")) ∷ (own_argument (precedence (codes "2") ∷ (assoc (codes "left") ∷ [])) ∷ [])))
    ≡ macro_rule nowhere (codes "M1") (codes "M" ∷ []) (one_of [] (literal (codes "a")) ∷ [])
    ∷ (macro_rule nowhere (codes "M") (codes "M" ∷ []) (own_argument [] ∷ (step_nowhere (codes "M1") ∷ [])) ∷ [])
unfolding digits
macro_keeps_its_argument = refl

-- The levels are in place of their rule, and another rule names the highest one.
abbrev two_levels : RuleData
two_levels = rule nowhere (codes "E") (one_of (precedence (codes "1") ∷ []) (literal (codes "n")) ∷ (one_of (precedence (codes "2") ∷ []) (literal (codes "m")) ∷ []))

levels_in_place : leveled_grammar (grammar_of
    (rule_item (rule nowhere (codes "A") (one_of [] (name (codes "E")) ∷ []))
    ∷ (rule_item two_levels
    ∷ (use_item (codes "std::fmt")
    ∷ (rule_item (rule nowhere (codes "B") (one_of [] (call (codes "M") (symbols (name (codes "E") ∷ []))) ∷ [])) ∷ [])))))
    ≡ grammar_of
    (rule_item (rule nowhere (codes "A") (one_of [] (name (codes "E")) ∷ []))
    ∷ (rule_item (rule nowhere (codes "E1") (one_of [] (literal (codes "n")) ∷ []))
    ∷ (rule_item (rule nowhere (codes "E") (one_of [] (literal (codes "m")) ∷ (step_nowhere (codes "E1") ∷ [])))
    ∷ (use_item (codes "std::fmt")
    ∷ (rule_item (rule nowhere (codes "B") (one_of [] (call (codes "M") (symbols (name (codes "E") ∷ []))) ∷ [])) ∷ [])))))
unfolding digits
levels_in_place = refl
