-- Small grammars with each name as what it means, and their rules as trees see them.
use Rattle.std.proofs.Common.{◌≡◌, ℕ, List, [], ◌∷◌, refl}
use Rattle.std.specs.Prelude.{Bool, true, false, Option, Some, None, codes, map}
use Rattle.lalrpop_norm_tree_names.specs.declared.names.TerminalString.TheVariants.{Bare}
use Rattle.lalrpop_norm_tree_parts.specs.Attributes.{attributes_of}
use Rattle.lalrpop_norm_tree.specs.Symbols.{Kind, Parts, group, call, chosen, tupled, no_arguments, lookahead, lookbehind, error_terminal, at, parts_of}
use Rattle.lalrpop_norm_tree.specs.Items.{AlternativeData, ItemData, GrammarData, extern_item, rule_item}
use Rattle.lalrpop_norm_model.specs.Scopes.{resolved_grammar}
use Rattle.lalrpop_norm_model.specs.Levels.{Leveled, every}
use Rattle.lalrpop_norm_model.specs.WrittenRules.{WrittenRule, written_rules, leveled_rules, flat_rules, rule_named}
use Rattle.lalrpop_norm_model.proofs.ExampleWords.{span, rule_name, precedence, if_f, unless_f, without_f, with_f, literal, name, identifier, bare, starred, name_before, symbols, alternative, rule, macro_rule, conversion, extern_of, grammar_of}

-- ---- identifiers

-- extern { enum Tok { C => _ } } A = "x"; B = A; M<T> = T;
abbrev others : List ItemData
others = extern_item (extern_of (conversion (span 20 26) [] (Bare (codes "C")) ∷ []))
    ∷ (rule_item (rule (span 32 33) (codes "A") (alternative (span 36 39) [] (parts_of (at (span 36 39) (literal (codes "x")) ∷ [])) ∷ []))
    ∷ (rule_item (rule (span 41 42) (codes "B") (alternative (span 45 46) [] (parts_of (at (span 45 46) (name (codes "A")) ∷ [])) ∷ []))
    ∷ (rule_item (macro_rule (span 48 52) (codes "M") (codes "T" ∷ []) (alternative (span 55 56) [] (parts_of (at (span 55 56) (name (codes "T")) ∷ [])) ∷ []))
    ∷ [])))

-- the same and N, a macro with the argument A
abbrev with_n : Parts → GrammarData
with_n ps = grammar_of (rule_item (macro_rule (span 0 4) (codes "N") (codes "A" ∷ []) (alternative (span 7 8) [] ps ∷ [])) ∷ others)

-- the parts of N by their meaning
abbrev N_is : List Kind → List Kind → Type 0
N_is written meant = resolved_grammar (with_n (symbols written)) ≡ with_n (symbols meant)

-- an argument and a rule are names, a conversion's name is a terminal
resolved_names : N_is (identifier (codes "A") ∷ (identifier (codes "B") ∷ (identifier (codes "C") ∷ [])))
    (name (codes "A") ∷ (name (codes "B") ∷ (bare (codes "C") ∷ [])))
resolved_names = refl

-- a macro without arguments and a name without a meaning stay open
open_names : N_is (identifier (codes "M") ∷ (identifier (codes "D") ∷ (identifier (codes "T") ∷ [])))
    (identifier (codes "M") ∷ (identifier (codes "D") ∷ (identifier (codes "T") ∷ [])))
open_names = refl

-- names in a symbol are resolved, each at its span
abbrev nested : (List ℕ → Kind) → (List ℕ → Kind) → Parts
nested inner token = parts_of
    (at (span 10 15) (call (codes "M") (parts_of (at (span 12 13) (inner (codes "A")) ∷ [])))
    ∷ (at (span 16 22) (starred (at (span 16 21) (group (parts_of (at (span 17 18) (inner (codes "B")) ∷ (at (span 19 20) (token (codes "C")) ∷ []))))))
    ∷ (at (span 23 26) (chosen (at (span 24 25) (inner (codes "A"))))
    ∷ (at (span 27 32) (name_before (codes "n") (at (span 29 30) (inner (codes "B"))))
    ∷ (at (span 33 40) (tupled no_arguments (at (span 38 39) (token (codes "C"))))
    ∷ [])))))

nested_names : resolved_grammar (with_n (nested identifier identifier)) ≡ with_n (nested name bare)
nested_names = refl

-- what is no identifier stays: a terminal of an argument's name, a nonterminal of a terminal's name, location symbols, `!`
no_identifiers : N_is
    (bare (codes "A") ∷ (name (codes "C") ∷ (lookahead ∷ (lookbehind ∷ (error_terminal ∷ (literal (codes "A") ∷ []))))))
    (bare (codes "A") ∷ (name (codes "C") ∷ (lookahead ∷ (lookbehind ∷ (error_terminal ∷ (literal (codes "A") ∷ []))))))
no_identifiers = refl

-- ---- rules

-- extern { enum Tok { #[cfg(feature = "f")] C => _ } } #[cfg(feature = "f")] E = C;
-- #[cfg(not(feature = "f"))] E = { #[cfg(feature = "f")] C, #[precedence(level="1")] C }; M<T> = T;
abbrev e_with_f : AlternativeData
e_with_f = alternative (span 70 71) [] (symbols (identifier (codes "C") ∷ []))

abbrev e_disabled : AlternativeData
e_disabled = alternative (span 110 111) (if_f ∷ []) (symbols (identifier (codes "C") ∷ []))

abbrev e_leveled : AlternativeData
e_leveled = alternative (span 120 121) (precedence (codes "1") ∷ []) (symbols (identifier (codes "C") ∷ []))

abbrev m_alternative : AlternativeData
m_alternative = alternative (span 130 131) [] (symbols (identifier (codes "T") ∷ []))

abbrev in_turn : GrammarData
in_turn = grammar_of (extern_item (extern_of (conversion (span 20 26) (if_f ∷ []) (Bare (codes "C")) ∷ []))
    ∷ (rule_item (record (rule (span 60 61) (codes "E") (e_with_f ∷ [])) { attributes = attributes_of (if_f ∷ []) })
    ∷ (rule_item (record (rule (span 100 101) (codes "E") (e_disabled ∷ (e_leveled ∷ []))) { attributes = attributes_of (unless_f ∷ []) })
    ∷ (rule_item (macro_rule (span 123 127) (codes "M") (codes "T" ∷ []) (m_alternative ∷ []))
    ∷ []))))

abbrev of_kinds : AlternativeData → List Kind → AlternativeData
of_kinds a ks = record a { parts = symbols ks }

abbrev leveled : ℕ → AlternativeData → Option Leveled
leveled l a = Some (record { level = l; side = every; alternative = a })

abbrev written : List ℕ → List (List ℕ) → Bool → List (Option Leveled) → WrittenRule
written n args levels ps = record { name = n; args = map rule_name args; has_levels = levels; places = ps }

abbrev macro_m : WrittenRule
macro_m = written (codes "M") (codes "T" ∷ []) false (leveled 0 (of_kinds m_alternative (name (codes "T") ∷ [])) ∷ [])

-- with f the first E is there, and C is a terminal
rules_with_f : written_rules with_f in_turn ≡
    written (codes "E") [] false (leveled 0 (of_kinds e_with_f (bare (codes "C") ∷ [])) ∷ []) ∷ (macro_m ∷ [])
rules_with_f = refl

-- without f the second one is, its first index is empty, and C has no meaning
rules_without_f : written_rules without_f in_turn ≡
    written (codes "E") [] true (None ∷ (leveled 1 e_leveled ∷ [])) ∷ (macro_m ∷ [])
rules_without_f = refl

-- a pass by itself reads no `cfg`, and the expansion of macros no levels either
abbrev first_e : WrittenRule
first_e = written (codes "E") [] false (leveled 0 (of_kinds e_with_f (bare (codes "C") ∷ [])) ∷ [])

all_with_levels : leveled_rules in_turn ≡
    first_e
    ∷ (written (codes "E") [] true (leveled 0 (of_kinds e_disabled (bare (codes "C") ∷ [])) ∷ (leveled 1 (of_kinds e_leveled (bare (codes "C") ∷ [])) ∷ []))
    ∷ (macro_m ∷ []))
all_with_levels = refl

all_without_levels : flat_rules in_turn ≡
    first_e
    ∷ (written (codes "E") [] false (leveled 0 (of_kinds e_disabled (bare (codes "C") ∷ [])) ∷ (leveled 0 (of_kinds e_leveled (bare (codes "C") ∷ [])) ∷ []))
    ∷ (macro_m ∷ []))
all_without_levels = refl

-- of several rules of a name the first
first_of_a_name : rule_named (flat_rules in_turn) (codes "E") ≡ Some first_e
first_of_a_name = refl

no_rule : rule_named (flat_rules in_turn) (codes "C") ≡ None
no_rule = refl
