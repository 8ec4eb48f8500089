-- What names mean in small grammars.
use Rattle.std.proofs.Common.{◌≡◌, ℕ, List, [], ◌∷◌, refl}
use Rattle.std.specs.Prelude.{Option, Some, None, codes, map}
use Rattle.lalrpop_norm_tree_names.specs.declared.names.Span.{Span}
use Rattle.lalrpop_norm_tree_names.specs.declared.names.TerminalString.TheVariants.{Literal, Bare, Error}
use Rattle.lalrpop_norm_tree_names.specs.declared.names.TerminalLiteral.TheVariants.{Quoted}
use Rattle.lalrpop_norm_tree.specs.declared.items.MatchItem.TheVariants.{CatchAll, Unmapped, Mapped}
use Rattle.lalrpop_norm_tree.specs.declared.items.MatchMapping.TheVariants as mapping
use Rattle.lalrpop_norm_tree.specs.Symbols.{ambiguous_id}
use Rattle.lalrpop_norm_tree.specs.Items.{MatchTokenData, RuleData, GrammarData, match_item, extern_item, rule_item}
use Rattle.lalrpop_norm_model.specs.Scopes.{Definition, a_rule, a_macro, a_terminal, Global, globals, definition_of, Sense, an_argument, a_global, sense_of}
use Rattle.lalrpop_norm_model.proofs.ExampleWords.{span, rule_name, literal, symbols, alternative, rule, macro_rule, conversion, extern_of, grammar_of}

-- ---- the definitions of a grammar

-- match { "x" => X, "y" => "z", "w" => { }, "v" } else { _ }
abbrev mapped_names : MatchTokenData
mapped_names = record {
  contents =
      (Mapped (Quoted (codes "x")) (mapping.Terminal (Bare (codes "X"))) (span 8 16)
      ∷ (Mapped (Quoted (codes "y")) (mapping.Terminal (Literal (Quoted (codes "z")))) (span 18 28)
      ∷ (Mapped (Quoted (codes "w")) mapping.Skip (span 30 40)
      ∷ (Unmapped (Quoted (codes "v")) (span 42 45) ∷ []))))
      ∷ ((CatchAll (span 55 56) ∷ []) ∷ []);
  span = span 0 58;
}

-- A = "x"; M<T,U> = T; extern { enum Tok { B => _, "b" => _, error => _ } }
abbrev rule_a : RuleData
rule_a = rule (span 80 81) (codes "A") (alternative (span 84 87) [] (symbols (literal (codes "x") ∷ [])) ∷ [])

abbrev macro_m : RuleData
macro_m = macro_rule (span 90 96) (codes "M") (codes "T" ∷ (codes "U" ∷ [])) (alternative (span 99 100) [] (symbols (ambiguous_id (codes "T") ∷ [])) ∷ [])

abbrev all_kinds : GrammarData
all_kinds = grammar_of (match_item mapped_names
    ∷ (rule_item rule_a
    ∷ (extern_item (extern_of (conversion (span 60 66) [] (Bare (codes "B"))
    ∷ (conversion (span 67 73) [] (Literal (Quoted (codes "b"))) ∷ (conversion (span 74 79) [] Error ∷ []))))
    ∷ (rule_item macro_m ∷ []))))

abbrev global : List ℕ → Span → Definition → Global
global n s d = record { name = n; span = s; definition = d }

-- rules first, then conversions, then match blocks, at any span; literals, the error terminal and skips give no name
all_globals : globals all_kinds ≡
    global (codes "A") (span 80 81) a_rule
    ∷ (global (codes "M") (span 90 96) (a_macro 2)
    ∷ (global (codes "B") (span 60 66) a_terminal
    ∷ (global (codes "X") (span 8 16) a_terminal ∷ [])))
all_globals = refl

unknown_name : definition_of (globals all_kinds) (codes "Y") ≡ None
unknown_name = refl

literal_is_no_name : definition_of (globals all_kinds) (codes "b") ≡ None
literal_is_no_name = refl

error_is_no_name : definition_of (globals all_kinds) (codes "error") ≡ None
error_is_no_name = refl

-- ---- what a name means

abbrev sense_in_m : List ℕ → Option Sense
sense_in_m n = sense_of (globals all_kinds) (map rule_name (codes "A" ∷ (codes "X" ∷ []))) n

-- an argument shadows a rule and a terminal
argument_for_rule : sense_in_m (codes "A") ≡ Some an_argument
argument_for_rule = refl

argument_for_terminal : sense_in_m (codes "X") ≡ Some an_argument
argument_for_terminal = refl

macro_in_scope : sense_in_m (codes "M") ≡ Some (a_global (a_macro 2))
macro_in_scope = refl

terminal_in_scope : sense_in_m (codes "B") ≡ Some (a_global a_terminal)
terminal_in_scope = refl

rule_in_scope : sense_of (globals all_kinds) [] (codes "A") ≡ Some (a_global a_rule)
rule_in_scope = refl

out_of_scope : sense_in_m (codes "T") ≡ None
out_of_scope = refl

-- of several definitions the first counts
abbrev two_of_a_name : GrammarData
two_of_a_name = grammar_of (extern_item (extern_of (conversion (span 0 9) [] (Bare (codes "A")) ∷ [])) ∷ (rule_item rule_a ∷ []))

first_definition : definition_of (globals two_of_a_name) (codes "A") ≡ Some a_rule
first_definition = refl
