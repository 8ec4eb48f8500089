-- The rules of the expanded grammar of small grammars, whole: symbols replaced by names, then the generated rules.
use Rattle.std.proofs.Common.{◌≡◌, ℕ, List, [], ◌∷◌, refl}
use Rattle.std.specs.Prelude.{◌+◌, false, Some, None, codes}
use Rattle.std.specs.Str.{chars}
use lib.Utf8.{encode}
use Rattle.lalrpop_norm_tree_names.specs.declared.names.TerminalString.TheVariants.{Literal}
use Rattle.lalrpop_norm_tree_names.specs.declared.names.TerminalLiteral.TheVariants.{Quoted}
use Rattle.lalrpop_norm_tree_parts.specs.Accessors.{path_of}
use Rattle.lalrpop_norm_tree_parts.specs.Attributes.{empty, attribute, attributes_of}
use Rattle.lalrpop_norm_tree.specs.Symbols.{Kind, Part, group, call, chosen, named, tupled, no_arguments, lookahead, lookbehind, error_terminal, at, parts_of}
use Rattle.lalrpop_norm_tree.specs.Types.{TypeData, tuple, nominal, id, of_symbol, types_of}
use Rattle.lalrpop_norm_tree.specs.Items.{user_code, lookahead_code, AlternativeData, RuleData, ItemData, everywhere, extern_item, use_item, rule_item, GrammarData}
use Rattle.lalrpop_norm_model.specs.Replaced.{replaced, all_replaced}
use Rattle.lalrpop_norm_model.specs.PlainRules.{plain_rules, plain_grammar, IsEnded}
use Rattle.lalrpop_norm_model.proofs.ExampleWords.{span, literal, name, bare, identifier, starred, plussed, optional, name_before, symbols, alternative, rule, macro_rule, conversion, extern_of, grammar_of, rules_alone, example_value, conditional_macro}

abbrev token : ℕ → ℕ → List ℕ → Part
token a b t = at (span a b) (literal t)

abbrev named_at : ℕ → ℕ → List ℕ → Part
named_at a b n = at (span a b) (name n)

-- an alternative at a..b with that code
abbrev coded : ℕ → ℕ → List Part → List ℕ → AlternativeData
coded a b ps code = record (alternative (span a b) [] (parts_of ps)) { action = Some (user_code code) }

-- a made rule at a..b
abbrev typed : ℕ → ℕ → List ℕ → TypeData → List AlternativeData → RuleData
typed a b n t alternatives = record (rule (span a b) n alternatives) { type_decl = Some t }

abbrev inlined : ℕ → ℕ → List ℕ → TypeData → List AlternativeData → RuleData
inlined a b n t alternatives = record (typed a b n t alternatives) { attributes = attributes_of (attribute (span a b) (codes "inline") empty ∷ []) }

abbrev vector_of : Kind → TypeData
vector_of k = nominal (path_of (codes "alloc" ∷ (codes "vec" ∷ (codes "Vec" ∷ [])))) (types_of (of_symbol k ∷ []))

-- ---- a repeat
-- extern { enum Tok { "a" => A(..), "b" => B(..) } } pub S: () = "a"* "b";

abbrev tokens : ItemData
tokens = extern_item (extern_of (conversion (span 20 32) [] (Literal (Quoted (codes "a"))) ∷ (conversion (span 34 46) [] (Literal (Quoted (codes "b"))) ∷ [])))

abbrev rule_s : List Part → RuleData
rule_s ps = record (typed 55 60 (codes "S") (tuple (types_of [])) (alternative (span 63 71) [] (parts_of ps) ∷ [])) { visibility = everywhere None }

abbrev repeat : GrammarData
repeat = grammar_of (tokens ∷ (rule_item (rule_s (at (span 63 67) (starred (token 63 66 (codes "a"))) ∷ (token 68 71 (codes "b") ∷ []))) ∷ []))

abbrev plain_s : RuleData
plain_s = rule_s (named_at 63 67 (codes "\"a\"*") ∷ (token 68 71 (codes "b") ∷ []))

abbrev star_rule : RuleData
star_rule = inlined 63 67 (codes "\"a\"*") (vector_of (literal (codes "a")))
    (coded 63 67 [] (codes "alloc::vec![]")
    ∷ (coded 63 67 (at (span 63 67) (name_before (codes "v") (named_at 63 67 (codes "\"a\"+"))) ∷ []) (codes "v") ∷ []))

abbrev plus_rule : RuleData
plus_rule = typed 63 67 (codes "\"a\"+") (vector_of (literal (codes "a")))
    (coded 63 67 (token 63 66 (codes "a") ∷ []) (codes "alloc::vec![<>]")
    ∷ (coded 63 67
    (at (span 63 67) (name_before (codes "v") (named_at 63 67 (codes "\"a\"+"))) ∷ (at (span 63 67) (name_before (codes "e") (token 63 66 (codes "a"))) ∷ []))
    (codes "{ let mut v = v; v.push(e); v }") ∷ []))

repeat_rules : plain_rules example_value repeat 2 ≡ plain_s ∷ (star_rule ∷ (plus_rule ∷ []))
unfolding chars encode
repeat_rules = refl

-- the generated rules are behind all items
repeat_grammar : plain_grammar example_value repeat 2 ≡
    grammar_of (tokens ∷ (rule_item plain_s ∷ (rule_item star_rule ∷ (rule_item plus_rule ∷ []))))
unfolding chars encode
repeat_grammar = refl

two_rounds : IsEnded example_value repeat 2
two_rounds = refl

one_round : IsEnded example_value repeat 1 → ⊥
one_round h = cc h

-- ---- a group in a repeat
-- S = ("a" <"b">)?;

abbrev b_chosen : List Part
b_chosen = token 5 8 (codes "a") ∷ (at (span 9 14) (chosen (token 10 13 (codes "b"))) ∷ [])

abbrev optional_group : GrammarData
optional_group = rules_alone (rule (span 0 1) (codes "S") (alternative (span 4 16) [] (parts_of (at (span 4 16) (optional (at (span 4 15) (group (parts_of b_chosen)))) ∷ [])) ∷ []) ∷ [])

-- the group is a nonterminal in the repeat and in its type
optional_group_rules : plain_rules example_value optional_group 1 ≡
    rule (span 0 1) (codes "S") (alternative (span 4 16) [] (parts_of (named_at 4 16 (codes "(\"a\" <\"b\">)?") ∷ [])) ∷ [])
    ∷ (inlined 4 16 (codes "(\"a\" <\"b\">)?") (nominal (path_of (codes "Option" ∷ [])) (types_of (of_symbol (name (codes "(\"a\" <\"b\">)")) ∷ [])))
    (coded 4 16 (named_at 4 15 (codes "(\"a\" <\"b\">)") ∷ []) (codes "Some(<>)") ∷ (coded 4 16 [] (codes "None") ∷ []))
    ∷ (inlined 4 15 (codes "(\"a\" <\"b\">)") (of_symbol (literal (codes "b"))) (coded 4 15 b_chosen (codes "<>") ∷ [])
    ∷ []))
unfolding chars encode
optional_group_rules = refl

-- ---- a macro with a location symbol and a declared type
-- M<T>: Vec<T> = @L T; use std::fmt; S: Vec = <x:M<A*>>; A = "a";

abbrev macro_m : RuleData
macro_m = record (macro_rule (span 0 12) (codes "M") (codes "T" ∷ []) (alternative (span 15 19) [] (parts_of (at (span 15 17) lookahead ∷ (named_at 18 19 (codes "T") ∷ []))) ∷ [])) {
  type_decl = Some (nominal (path_of (codes "Vec" ∷ [])) (types_of (id (codes "T") ∷ [])));
}

-- S with what is in its symbol x, and A
abbrev calls_m : Part → RuleData
calls_m p = typed 31 40 (codes "S") (id (codes "Vec")) (alternative (span 43 52) [] (parts_of (at (span 43 52) (name_before (codes "x") p) ∷ [])) ∷ [])

abbrev rule_a : RuleData
rule_a = rule (span 54 55) (codes "A") (alternative (span 58 61) [] (parts_of (token 58 61 (codes "a") ∷ [])) ∷ [])

abbrev from_macro : GrammarData
from_macro = grammar_of
    (rule_item macro_m
    ∷ (use_item (codes "std::fmt")
    ∷ (rule_item (calls_m (at (span 46 51) (call (codes "M") (parts_of (at (span 48 50) (starred (named_at 48 49 (codes "A"))) ∷ [])))))
    ∷ (rule_item rule_a ∷ []))))

-- what is made: M<A*>, A*, A+, @L
abbrev instance_of_m : RuleData
instance_of_m = typed 46 51 (codes "M<A*>") (nominal (path_of (codes "Vec" ∷ [])) (types_of (of_symbol (name (codes "A*")) ∷ [])))
    (alternative (span 46 51) [] (parts_of (named_at 15 17 (codes "@L") ∷ (named_at 18 19 (codes "A*") ∷ []))) ∷ [])

abbrev star_of_a : RuleData
star_of_a = inlined 48 50 (codes "A*") (vector_of (name (codes "A")))
    (coded 48 50 [] (codes "alloc::vec![]") ∷ (coded 48 50 (at (span 48 50) (name_before (codes "v") (named_at 48 50 (codes "A+"))) ∷ []) (codes "v") ∷ []))

abbrev plus_of_a : RuleData
plus_of_a = typed 48 50 (codes "A+") (vector_of (name (codes "A")))
    (coded 48 50 (named_at 48 49 (codes "A") ∷ []) (codes "alloc::vec![<>]")
    ∷ (coded 48 50
    (at (span 48 50) (name_before (codes "v") (named_at 48 50 (codes "A+"))) ∷ (at (span 48 50) (name_before (codes "e") (named_at 48 49 (codes "A"))) ∷ []))
    (codes "{ let mut v = v; v.push(e); v }") ∷ []))

abbrev location : RuleData
location = record (rule (span 15 17) (codes "@L") (record (alternative (span 15 17) [] (parts_of [])) { action = Some lookahead_code } ∷ [])) {
  attributes = attributes_of (attribute (span 15 17) (codes "inline") empty ∷ []);
}

-- the macro is dropped, other items stay as they are; a written rule's type is not looked at
from_macro_plain : plain_grammar example_value from_macro 2 ≡ grammar_of
    (use_item (codes "std::fmt")
    ∷ (rule_item (calls_m (named_at 46 51 (codes "M<A*>")))
    ∷ (rule_item rule_a
    ∷ (rule_item instance_of_m ∷ (rule_item star_of_a ∷ (rule_item plus_of_a ∷ (rule_item location ∷ [])))))))
from_macro_plain = refl

-- ---- a named argument
-- M<T>: T = T "m"; S = M<x:Y*>; Y = "y";

abbrev rule_y : RuleData
rule_y = rule (span 30 31) (codes "Y") (alternative (span 34 37) [] (parts_of (token 34 37 (codes "y") ∷ [])) ∷ [])

abbrev of_s : Part → RuleData
of_s p = rule (span 17 18) (codes "S") (alternative (span 21 28) [] (parts_of (p ∷ [])) ∷ [])

abbrev named_argument : GrammarData
named_argument = rules_alone
    (record (macro_rule (span 0 7) (codes "M") (codes "T" ∷ []) (alternative (span 10 15) [] (parts_of (named_at 10 11 (codes "T") ∷ (token 12 15 (codes "m") ∷ []))) ∷ [])) { type_decl = Some (id (codes "T")) }
    ∷ (of_s (at (span 21 28) (call (codes "M") (parts_of (at (span 23 27) (name_before (codes "x") (at (span 25 27) (starred (named_at 25 26 (codes "Y"))))) ∷ []))))
    ∷ (rule_y ∷ [])))

-- the name goes with what it names, into the instance and into its type; inside it all keeps its span
named_argument_rules : plain_rules example_value named_argument 1 ≡
    of_s (named_at 21 28 (codes "M<x:Y*>"))
    ∷ (rule_y
    ∷ (typed 21 28 (codes "M<x:Y*>") (of_symbol (name_before (codes "x") (named_at 25 27 (codes "Y*"))))
    (alternative (span 21 28) [] (parts_of (at (span 10 11) (name_before (codes "x") (named_at 25 27 (codes "Y*"))) ∷ (token 12 15 (codes "m") ∷ []))) ∷ [])
    ∷ (inlined 25 27 (codes "Y*") (vector_of (name (codes "Y")))
    (coded 25 27 [] (codes "alloc::vec![]") ∷ (coded 25 27 (at (span 25 27) (name_before (codes "v") (named_at 25 27 (codes "Y+"))) ∷ []) (codes "v") ∷ []))
    ∷ [])))
named_argument_rules = refl

-- ---- conditions
-- Expr1 = Expr<"A*C">; Expr2 = Expr<"AAC">; Expr3 = Expr<"ABC">;

-- a rule of one symbol
abbrev of_one : ℕ → ℕ → List ℕ → Part → RuleData
of_one a b n p = rule (span a b) n (alternative (span (b + 3) (b + 14)) [] (parts_of (p ∷ [])) ∷ [])

abbrev expr_of : ℕ → ℕ → List ℕ → Part
expr_of a b t = at (span a b) (call (codes "Expr") (parts_of (token (a + 5) (a + 10) t ∷ [])))

abbrev three_instances : GrammarData
three_instances = rules_alone
    (conditional_macro
    ∷ (of_one 100 105 (codes "Expr1") (expr_of 108 119 (codes "A*C"))
    ∷ (of_one 121 126 (codes "Expr2") (expr_of 129 140 (codes "AAC"))
    ∷ (of_one 142 147 (codes "Expr3") (expr_of 150 161 (codes "ABC")) ∷ []))))

-- an instance at a..b with two alternatives, whose symbols keep their spans
abbrev instance : ℕ → ℕ → List ℕ → List ℕ → List ℕ → RuleData
instance a b n k l = rule (span a b) n
    (alternative (span a b) [] (symbols (literal k ∷ [])) ∷ (alternative (span a b) [] (symbols (literal l ∷ [])) ∷ []))

-- the last one reached is first, and each has the alternatives whose conditions are true
three_instances_rules : plain_rules example_value three_instances 1 ≡
    of_one 100 105 (codes "Expr1") (named_at 108 119 (codes "Expr<\"A*C\">"))
    ∷ (of_one 121 126 (codes "Expr2") (named_at 129 140 (codes "Expr<\"AAC\">"))
    ∷ (of_one 142 147 (codes "Expr3") (named_at 150 161 (codes "Expr<\"ABC\">"))
    ∷ (instance 150 161 (codes "Expr<\"ABC\">") (codes "C") (codes "D")
    ∷ (instance 129 140 (codes "Expr<\"AAC\">") (codes "B") (codes "C")
    ∷ (instance 108 119 (codes "Expr<\"A*C\">") (codes "A") (codes "D") ∷ [])))))
unfolding chars encode
three_instances_rules = refl

-- ---- symbols replaced

-- what is desugared is a name, in wrappers too; all else stays
replaced_symbols : all_replaced (parts_of
    (at (span 0 9) (chosen (at (span 1 8) (named (record { mutable = false; name = codes "x" }) (at (span 3 8) (tupled no_arguments (at (span 6 8) (plussed (named_at 6 7 (codes "A")))))))))
    ∷ (at (span 10 12) lookahead ∷ (at (span 13 15) lookbehind ∷ (at (span 16 18) (group (parts_of []))
    ∷ (at (span 19 20) error_terminal ∷ (named_at 21 22 (codes "A") ∷ (at (span 23 24) (bare (codes "B")) ∷ (at (span 25 26) (identifier (codes "C")) ∷ [])))))))))
    ≡ parts_of
    (at (span 0 9) (chosen (at (span 1 8) (named (record { mutable = false; name = codes "x" }) (at (span 3 8) (tupled no_arguments (named_at 6 8 (codes "A+")))))))
    ∷ (named_at 10 12 (codes "@L") ∷ (named_at 13 15 (codes "@R") ∷ (named_at 16 18 (codes "()")
    ∷ (at (span 19 20) error_terminal ∷ (named_at 21 22 (codes "A") ∷ (at (span 23 24) (bare (codes "B")) ∷ (at (span 25 26) (identifier (codes "C")) ∷ []))))))))
replaced_symbols = refl

-- only whole symbols are replaced: the parts of a group are gone with it
replaced_whole : replaced (at (span 0 9) (group (parts_of (at (span 1 4) (group (parts_of (named_at 2 3 (codes "A") ∷ []))) ∷ (named_at 5 6 (codes "B") ∷ [])))))
    ≡ named_at 0 9 (codes "((A) B)")
replaced_whole = refl
