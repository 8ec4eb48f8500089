-- The rules that symbols are desugared to, whole: groups, repeats, location symbols and instances of macros.
use Rattle.std.proofs.Common.{◌≡◌, ℕ, List, [], ◌∷◌, refl}
use Rattle.std.specs.Prelude.{true, false, Some, None, codes, map}
use Rattle.std.specs.Str.{chars}
use lib.Utf8.{encode}
use Rattle.lalrpop_norm_tree_names.specs.declared.names.Lifetime.{Lifetime}
use Rattle.lalrpop_norm_tree_names.specs.declared.names.TypeParameter.TheVariants as parameter
use Rattle.lalrpop_norm_tree.specs.declared.items.ConditionOp.TheVariants.{Equals}
use Rattle.lalrpop_norm_tree_parts.specs.Accessors.{path_of}
use Rattle.lalrpop_norm_tree_parts.specs.Attributes.{empty, attribute, attributes_of}
use Rattle.lalrpop_norm_tree_parts.specs.Paths.{PathData}
use Rattle.lalrpop_norm_tree.specs.Symbols.{Kind, Part, Parts, group, call, chosen, lookahead, lookbehind, at, no_parts, parts_of}
use Rattle.lalrpop_norm_tree.specs.Types.{TypeData, tuple, slice, nominal, reference, trait_object, of_lifetime, id, of_symbol, function, types_of, returns, no_type}
use Rattle.lalrpop_norm_tree.specs.Items.{Action, user_code, fallible_code, lookahead_code, lookbehind_code, AlternativeData, RuleData, within}
use Rattle.lalrpop_norm_model.specs.MadeRules.{argument_kind, type_substituted, substituted, made_rules}
use Rattle.lalrpop_norm_model.proofs.ExampleWords.{span, rule_name, bare_attribute, literal, name, starred, plussed, optional, name_before, here, symbols, alternative, rule, macro_rule, conditional, example_value, conditional_macro}

abbrev token : ℕ → ℕ → List ℕ → Part
token a b t = at (span a b) (literal t)

-- the rule that a symbol is desugared to, where there are no macros
abbrev made : Part → List RuleData
made p = made_rules example_value [] p

-- a made rule at 4..20: its name, its declared type and its alternatives, each with its symbols and its code
abbrev coded : List Part → List ℕ → AlternativeData
coded ps code = record (alternative (span 4 20) [] (parts_of ps)) { action = Some (user_code code) }

abbrev without_inline : List ℕ → TypeData → List AlternativeData → RuleData
without_inline n t alternatives = record (rule (span 4 20) n alternatives) { type_decl = Some t }

abbrev inlined : List ℕ → TypeData → List AlternativeData → RuleData
inlined n t alternatives = record (without_inline n t alternatives) { attributes = attributes_of (attribute (span 4 20) (codes "inline") empty ∷ []) }

abbrev of_literal : List ℕ → TypeData
of_literal a = of_symbol (literal a)

-- ---- groups

abbrev grouped : List Part → Part
grouped ps = at (span 4 20) (group (parts_of ps))

-- ("a" "b")
abbrev a_and_b : List Part
a_and_b = token 5 8 (codes "a") ∷ (token 9 12 (codes "b") ∷ [])

group_of_two : made (grouped a_and_b) ≡
    inlined (codes "(\"a\" \"b\")") (tuple (types_of (of_literal (codes "a") ∷ (of_literal (codes "b") ∷ [])))) (coded a_and_b (codes "(<>)") ∷ []) ∷ []
unfolding chars encode
group_of_two = refl

-- ("a")
group_of_one : made (grouped (token 5 8 (codes "a") ∷ [])) ≡
    inlined (codes "(\"a\")") (of_literal (codes "a")) (coded (token 5 8 (codes "a") ∷ []) (codes "<>") ∷ []) ∷ []
unfolding chars encode
group_of_one = refl

-- ("a" <"b">): the selected one alone counts
abbrev b_chosen : List Part
b_chosen = token 5 8 (codes "a") ∷ (at (span 9 14) (chosen (token 10 13 (codes "b"))) ∷ [])

group_of_chosen : made (grouped b_chosen) ≡ inlined (codes "(\"a\" <\"b\">)") (of_literal (codes "b")) (coded b_chosen (codes "<>") ∷ []) ∷ []
unfolding chars encode
group_of_chosen = refl

-- (<"b"> "a" <"c">)
abbrev two_chosen : List Part
two_chosen = at (span 5 8) (chosen (here (literal (codes "b")))) ∷ (token 9 12 (codes "a") ∷ (at (span 13 16) (chosen (here (literal (codes "c")))) ∷ []))

group_of_two_chosen : made (grouped two_chosen) ≡
    inlined (codes "(<\"b\"> \"a\" <\"c\">)") (tuple (types_of (of_literal (codes "b") ∷ (of_literal (codes "c") ∷ [])))) (coded two_chosen (codes "(<>)") ∷ []) ∷ []
unfolding chars encode
group_of_two_chosen = refl

-- ((<"b">) A): what an inner group selects is selected there; in the type the group is the name of its rule
abbrev chosen_inside : List Part
chosen_inside = at (span 5 12) (group (parts_of (at (span 6 11) (chosen (token 7 10 (codes "b"))) ∷ []))) ∷ (at (span 13 14) (name (codes "A")) ∷ [])

group_of_group : made (grouped chosen_inside) ≡
    inlined (codes "((<\"b\">) A)")
    (tuple (types_of (of_symbol (name (codes "(<\"b\">)")) ∷ (of_symbol (name (codes "A")) ∷ []))))
    (coded chosen_inside (codes "(<>)") ∷ []) ∷ []
unfolding chars encode
group_of_group = refl

-- ()
empty_group : made (grouped []) ≡ inlined (codes "()") (tuple (types_of [])) (coded [] (codes "(<>)") ∷ []) ∷ []
empty_group = refl

-- ---- repeats

abbrev vector_of : TypeData → TypeData
vector_of t = nominal (record { absolute = false; ids = codes "alloc" ∷ (codes "vec" ∷ (codes "Vec" ∷ [])) }) (types_of (t ∷ []))

abbrev option_of : TypeData → TypeData
option_of t = nominal (record { absolute = false; ids = codes "Option" ∷ [] }) (types_of (t ∷ []))

-- a name before a symbol, both at 4..20
abbrev bound_here : List ℕ → Kind → Part
bound_here n k = at (span 4 20) (name_before n (at (span 4 20) k))

star_of_a : made (at (span 4 20) (starred (token 4 7 (codes "a")))) ≡
    inlined (codes "\"a\"*") (vector_of (of_literal (codes "a")))
    (coded [] (codes "alloc::vec![]") ∷ (coded (bound_here (codes "v") (plussed (token 4 7 (codes "a"))) ∷ []) (codes "v") ∷ [])) ∷ []
unfolding chars encode
star_of_a = refl

-- the repeated symbol keeps its span, and the rule is not inlined
plus_of_a : made (at (span 4 20) (plussed (token 4 7 (codes "a")))) ≡
    without_inline (codes "\"a\"+") (vector_of (of_literal (codes "a")))
    (coded (token 4 7 (codes "a") ∷ []) (codes "alloc::vec![<>]")
    ∷ (coded (bound_here (codes "v") (plussed (token 4 7 (codes "a"))) ∷ (at (span 4 20) (name_before (codes "e") (token 4 7 (codes "a"))) ∷ []))
    (codes "{ let mut v = v; v.push(e); v }") ∷ [])) ∷ []
unfolding chars encode
plus_of_a = refl

-- <"a">+: a wrapped symbol stays wrapped, in the type and under the name too
plus_of_chosen : made (at (span 4 20) (plussed (at (span 4 9) (chosen (token 5 8 (codes "a")))))) ≡
    without_inline (codes "<\"a\">+") (vector_of (of_symbol (chosen (token 5 8 (codes "a")))))
    (coded (at (span 4 9) (chosen (token 5 8 (codes "a"))) ∷ []) (codes "alloc::vec![<>]")
    ∷ (coded (bound_here (codes "v") (plussed (at (span 4 9) (chosen (token 5 8 (codes "a"))))) ∷ (at (span 4 20) (name_before (codes "e") (at (span 4 9) (chosen (token 5 8 (codes "a"))))) ∷ []))
    (codes "{ let mut v = v; v.push(e); v }") ∷ [])) ∷ []
unfolding chars encode
plus_of_chosen = refl

question_of_a : made (at (span 4 20) (optional (token 4 7 (codes "a")))) ≡
    inlined (codes "\"a\"?") (option_of (of_literal (codes "a")))
    (coded (token 4 7 (codes "a") ∷ []) (codes "Some(<>)") ∷ (coded [] (codes "None") ∷ [])) ∷ []
unfolding chars encode
question_of_a = refl

-- ---- location symbols

abbrev location : List ℕ → Action → RuleData
location n code = record (rule (span 4 20) n (record (alternative (span 4 20) [] no_parts) { action = Some code } ∷ [])) {
  attributes = attributes_of (attribute (span 4 20) (codes "inline") empty ∷ []);
}

lookahead_made : made (at (span 4 20) lookahead) ≡ location (codes "@L") lookahead_code ∷ []
lookahead_made = refl

lookbehind_made : made (at (span 4 20) lookbehind) ≡ location (codes "@R") lookbehind_code ∷ []
lookbehind_made = refl

-- ---- what is made into nothing

nothing_made : made (token 4 7 (codes "a")) ≡ []
nothing_made = refl

wrapped_made : made (at (span 4 20) (chosen (at (span 5 9) (starred (token 5 8 (codes "a")))))) ≡ []
wrapped_made = refl

unknown_macro : made (at (span 4 20) (call (codes "M") (parts_of (token 6 9 (codes "a") ∷ [])))) ≡ []
unknown_macro = refl

-- ---- instances

-- #[inline] pub(in P) M<T,U>: [U] = { #[x] <n:T> M<U, (T V)> =>? f(n), "b" if T == "t" => g() };
abbrev body : Kind → Kind → Parts
body t u = parts_of
    (at (span 30 35) (name_before (codes "n") (at (span 33 34) t))
    ∷ (at (span 36 46) (call (codes "M") (parts_of (at (span 38 39) u ∷ (at (span 41 46) (group (parts_of (at (span 42 43) t ∷ (at (span 44 45) (name (codes "V")) ∷ [])))) ∷ []))))
    ∷ []))

abbrev first_of : Parts → AlternativeData
first_of ps = record (alternative (span 30 60) (bare_attribute (codes "x") ∷ []) ps) { action = Some (fallible_code (codes "f(n)")) }

abbrev second : AlternativeData
second = record (conditional (literal (codes "b")) (codes "T") Equals (codes "t")) { action = Some (user_code (codes "g()")) }

abbrev macro_m : RuleData
macro_m = record (macro_rule (span 10 16) (codes "M") (codes "T" ∷ (codes "U" ∷ [])) (first_of (body (name (codes "T")) (name (codes "U"))) ∷ (second ∷ []))) {
  visibility = within (path_of (codes "P" ∷ []));
  attributes = attributes_of (attribute (span 2 8) (codes "inline") empty ∷ []);
  type_decl = Some (slice (id (codes "U")));
}

-- M<"s", U> at 4..20: the second alternative falls away
abbrev instance : List ℕ → List AlternativeData → RuleData
instance n alternatives = record macro_m {
  name = rule_name n;
  span = span 4 20;
  args = [];
  type_decl = Some (slice (of_symbol (name (codes "U"))));
  alternatives = alternatives;
}

abbrev call_of_m : List ℕ → Part
call_of_m a = at (span 4 20) (call (codes "M") (parts_of (token 6 9 a ∷ (at (span 11 12) (name (codes "U")) ∷ []))))

one_alternative : made_rules example_value (conditional_macro ∷ (macro_m ∷ [])) (call_of_m (codes "s")) ≡
    instance (codes "M<\"s\", U>") (record (first_of (body (literal (codes "s")) (name (codes "U")))) { span = span 4 20 } ∷ []) ∷ []
unfolding chars encode
one_alternative = refl

-- M<"t", U>: both have the span of the call, without their conditions
both_alternatives : made_rules example_value (conditional_macro ∷ (macro_m ∷ [])) (call_of_m (codes "t")) ≡
    instance (codes "M<\"t\", U>")
    (record (first_of (body (literal (codes "t")) (name (codes "U")))) { span = span 4 20 }
    ∷ (record second { span = span 4 20; condition = None } ∷ [])) ∷ []
unfolding chars encode
both_alternatives = refl

-- an argument that is a wrapped symbol keeps what is inside at its span
substituted_wrapped : substituted (argument_kind (rule_name (codes "T") ∷ []) (parts_of (at (span 6 10) (name_before (codes "x") (at (span 8 9) (name (codes "Y")))) ∷ [])))
    (at (span 30 35) (chosen (at (span 31 32) (name (codes "T"))))) ≡
    at (span 30 35) (chosen (at (span 31 32) (name_before (codes "x") (at (span 8 9) (name (codes "Y"))))))
substituted_wrapped = refl

-- what is substituted is not looked at again: U for T and "u" for U
substituted_at_once : substituted (argument_kind (map rule_name (codes "T" ∷ (codes "U" ∷ []))) (symbols (name (codes "U") ∷ (literal (codes "u") ∷ []))))
    (here (group (symbols (name (codes "T") ∷ (name (codes "U") ∷ (name (codes "V") ∷ [])))))) ≡
    here (group (symbols (name (codes "U") ∷ (literal (codes "u") ∷ (name (codes "V") ∷ [])))))
substituted_at_once = refl

-- ---- declared types of instances, T being bound to `"t"*`

abbrev put : TypeData → TypeData
put t = type_substituted (argument_kind (rule_name (codes "T") ∷ []) (parts_of (at (span 6 10) (starred (token 6 9 (codes "t"))) ∷ []))) t

abbrev t_type : TypeData
t_type = id (codes "T")

-- the type of the symbol, which is the name of its rule
abbrev its_type : TypeData
its_type = of_symbol (name (codes "\"t\"*"))

abbrev path : List ℕ → PathData
path n = path_of (n ∷ [])

abbrev lifetime : Lifetime
lifetime = record { 0 = codes "'a" }

-- T
type_of_argument : put t_type ≡ its_type
unfolding chars encode
type_of_argument = refl

-- U becomes a path
type_of_other : put (id (codes "U")) ≡ nominal (path (codes "U")) (types_of [])
type_of_other = refl

-- Vec<T>
type_over_argument : put (nominal (path (codes "Vec")) (types_of (t_type ∷ []))) ≡ nominal (path (codes "Vec")) (types_of (its_type ∷ []))
unfolding chars encode
type_over_argument = refl

-- &'a T and &mut T
type_behind_reference : put (reference (Some lifetime) false t_type) ≡ reference (Some lifetime) false its_type
unfolding chars encode
type_behind_reference = refl

type_behind_mutable : put (reference None true t_type) ≡ reference None true its_type
unfolding chars encode
type_behind_mutable = refl

-- T as a path of one part is no argument, and neither is the head of T<U>
type_as_path : put (nominal (path (codes "T")) (types_of [])) ≡ nominal (path (codes "T")) (types_of [])
type_as_path = refl

type_as_head : put (nominal (path (codes "T")) (types_of (id (codes "U") ∷ []))) ≡ nominal (path (codes "T")) (types_of (nominal (path (codes "U")) (types_of []) ∷ []))
type_as_head = refl

-- (T, [T], dyn P<T>, 'a, dyn for<'a> F(T) -> T, dyn F())
abbrev types_with : TypeData → TypeData
types_with t = tuple (types_of (t ∷ (slice t ∷ (trait_object (path (codes "P")) (types_of (t ∷ [])) ∷ (of_lifetime lifetime
    ∷ (function (parameter.Lifetime lifetime ∷ []) (path (codes "F")) (types_of (t ∷ [])) (returns t) ∷ (function [] (path (codes "F")) (types_of []) no_type ∷ [])))))))

types_inside : put (types_with t_type) ≡ types_with its_type
unfolding chars encode
types_inside = refl

-- a wrapped argument keeps its wrapper in the type, as x:Y*
type_of_wrapped : type_substituted (argument_kind (rule_name (codes "T") ∷ []) (parts_of (at (span 6 10) (name_before (codes "x") (at (span 8 10) (starred (at (span 8 9) (name (codes "Y")))))) ∷ []))) t_type
    ≡ of_symbol (name_before (codes "x") (at (span 8 10) (name (codes "Y*"))))
type_of_wrapped = refl

-- the type of a symbol stays as it is written
type_of_symbol : put (of_symbol (name (codes "T"))) ≡ of_symbol (name (codes "T"))
type_of_symbol = refl

type_of_repeat : put (of_symbol (starred (here (name (codes "T"))))) ≡ of_symbol (starred (here (name (codes "T"))))
type_of_repeat = refl
