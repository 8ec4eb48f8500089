-- Small grammars in which a rule has two types or none.
use Rattle.std.proofs.Common.{◌≡◌, map, ℕ, List, [], ◌∷◌, Some, None, codes, true, false, inl, inr, refl, sym, subst}
use Rattle.lalrpop_norm_tree_names.specs.declared.names.TypeParameter.TheVariants as parameter
use Rattle.lalrpop_norm_tree_parts.specs.Accessors.{path_of}
use Rattle.lalrpop_norm_tree.specs.Items.{RuleData, GrammarData, lookahead_code}
use Rattle.lalrpop_norm_tree_parts.specs.Reprs as lowered
use Rattle.lalrpop_norm_tree_parts.specs.Reprs.{ReprData, named_repr, unit_type}
use Rattle.lalrpop_norm_tree.specs.Symbols.{ArgumentPattern, ArgumentPatterns, one_name, several, no_arguments, argument_and, nonterminal, tupled}
use Rattle.lalrpop_norm_tree.specs.Types.{id, tuple, nominal, of_symbol, types_of, no_types}
use Rattle.lalrpop_norm_faults.specs.declared.kind.FaultKind.TheVariants.{TupleLength, Disagreement}
use Rattle.lalrpop_norm_model.specs.TypeRelation.{Has, IsFunctional, IsTotal}
use Rattle.lalrpop_norm_model.specs.TuplePatterns.{pattern_fits, PatternsFit, pattern_misfits}
use Rattle.lalrpop_norm_model.specs.InferenceFaults.{inference_faults, disagreeing as disagreeing_alternatives, untyped_rules, inferred_table}
use Rattle.lalrpop_norm_model.specs.TypeRounds.{TypeRow, table_of}
use Rattle.lalrpop_norm_model.proofs.TypeLemmas.{none_had}
use Rattle.lalrpop_norm_model.proofs.TableTests.{AllHad, had_by, Typing, typing, stuck_by_rules}
use Rattle.lalrpop_norm_model.proofs.ExampleGrammars.{nowhere, a_part, plain, with_code, coded, a_rule, tok_tokens, tok, of_rules}
use Rattle.lalrpop_norm_model.proofs.TypeExamples.{tuple_of, literal}

-- a token and a tuple are two types
two_types : (g : GrammarData) (n : List ℕ) (ts : List ReprData) → Has g n tok → Has g n (tuple_of ts) → IsFunctional g → ⊥
two_types g n ts h k one = let same : tok ≡ tuple_of ts = one n _ _ h k in cc

-- ---- two types

-- `A = {B, "x"}; B = {A C, "y"}; C = "c";`: B is a token by `"y"`, A by `"x"`, so B is a pair by `A C`.
abbrev disagreeing : GrammarData
disagreeing = of_rules (tok_tokens (codes "x" ∷ codes "y" ∷ codes "c" ∷ []) ∷ [])
    (a_rule (codes "A") None (plain (nonterminal (codes "B") ∷ []) ∷ plain (literal (codes "x") ∷ []) ∷ [])
    ∷ a_rule (codes "B") None (plain (nonterminal (codes "A") ∷ nonterminal (codes "C") ∷ []) ∷ plain (literal (codes "y") ∷ []) ∷ [])
    ∷ a_rule (codes "C") None (plain (literal (codes "c") ∷ []) ∷ []) ∷ [])

abbrev disagreeing_rows : List TypeRow
disagreeing_rows = (codes "A", tok) ∷ (codes "C", tok) ∷ []

disagreeing_had : AllHad disagreeing disagreeing_rows
disagreeing_had = (had_by disagreeing [] tt _ _ tok (inl refl) (inr (inl refl)) refl, (had_by disagreeing [] tt _ _ tok (inr (inr (inl refl))) (inl refl) refl, tt))

b_token : Has disagreeing (codes "B") tok
b_token = had_by disagreeing [] tt _ _ tok (inr (inl refl)) (inr (inl refl)) refl

b_pair : Has disagreeing (codes "B") (tuple_of (tok ∷ tok ∷ []))
b_pair = had_by disagreeing disagreeing_rows disagreeing_had _ _ _ (inr (inl refl)) (inl refl) refl

b_twice : IsFunctional disagreeing → ⊥
b_twice = two_types disagreeing (codes "B") (tok ∷ tok ∷ []) b_token b_pair

-- `X = {X Y, Y}; Y = "y";`: an alternative that leads back to its own rule counts.
abbrev back : GrammarData
back = of_rules (tok_tokens (codes "y" ∷ []) ∷ [])
    (a_rule (codes "X") None (plain (nonterminal (codes "X") ∷ nonterminal (codes "Y") ∷ []) ∷ plain (nonterminal (codes "Y") ∷ []) ∷ [])
    ∷ a_rule (codes "Y") None (plain (literal (codes "y") ∷ []) ∷ []) ∷ [])

y_had : AllHad back ((codes "Y", tok) ∷ [])
y_had = (had_by back [] tt _ _ tok (inr (inl refl)) (inl refl) refl, tt)

x_had : AllHad back ((codes "X", tok) ∷ (codes "Y", tok) ∷ [])
x_had = (had_by back ((codes "Y", tok) ∷ []) y_had _ _ tok (inl refl) (inr (inl refl)) refl, y_had)

x_twice : IsFunctional back → ⊥
x_twice = two_types back (codes "X") (tok ∷ tok ∷ []) x_had.0
    (had_by back ((codes "X", tok) ∷ (codes "Y", tok) ∷ []) x_had _ _ _ (inl refl) (inl refl) refl)

-- The levels of `E = {"n", E "+" E}`, left: `E1 = "n"; E = {E "+" E1, E1}` have two types, and one where both are declared.
abbrev levels : GrammarData
levels = of_rules (tok_tokens (codes "n" ∷ codes "+" ∷ []) ∷ [])
    (a_rule (codes "E1") None (plain (literal (codes "n") ∷ []) ∷ [])
    ∷ a_rule (codes "E") None (plain (nonterminal (codes "E") ∷ literal (codes "+") ∷ nonterminal (codes "E1") ∷ []) ∷ plain (nonterminal (codes "E1") ∷ []) ∷ []) ∷ [])

low_had : AllHad levels ((codes "E1", tok) ∷ [])
low_had = (had_by levels [] tt _ _ tok (inl refl) (inl refl) refl, tt)

high_had : AllHad levels ((codes "E", tok) ∷ (codes "E1", tok) ∷ [])
high_had = (had_by levels ((codes "E1", tok) ∷ []) low_had _ _ tok (inr (inl refl)) (inr (inl refl)) refl, low_had)

levels_twice : IsFunctional levels → ⊥
levels_twice = two_types levels (codes "E") (tok ∷ tok ∷ tok ∷ []) high_had.0
    (had_by levels ((codes "E", tok) ∷ (codes "E1", tok) ∷ []) high_had _ _ _ (inr (inl refl)) (inl refl) refl)

abbrev declared_levels : GrammarData
declared_levels = of_rules (tok_tokens (codes "n" ∷ codes "+" ∷ []) ∷ [])
    (a_rule (codes "E1") (Some (tuple no_types)) (plain (literal (codes "n") ∷ []) ∷ [])
    ∷ a_rule (codes "E") (Some (tuple no_types)) (plain (nonterminal (codes "E") ∷ literal (codes "+") ∷ nonterminal (codes "E1") ∷ []) ∷ plain (nonterminal (codes "E1") ∷ []) ∷ []) ∷ [])

declared_levels_types : Typing declared_levels ((codes "E1", unit_type) ∷ (codes "E", unit_type) ∷ [])
declared_levels_types = typing declared_levels ((codes "E1", unit_type) ∷ (codes "E", unit_type) ∷ [])
    (had_by declared_levels [] tt _ _ _ (inl refl) (inl refl) refl, (had_by declared_levels [] tt _ _ _ (inr (inl refl)) (inl refl) refl, tt))
    ((refl, tt), ((refl, tt), tt)) (refl, (refl, tt))

-- ---- no type

-- `A = B; B = C; C = D; D = A;`: no rule has a type.
abbrev circle : GrammarData
circle = of_rules (tok_tokens [] ∷ [])
    (a_rule (codes "A") None (plain (nonterminal (codes "B") ∷ []) ∷ []) ∷ a_rule (codes "B") None (plain (nonterminal (codes "C") ∷ []) ∷ [])
    ∷ a_rule (codes "C") None (plain (nonterminal (codes "D") ∷ []) ∷ []) ∷ a_rule (codes "D") None (plain (nonterminal (codes "A") ∷ []) ∷ []) ∷ [])

circle_none : (n : List ℕ) (x : ReprData) → Has circle n x → ⊥
circle_none n = none_had circle (table_of [])
    (stuck_by_rules circle (table_of []) ((tt, tt), ((tt, tt), ((tt, tt), ((tt, tt), tt))))) n refl

circle_partial : IsTotal circle → ⊥
circle_partial total = let a = total _ (inl refl) in circle_none _ a.0 a.1

-- The alternative of a location symbol gives no type where no location is declared: a rule L of that one has none, a rule X of it
-- and `"x"` that of `"x"`.
abbrev nowhere_located : GrammarData
nowhere_located = of_rules (tok_tokens (codes "x" ∷ []) ∷ [])
    (a_rule (codes "L") None (with_code (Some lookahead_code) [] ∷ [])
    ∷ a_rule (codes "X") None (with_code (Some lookahead_code) [] ∷ plain (literal (codes "x") ∷ []) ∷ []) ∷ [])

l_none : (x : ReprData) → Has nowhere_located (codes "L") x → ⊥
l_none = none_had nowhere_located (table_of ((codes "X", tok) ∷ []))
    (stuck_by_rules nowhere_located (table_of ((codes "X", tok) ∷ [])) ((tt, tt), ((tt, (refl, tt)), tt))) (codes "L") refl

x_located : Has nowhere_located (codes "X") tok
x_located = had_by nowhere_located [] tt _ _ tok (inr (inl refl)) (inr (inl refl)) refl

-- A rule with code alone has none: `K = "x" => 5;`.
abbrev only_coded : GrammarData
only_coded = of_rules (tok_tokens (codes "x" ∷ []) ∷ []) (a_rule (codes "K") None (coded (codes "5") (literal (codes "x") ∷ []) ∷ []) ∷ [])

k_none : (n : List ℕ) (x : ReprData) → Has only_coded n x → ⊥
k_none n = none_had only_coded (table_of []) (stuck_by_rules only_coded (table_of []) (tt, tt)) n refl

-- ---- associated types

-- With the type parameter T, `T::Item` is associated and its arguments are not read: here the type of Y, which has none.
-- `U::Item` is a path, so there the argument counts.
abbrev associated : GrammarData
associated = record (of_rules (tok_tokens [] ∷ [])
    (a_rule (codes "X") (Some (nominal (path_of (codes "T" ∷ codes "Item" ∷ [])) (types_of (of_symbol (nonterminal (codes "Y")) ∷ [])))) []
    ∷ a_rule (codes "Y") None (plain (nonterminal (codes "Y") ∷ []) ∷ [])
    ∷ a_rule (codes "Z") (Some (nominal (path_of (codes "U" ∷ codes "Item" ∷ [])) (types_of (of_symbol (nonterminal (codes "Y")) ∷ [])))) [] ∷ [])) {
      type_parameters = parameter.Id (codes "T") ∷ [];
    }

x_associated : Has associated (codes "X") (lowered.associated (codes "T") (codes "Item"))
x_associated = had_by associated [] tt _ _ _ (inl refl) (inl refl) refl

z_none : (x : ReprData) → Has associated (codes "Z") x → ⊥
z_none = none_had associated (table_of ((codes "X", tok) ∷ []))
    (stuck_by_rules associated (table_of ((codes "X", tok) ∷ [])) ((refl, tt), ((tt, tt), ((tt, tt), tt)))) (codes "Z") refl

-- ---- tuple patterns

-- `Foo: String = <(a, b):Bar> => a + b; Bar = "a" "b" "c";`: Bar gives three tokens, which a pattern of two does not fit.
abbrev one : List ℕ → ArgumentPattern
one n = one_name (record { mutable = false; name = n })

abbrev pair : ArgumentPattern → ArgumentPattern → ArgumentPatterns
pair p q = argument_and p (argument_and q no_arguments)

abbrev foo : GrammarData
foo = of_rules (tok_tokens (codes "a" ∷ codes "b" ∷ codes "c" ∷ []) ∷ [])
    (a_rule (codes "Foo") (Some (id (codes "String"))) (coded (codes "a + b") (tupled (pair (one (codes "a")) (one (codes "b"))) (a_part (nonterminal (codes "Bar"))) ∷ []) ∷ [])
    ∷ a_rule (codes "Bar") None (plain (literal (codes "a") ∷ literal (codes "b") ∷ literal (codes "c") ∷ []) ∷ []) ∷ [])

abbrev three : ReprData
three = tuple_of (tok ∷ tok ∷ tok ∷ [])

foo_types : Typing foo ((codes "Foo", named_repr (codes "String")) ∷ (codes "Bar", three) ∷ [])
foo_types = typing foo ((codes "Foo", named_repr (codes "String")) ∷ (codes "Bar", three) ∷ [])
    (had_by foo [] tt _ _ _ (inl refl) (inl refl) refl, (had_by foo [] tt _ _ _ (inr (inl refl)) (inl refl) refl, tt))
    ((refl, tt), ((refl, tt), tt)) (refl, (refl, tt))

two_for_three : pattern_fits (several (pair (one (codes "a")) (one (codes "b")))) three ≡ false
two_for_three = refl

nested_fits : pattern_fits (several (pair (one (codes "a")) (several (pair (one (codes "b")) (one (codes "c")))))) (tuple_of (tok ∷ tuple_of (tok ∷ tok ∷ []) ∷ [])) ≡ true
nested_fits = refl

nested_short : pattern_fits (several (pair (one (codes "a")) (several (pair (one (codes "b")) (one (codes "c")))))) (tuple_of (tok ∷ three ∷ [])) ≡ false
nested_short = refl

over_token : pattern_fits (several (pair (one (codes "a")) (one (codes "b")))) tok ≡ false
over_token = refl

foo_is_not : PatternsFit foo → ⊥
foo_is_not h =
    let p = h _ (_, inl refl, inl refl) _ (inl refl) in
    let n : codes "Bar" ≡ p.name = cc in
    let had : Has foo (codes "Bar") p.type = subst (λ m. Has foo m p.type) (sym n) p.has in
    let x : p.type ≡ three = foo_types.one.functional (codes "Bar") p.type three had ((foo_types.table (codes "Bar") three).0 refl) in
    let not : pattern_fits (several (pair (one (codes "a")) (one (codes "b")))) p.type ≡ false = rw x two_for_three in
    let is : pattern_fits (several (pair (one (codes "a")) (one (codes "b")))) p.type ≡ true = p.fitting in
    cc

-- ---- the errors of inference

-- `A C` disagrees with the token that B has by `"y"`
disagreeing_place : disagreeing_alternatives disagreeing ≡ plain (nonterminal (codes "A") ∷ nonterminal (codes "C") ∷ []) ∷ []
disagreeing_place = refl

levels_place : disagreeing_alternatives levels ≡ plain (nonterminal (codes "E") ∷ literal (codes "+") ∷ nonterminal (codes "E1") ∷ []) ∷ []
levels_place = refl

levels_faults : inference_faults levels ≡ (Disagreement, nowhere) ∷ []
levels_faults = refl

-- declared types are compared with nothing
declared_places : disagreeing_alternatives declared_levels ≡ []
declared_places = refl

-- the first rule without a type is A
circle_places : map (λ (r : RuleData). r.name.0) (untyped_rules circle) ≡ codes "A" ∷ codes "B" ∷ codes "C" ∷ codes "D" ∷ []
circle_places = refl

foo_places : pattern_misfits foo (inferred_table foo) ≡ (TupleLength, nowhere) ∷ []
foo_places = refl
