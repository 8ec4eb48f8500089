-- The types of small grammars, each found by hand from its rules.
use Rattle.std.proofs.Common.{ℕ, List, [], ◌∷◌, Some, None, codes, inl, inr, refl}
use Rattle.lalrpop_norm_tree_parts.specs.Accessors.{path_of}
use Rattle.lalrpop_norm_tree.specs.Items.{GrammarData, RuleData, lookahead_code, lookbehind_code}
use Rattle.lalrpop_norm_tree_parts.specs.Reprs as lowered
use Rattle.lalrpop_norm_tree_parts.specs.Reprs.{ReprData, reprs_of, named_repr, unit_type, static_str}
use Rattle.lalrpop_norm_tree.specs.Symbols.{Kind, terminal, nonterminal, chosen, error_terminal}
use Rattle.lalrpop_norm_tree.specs.Types.{nominal, id, of_symbol, types_of}
use Rattle.lalrpop_norm_model.specs.TerminalTypes.{token_of_input}
use Rattle.lalrpop_norm_model.specs.TypeRelation.{Has}
use Rattle.lalrpop_norm_model.specs.TypeRounds.{TypeRow}
use Rattle.lalrpop_norm_model.proofs.TableTests.{AllHad, had_by, Typing, typing}
use Rattle.lalrpop_norm_model.proofs.ExampleGrammars.{quoted, a_part, plain, coded, with_code, a_rule, extern_tokens, converts, declares, tok_tokens, tok, of_rules}

-- ---- words

abbrev pub tuple_of : List ReprData → ReprData
tuple_of ts = lowered.tuple (reprs_of ts)

abbrev pub literal : List ℕ → Kind
literal text = terminal (quoted text)

abbrev choose : Kind → Kind
choose k = chosen (a_part k)

-- a path over the types
abbrev applied : List (List ℕ) → List ReprData → ReprData
applied ids ts = lowered.nominal (path_of ids) (reprs_of ts)

-- `X = {X, "a"};` has the type of its token, though an alternative leads back to it.
abbrev own : GrammarData
own = of_rules (tok_tokens (codes "a" ∷ []) ∷ [])
    (a_rule (codes "X") None (plain (nonterminal (codes "X") ∷ []) ∷ plain (literal (codes "a") ∷ []) ∷ []) ∷ [])

own_had : Has own (codes "X") tok
own_had = had_by own [] tt _ _ tok (inl refl) (inr (inl refl)) refl

own_types : Typing own ((codes "X", tok) ∷ [])
own_types = typing own ((codes "X", tok) ∷ []) (own_had, tt) ((refl, (refl, tt)), tt) (refl, tt)

-- `X = Y Z; Y: Foo = "Hi"; Z = "Ho";`: a declared type counts, whatever its alternatives give.
abbrev declared : GrammarData
declared = of_rules (tok_tokens (codes "Hi" ∷ codes "Ho" ∷ []) ∷ [])
    (a_rule (codes "X") None (plain (nonterminal (codes "Y") ∷ nonterminal (codes "Z") ∷ []) ∷ [])
    ∷ a_rule (codes "Y") (Some (id (codes "Foo"))) (plain (literal (codes "Hi") ∷ []) ∷ [])
    ∷ a_rule (codes "Z") None (plain (literal (codes "Ho") ∷ []) ∷ []) ∷ [])

abbrev declared_rows : List TypeRow
declared_rows = (codes "Y", named_repr (codes "Foo")) ∷ (codes "Z", tok) ∷ []

declared_had : AllHad declared declared_rows
declared_had = (had_by declared [] tt _ _ _ (inr (inl refl)) (inl refl) refl, (had_by declared [] tt _ _ _ (inr (inr (inl refl))) (inl refl) refl, tt))

declared_types : Typing declared ((codes "X", tuple_of (named_repr (codes "Foo") ∷ tok ∷ [])) ∷ declared_rows)
declared_types = typing declared ((codes "X", tuple_of (named_repr (codes "Foo") ∷ tok ∷ [])) ∷ declared_rows)
    (had_by declared declared_rows declared_had _ _ _ (inl refl) (inl refl) refl, declared_had)
    ((refl, tt), ((refl, tt), ((refl, tt), tt))) (refl, (refl, (refl, tt)))

-- `A = Z*; Z = "Hi"?;` with the rules that the repeats are made into: `alloc::vec::Vec<Option<Tok>>`.
abbrev made : List ℕ → List (List ℕ) → Kind → RuleData
made n path k = a_rule n (Some (nominal (path_of path) (types_of (of_symbol k ∷ [])))) []

abbrev vector : List (List ℕ)
vector = codes "alloc" ∷ codes "vec" ∷ codes "Vec" ∷ []

abbrev repeats : GrammarData
repeats = of_rules (tok_tokens (codes "Hi" ∷ []) ∷ [])
    (a_rule (codes "A") None (plain (nonterminal (codes "Z*") ∷ []) ∷ [])
    ∷ a_rule (codes "Z") None (plain (nonterminal (codes "\"Hi\"?") ∷ []) ∷ [])
    ∷ made (codes "\"Hi\"?") (codes "Option" ∷ []) (literal (codes "Hi"))
    ∷ made (codes "Z*") vector (nonterminal (codes "Z")) ∷ [])

abbrev option_tok : ReprData
option_tok = applied (codes "Option" ∷ []) (tok ∷ [])

abbrev vector_option : ReprData
vector_option = applied vector (option_tok ∷ [])

abbrev repeats_rows : List TypeRow
repeats_rows = (codes "A", vector_option) ∷ (codes "Z*", vector_option) ∷ (codes "Z", option_tok) ∷ (codes "\"Hi\"?", option_tok) ∷ []

repeats_had : AllHad repeats repeats_rows
repeats_had =
    let first : AllHad repeats ((codes "\"Hi\"?", option_tok) ∷ []) = (had_by repeats [] tt _ _ _ (inr (inr (inl refl))) (inl refl) refl, tt) in
    let second : AllHad repeats ((codes "Z", option_tok) ∷ (codes "\"Hi\"?", option_tok) ∷ []) =
    (had_by repeats ((codes "\"Hi\"?", option_tok) ∷ []) first _ _ _ (inr (inl refl)) (inl refl) refl, first) in
    let third : AllHad repeats ((codes "Z*", vector_option) ∷ (codes "Z", option_tok) ∷ (codes "\"Hi\"?", option_tok) ∷ []) =
    (had_by repeats ((codes "Z", option_tok) ∷ (codes "\"Hi\"?", option_tok) ∷ []) second _ _ _ (inr (inr (inr (inl refl)))) (inl refl) refl, second) in
    (had_by repeats ((codes "Z*", vector_option) ∷ (codes "Z", option_tok) ∷ (codes "\"Hi\"?", option_tok) ∷ []) third _ _ _ (inl refl) (inl refl) refl, third)

repeats_types : Typing repeats repeats_rows
repeats_types = typing repeats repeats_rows repeats_had
    ((refl, tt), ((refl, tt), ((refl, tt), ((refl, tt), tt)))) (refl, (refl, (refl, (refl, tt))))

-- `A = Spanned<"Foo">; Spanned<T> = { @L T @R };` beside `type Location = usize`: `(usize, Tok, usize)`.
abbrev instance_name : List ℕ
instance_name = codes "Spanned<\"Foo\">"

abbrev spanned : GrammarData
spanned = of_rules (extern_tokens (declares (codes "Location") (id (codes "usize")) ∷ []) (converts (quoted (codes "Foo")) [] ∷ []) ∷ [])
    (a_rule (codes "A") None (plain (nonterminal instance_name ∷ []) ∷ [])
    ∷ a_rule instance_name None (plain (nonterminal (codes "@L") ∷ literal (codes "Foo") ∷ nonterminal (codes "@R") ∷ []) ∷ [])
    ∷ a_rule (codes "@L") None (with_code (Some lookahead_code) [] ∷ [])
    ∷ a_rule (codes "@R") None (with_code (Some lookbehind_code) [] ∷ []) ∷ [])

abbrev usize : ReprData
usize = named_repr (codes "usize")

abbrev located : ReprData
located = tuple_of (usize ∷ tok ∷ usize ∷ [])

abbrev locations_rows : List TypeRow
locations_rows = (codes "@L", usize) ∷ (codes "@R", usize) ∷ []

locations_had : AllHad spanned locations_rows
locations_had = (had_by spanned [] tt _ _ usize (inr (inr (inl refl))) (inl refl) refl, (had_by spanned [] tt _ _ usize (inr (inr (inr (inl refl)))) (inl refl) refl, tt))

spanned_had : AllHad spanned ((instance_name, located) ∷ locations_rows)
spanned_had = (had_by spanned locations_rows locations_had _ _ _ (inr (inl refl)) (inl refl) refl, locations_had)

spanned_types : Typing spanned ((codes "A", located) ∷ (instance_name, located) ∷ locations_rows)
spanned_types = typing spanned ((codes "A", located) ∷ (instance_name, located) ∷ locations_rows)
    (had_by spanned ((instance_name, located) ∷ locations_rows) spanned_had _ _ _ (inl refl) (inl refl) refl, spanned_had)
    ((refl, tt), ((refl, tt), ((refl, tt), ((refl, tt), tt)))) (refl, (refl, (refl, (refl, tt))))

-- Internal tokens, `Z = !;`: `__lalrpop_util::ErrorRecovery<usize, Token<'input>, &'static str>`.
abbrev recovered : GrammarData
recovered = of_rules [] (a_rule (codes "Z") None (plain (error_terminal ∷ []) ∷ []) ∷ [])

abbrev recovery : ReprData
recovery = applied (codes "__lalrpop_util" ∷ codes "ErrorRecovery" ∷ []) (usize ∷ token_of_input ∷ static_str ∷ [])

recovered_types : Typing recovered ((codes "Z", recovery) ∷ [])
recovered_types = typing recovered ((codes "Z", recovery) ∷ [])
    (had_by recovered [] tt _ _ _ (inl refl) (inl refl) refl, tt) ((refl, tt), tt) (refl, tt)

-- `Foo: String = ..; Bar = "a" "b" "c"; Bam = "b" Bar;`: tuples in a tuple, and an empty alternative gives unit.
abbrev tuples : GrammarData
tuples = of_rules (tok_tokens (codes "a" ∷ codes "b" ∷ codes "c" ∷ []) ∷ [])
    (a_rule (codes "Foo") (Some (id (codes "String"))) (coded (codes "a + b") (nonterminal (codes "Bar") ∷ []) ∷ [])
    ∷ a_rule (codes "Bar") None (plain (literal (codes "a") ∷ literal (codes "b") ∷ literal (codes "c") ∷ []) ∷ [])
    ∷ a_rule (codes "Bam") None (plain (literal (codes "b") ∷ nonterminal (codes "Bar") ∷ []) ∷ [])
    ∷ a_rule (codes "Nil") None (plain [] ∷ []) ∷ [])

abbrev three_tok : ReprData
three_tok = tuple_of (tok ∷ tok ∷ tok ∷ [])

abbrev bar_rows : List TypeRow
bar_rows = (codes "Bar", three_tok) ∷ []

abbrev tuples_rows : List TypeRow
tuples_rows = (codes "Nil", unit_type) ∷ (codes "Foo", named_repr (codes "String")) ∷ (codes "Bam", tuple_of (tok ∷ three_tok ∷ [])) ∷ bar_rows

bar_had : AllHad tuples bar_rows
bar_had = (had_by tuples [] tt _ _ _ (inr (inl refl)) (inl refl) refl, tt)

tuples_types : Typing tuples tuples_rows
tuples_types = typing tuples tuples_rows (
  had_by tuples [] tt _ _ _ (inr (inr (inr (inl refl)))) (inl refl) refl,
  (
    had_by tuples [] tt _ _ _ (inl refl) (inl refl) refl,
    (had_by tuples bar_rows bar_had _ _ _ (inr (inr (inl refl))) (inl refl) refl, bar_had),
  ),
)
    ((refl, tt), ((refl, tt), ((refl, tt), ((refl, tt), tt)))) (refl, (refl, (refl, (refl, tt))))

-- Selected symbols alone are sources, and an alternative with code is none: `C = {"a" <"b">, "c" => ..}; D = <"a"> "b" <"c">;`.
abbrev choices : GrammarData
choices = of_rules (tok_tokens (codes "a" ∷ codes "b" ∷ codes "c" ∷ []) ∷ [])
    (a_rule (codes "C") None (plain (literal (codes "a") ∷ choose (literal (codes "b")) ∷ []) ∷ coded (codes "5") (literal (codes "c") ∷ literal (codes "c") ∷ []) ∷ [])
    ∷ a_rule (codes "D") None (plain (choose (literal (codes "a")) ∷ literal (codes "b") ∷ choose (literal (codes "c")) ∷ []) ∷ []) ∷ [])

choices_types : Typing choices ((codes "C", tok) ∷ (codes "D", tuple_of (tok ∷ tok ∷ [])) ∷ [])
choices_types = typing choices ((codes "C", tok) ∷ (codes "D", tuple_of (tok ∷ tok ∷ [])) ∷ [])
    (had_by choices [] tt _ _ _ (inl refl) (inl refl) refl, (had_by choices [] tt _ _ _ (inr (inl refl)) (inl refl) refl, tt))
    ((refl, tt), ((refl, tt), tt)) (refl, (refl, tt))

-- Conversions that choose types: `"n" => T(<i32>)`, then another of `"n"` that does not count, and `"p" => T(<i32>, <u8>)`.
abbrev conversions : GrammarData
conversions = of_rules (extern_tokens [] (converts (quoted (codes "n")) (id (codes "i32") ∷ []) ∷ converts (quoted (codes "n")) (id (codes "u8") ∷ [])
    ∷ converts (quoted (codes "p")) (id (codes "i32") ∷ id (codes "u8") ∷ []) ∷ []) ∷ [])
    (a_rule (codes "N") None (plain (literal (codes "n") ∷ []) ∷ []) ∷ a_rule (codes "P") None (plain (literal (codes "p") ∷ []) ∷ []) ∷ [])

abbrev conversions_rows : List TypeRow
conversions_rows = (codes "N", named_repr (codes "i32")) ∷ (codes "P", tuple_of (named_repr (codes "i32") ∷ named_repr (codes "u8") ∷ [])) ∷ []

conversions_types : Typing conversions conversions_rows
conversions_types = typing conversions conversions_rows
    (had_by conversions [] tt _ _ _ (inl refl) (inl refl) refl, (had_by conversions [] tt _ _ _ (inr (inl refl)) (inl refl) refl, tt))
    ((refl, tt), ((refl, tt), tt)) (refl, (refl, tt))
