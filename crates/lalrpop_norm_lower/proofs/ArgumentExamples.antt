-- Small alternatives: their sources, patterns, names and codes.
use Rattle.std.proofs.Common.{◌≡◌, ℕ, true, false, List, [], ◌∷◌, None, refl, codes}
use Rattle.std.specs.Fmt.{digits}
use Rattle.std.proofs.lemmas.List.Elements.{All-nil, All-cons}
use Rattle.lalrpop_norm_common.specs.Braces.{around_slot}
use Rattle.lalrpop_norm_tree_names.specs.declared.names.Span.{Span}
use Rattle.lalrpop_norm_tree_names.specs.declared.names.TerminalLiteral.TheVariants.{Quoted}
use Rattle.lalrpop_norm_tree_names.specs.declared.names.TerminalString.TheVariants.{Literal}
use Rattle.lalrpop_norm_tree_parts.specs.Reprs.{tuple, no_reprs, named_repr}
use Rattle.lalrpop_norm_tree.specs.Symbols.{one_name, several, no_arguments, argument_and, terminal, chosen, named, tupled, Part, at}
use Rattle.lalrpop_norm_lower.specs.Arguments.{patterns, names, IsFilled}
use Rattle.lalrpop_norm_lower_steps.specs.Code.{written_code}
use Rattle.lalrpop_norm_lower.specs.Sources.{plain_name}

here : Span
here = record { 0 = 0; 1 = 0 }

literal : List ℕ → Part
literal a = at here (terminal (Literal (Quoted a)))

picked : Part → Part
picked p = at here (chosen p)

-- `<"a"> "b" <"c">`
some_chosen : List Part
some_chosen = picked (literal (codes "a")) ∷ literal (codes "b") ∷ picked (literal (codes "c")) ∷ []

chosen_patterns : patterns (codes "__") some_chosen ≡ plain_name (codes "__0") ∷ plain_name (codes "_") ∷ plain_name (codes "__1") ∷ []
unfolding some_chosen picked literal here digits
chosen_patterns = refl

chosen_names : names (codes "__") some_chosen ≡ codes "__0" ∷ codes "__1" ∷ []
unfolding some_chosen picked literal here digits
chosen_names = refl

two_names : List (List ℕ)
two_names = codes "__0" ∷ codes "__1" ∷ []

abbrev Slotless : List ℕ → Type 0
Slotless p = around_slot p ≡ None

-- code `f(<>)` becomes `f(__0, __1)`
one_slot : IsFilled false two_names (codes "f(<>)") (codes "f(__0, __1)")
unfolding two_names
one_slot = record {
  first = codes "f(";
  others = codes ")" ∷ [];
  pieces = record { whole = refl; slotless = All-cons Slotless (codes "f(") (codes ")" ∷ []) refl (All-cons Slotless (codes ")") [] refl (All-nil Slotless)) };
  enough = refl;
  is = refl;
}

-- each `<>` of `g(<>) + h(<>)` becomes one name
two_slots : IsFilled false two_names (codes "g(<>) + h(<>)") (codes "g(__0) + h(__1)")
unfolding two_names
two_slots = record {
  first = codes "g(";
  others = codes ") + h(" ∷ codes ")" ∷ [];
  pieces = record {
    whole = refl;
    slotless = All-cons Slotless (codes "g(") (codes ") + h(" ∷ codes ")" ∷ []) refl (All-cons Slotless (codes ") + h(") (codes ")" ∷ []) refl (All-cons Slotless (codes ")") [] refl (All-nil Slotless)));
  };
  enough = refl;
  is = refl;
}

-- `<x:"a"> <mut y:"b">`
both_named : List Part
both_named = at here (named (record { mutable = false; name = codes "x" }) (literal (codes "a"))) ∷ at here (named (record { mutable = true; name = codes "y" }) (literal (codes "b"))) ∷ []

named_patterns : patterns (codes "__") both_named ≡ one_name (record { mutable = false; name = codes "x" }) ∷ one_name (record { mutable = true; name = codes "y" }) ∷ []
unfolding both_named literal here
named_patterns = refl

named_names : names (codes "__") both_named ≡ codes "x" ∷ codes "y" ∷ []
unfolding both_named literal here
named_names = refl

-- code `F { <> }` becomes `F { x, y }`, and with named symbols all names are in each `<>`
named_code : IsFilled true (codes "x" ∷ codes "y" ∷ []) (codes "F { <> }") (codes "F { x, y }")
named_code = record {
  first = codes "F { ";
  others = codes " }" ∷ [];
  pieces = record { whole = refl; slotless = All-cons Slotless (codes "F { ") (codes " }" ∷ []) refl (All-cons Slotless (codes " }") [] refl (All-nil Slotless)) };
  enough = refl;
  is = refl;
}

named_twice : IsFilled true (codes "x" ∷ codes "y" ∷ []) (codes "<>; <>") (codes "x, y; x, y")
named_twice = record {
  first = codes "";
  others = codes "; " ∷ codes "" ∷ [];
  pieces = record {
    whole = refl;
    slotless = All-cons Slotless (codes "") (codes "; " ∷ codes "" ∷ []) refl (All-cons Slotless (codes "; ") (codes "" ∷ []) refl (All-cons Slotless (codes "") [] refl (All-nil Slotless)));
  };
  enough = refl;
  is = refl;
}

-- `"k" <(a, b):"p">`: a tuple symbol is a source, and its name is its text
tuple_among : List Part
tuple_among = literal (codes "k") ∷ at here (tupled (argument_and (plain_name (codes "a")) (argument_and (plain_name (codes "b")) no_arguments)) (literal (codes "p"))) ∷ []

tuple_patterns : patterns (codes "__") tuple_among ≡ plain_name (codes "_") ∷ several (argument_and (plain_name (codes "a")) (argument_and (plain_name (codes "b")) no_arguments)) ∷ []
unfolding tuple_among literal here
tuple_patterns = refl

tuple_names : names (codes "__") tuple_among ≡ codes "(a, b)" ∷ []
unfolding tuple_among literal here
tuple_names = refl

-- without named or selected symbols each is a source
all_sources : patterns (codes "__") (literal (codes "a") ∷ literal (codes "b") ∷ []) ≡ plain_name (codes "__0") ∷ plain_name (codes "__1") ∷ []
unfolding literal here digits
all_sources = refl

-- absent action code: for the unit type, over one source, over two and over none
absent_unit : written_code (tuple no_reprs) two_names None ≡ codes "()"
unfolding two_names
absent_unit = refl

absent_one : written_code (named_repr (codes "T")) (codes "__0" ∷ []) None ≡ codes "<>"
absent_one = refl

absent_two : written_code (named_repr (codes "T")) two_names None ≡ codes "(<>)"
unfolding two_names
absent_two = refl

absent_none : written_code (named_repr (codes "T")) [] None ≡ codes "(<>)"
absent_none = refl

-- over no source the `<>` of `(<>)` is replaced by nothing
nothing_filled : IsFilled false [] (codes "(<>)") (codes "()")
nothing_filled = record {
  first = codes "(";
  others = codes ")" ∷ [];
  pieces = record { whole = refl; slotless = All-cons Slotless (codes "(") (codes ")" ∷ []) refl (All-cons Slotless (codes ")") [] refl (All-nil Slotless)) };
  enough = refl;
  is = refl;
}
