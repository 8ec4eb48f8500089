-- Which symbols of small rules have names with a meaning of the right kind.
use Rattle.std.proofs.Common.{◌≡◌, inl, List, [], ◌∷◌, refl}
use Rattle.std.specs.Prelude.{Bool, true, false, codes, map}
use Rattle.lalrpop_norm_tree.specs.Symbols.{Kind, group, call, chosen, tupled, no_arguments, lookahead, lookbehind, error_terminal}
use Rattle.lalrpop_norm_model.specs.WrittenRules.{WrittenRule, leveled_rules}
use Rattle.lalrpop_norm_model.specs.Scoped.{are_scoped, NamesAreScoped}
use Rattle.lalrpop_norm_model.proofs.ExampleWords.{nowhere, rule_name, literal, name, identifier, bare, starred, name_before, here, symbols, alternative, rule, macro_rule, rules_alone}

-- E = "e"; M<T> = T; Two<T,U> = T U;
abbrev rules : List WrittenRule
rules = leveled_rules (rules_alone
    (rule nowhere (codes "E") (alternative nowhere [] (symbols (literal (codes "e") ∷ [])) ∷ [])
    ∷ (macro_rule nowhere (codes "M") (codes "T" ∷ []) (alternative nowhere [] (symbols (name (codes "T") ∷ [])) ∷ [])
    ∷ (macro_rule nowhere (codes "Two") (codes "T" ∷ (codes "U" ∷ [])) (alternative nowhere [] (symbols (name (codes "T") ∷ (name (codes "U") ∷ []))) ∷ []) ∷ []))))

-- in a rule with the argument A
abbrev scoped : Kind → Bool
scoped k = are_scoped rules (rule_name (codes "A") ∷ []) (symbols (k ∷ []))

abbrev each : List Kind → List Bool
each ks = map scoped ks

-- an argument, a rule; a macro, a name without a definition, an argument of another macro
names : each (name (codes "A") ∷ (name (codes "E") ∷ (name (codes "M") ∷ (name (codes "X") ∷ (name (codes "T") ∷ [])))))
    ≡ true ∷ (true ∷ (false ∷ (false ∷ (false ∷ []))))
names = refl

-- an identifier that is left open, whatever it is
identifiers : each (identifier (codes "A") ∷ (identifier (codes "E") ∷ [])) ≡ false ∷ (false ∷ [])
identifiers = refl

no_names : each (literal (codes "X") ∷ (bare (codes "X") ∷ (lookahead ∷ (lookbehind ∷ (error_terminal ∷ (group (symbols []) ∷ []))))))
    ≡ true ∷ (true ∷ (true ∷ (true ∷ (true ∷ (true ∷ [])))))
no_names = refl

-- M<E>, M<>, M<E, E>, Two<A, E>
numbers_of_arguments : each (call (codes "M") (symbols (name (codes "E") ∷ [])) ∷ (call (codes "M") (symbols [])
    ∷ (call (codes "M") (symbols (name (codes "E") ∷ (name (codes "E") ∷ []))) ∷ (call (codes "Two") (symbols (name (codes "A") ∷ (name (codes "E") ∷ []))) ∷ []))))
    ≡ true ∷ (false ∷ (false ∷ (true ∷ [])))
numbers_of_arguments = refl

-- E<E>, A<E>, X<E>: a rule, an argument and nothing are called
called : each (call (codes "E") (symbols (name (codes "E") ∷ [])) ∷ (call (codes "A") (symbols (name (codes "E") ∷ [])) ∷ (call (codes "X") (symbols (name (codes "E") ∷ [])) ∷ [])))
    ≡ false ∷ (false ∷ (false ∷ []))
called = refl

-- an argument shadows the macro of its name, as a name and as a call
shadowed : are_scoped rules (rule_name (codes "M") ∷ []) (symbols (name (codes "M") ∷ [])) ≡ true
shadowed = refl

shadowed_call : are_scoped rules (rule_name (codes "M") ∷ []) (symbols (call (codes "M") (symbols (name (codes "E") ∷ [])) ∷ [])) ≡ false
shadowed_call = refl

-- names inside of symbols count
inside : each (starred (here (group (symbols (name (codes "E") ∷ (name (codes "X") ∷ [])))))
    ∷ (chosen (here (name (codes "X"))) ∷ (name_before (codes "E") (here (name (codes "X"))) ∷ (tupled no_arguments (here (name (codes "X")))
    ∷ (call (codes "Two") (symbols (name (codes "E") ∷ (name (codes "X") ∷ []))) ∷ [])))))
    ≡ false ∷ (false ∷ (false ∷ (false ∷ (false ∷ []))))
inside = refl

-- rules in which one name has no meaning
abbrev open_rules : List WrittenRule
open_rules = leveled_rules (rules_alone (rule nowhere (codes "E") (alternative nowhere [] (symbols (name (codes "X") ∷ [])) ∷ []) ∷ []))

open_rules_are_not : NamesAreScoped open_rules → ⊥
open_rules_are_not h = let e : false ≡ true = h _ _ (inl refl) (inl refl) in cc e
