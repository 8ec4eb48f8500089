-- The meaning of small grammars: what trees see of a rule with levels, of other rules, and of macros.
use Rattle.std.proofs.Common.{◌≡◌, ℕ, List, [], ◌∷◌, refl}
use Rattle.std.specs.Prelude.{Option, Some, None, codes, map}
use Rattle.lalrpop_norm_tree.specs.Symbols as written
use Rattle.lalrpop_norm_tree.specs.Symbols.{Kind}
use Rattle.lalrpop_norm_tree.specs.Items.{AlternativeData, RuleData, GrammarData}
use Rattle.lalrpop_norm_theory.specs.Symbols.{Name, quoted, ClosedSymbol, ClosedSymbols, terminal, reference, call, group, star, lookahead, no_symbols, symbol_and, only}
use Rattle.lalrpop_norm_theory.specs.Meaning.{Meaning}
use Rattle.lalrpop_norm_model.specs.WrittenRules.{written_rules, leveled_rules, flat_rules}
use Rattle.lalrpop_norm_model.specs.Grammars.{meaning, references, roots}
use Rattle.lalrpop_norm_model.proofs.ExampleWords.{nowhere, precedence, assoc, if_f, without_f, literal, name, starred, here, symbols, alternative, rule, macro_rule, rules_alone, example_value, conditional_macro}

abbrev token : Name → ClosedSymbol
token a = terminal (quoted a)

abbrev e : ℕ → ClosedSymbol
e l = reference (codes "E") (Some l)

abbrev of_kinds : List Kind → AlternativeData
of_kinds ks = alternative nowhere [] (symbols ks)

-- ---- a rule with levels, and what else names it

-- E = { #[precedence(level="1")] "n", #[precedence(level="2")] #[assoc(side="left")] E "+" E }; S = E (E "x")*;
-- M<T> = T E; N<E> = E; P<P> = "p" P; Two<T> = T T;
abbrev sums : RuleData
sums = rule nowhere (codes "E")
    (alternative nowhere (precedence (codes "1") ∷ []) (symbols (literal (codes "n") ∷ []))
    ∷ (alternative nowhere (precedence (codes "2") ∷ (assoc (codes "left") ∷ [])) (symbols (name (codes "E") ∷ (literal (codes "+") ∷ (name (codes "E") ∷ []))))
    ∷ []))

abbrev grammar : GrammarData
grammar = rules_alone
    (sums
    ∷ (rule nowhere (codes "S") (of_kinds (name (codes "E") ∷ (starred (here (written.group (symbols (name (codes "E") ∷ (literal (codes "x") ∷ []))))) ∷ [])) ∷ [])
    ∷ (macro_rule nowhere (codes "M") (codes "T" ∷ []) (of_kinds (name (codes "T") ∷ (name (codes "E") ∷ [])) ∷ [])
    ∷ (macro_rule nowhere (codes "N") (codes "E" ∷ []) (of_kinds (name (codes "E") ∷ []) ∷ [])
    ∷ (macro_rule nowhere (codes "P") (codes "P" ∷ []) (of_kinds (literal (codes "p") ∷ (name (codes "P") ∷ [])) ∷ [])
    ∷ [])))))

abbrev of_levels : Meaning
of_levels = meaning example_value (leveled_rules grammar)

abbrev number : ClosedSymbols
number = only (token (codes "n"))

abbrev sum : ClosedSymbols
sum = symbol_and (e 2) (symbol_and (token (codes "+")) (only (e 1)))

-- what f says within no bound, the bounds 2 and 1, and one below all levels
abbrev by_bound : {A : Type 0} → (Option ℕ → A) → List A
by_bound f = f None ∷ (f (Some 2) ∷ (f (Some 1) ∷ (f (Some 0) ∷ [])))

number_within : by_bound (λ b. of_levels.reference_parts (codes "E") b 0) ≡ Some number ∷ (Some number ∷ (Some number ∷ (None ∷ [])))
number_within = refl

sum_within : by_bound (λ b. of_levels.reference_parts (codes "E") b 1) ≡ Some sum ∷ (Some sum ∷ (None ∷ (None ∷ [])))
sum_within = refl

no_third : by_bound (λ b. of_levels.reference_parts (codes "E") b 2) ≡ None ∷ (None ∷ (None ∷ (None ∷ [])))
no_third = refl

-- the alternatives of just the level of the bound
number_own : by_bound (λ b. of_levels.own_parts (codes "E") b 0) ≡ None ∷ (None ∷ (Some number ∷ (None ∷ [])))
number_own = refl

sum_own : by_bound (λ b. of_levels.own_parts (codes "E") b 1) ≡ Some sum ∷ (Some sum ∷ (None ∷ (None ∷ [])))
sum_own = refl

previous_bounds : by_bound (λ b. of_levels.previous (codes "E") b) ≡ Some (Some 1) ∷ (Some (Some 1) ∷ (None ∷ (None ∷ [])))
previous_bounds = refl

counts : of_levels.reference_count (codes "E") ∷ (of_levels.reference_count (codes "S") ∷ (of_levels.reference_count (codes "X") ∷ (of_levels.call_count (codes "M") ∷ [])))
    ≡ 2 ∷ (1 ∷ (0 ∷ (1 ∷ [])))
counts = refl

-- in another rule each reference has the highest level
other_rule : of_levels.reference_parts (codes "S") None 0 ≡ Some (symbol_and (e 2) (only (star (group (symbol_and (e 2) (only (token (codes "x"))))))))
other_rule = refl

other_rule_is_one_level : of_levels.own_parts (codes "S") None 0 ≡ of_levels.reference_parts (codes "S") None 0
other_rule_is_one_level = refl

no_level_below : of_levels.previous (codes "S") None ≡ None
no_level_below = refl

unknown_rule : of_levels.reference_parts (codes "X") None 0 ≡ None
unknown_rule = refl

-- a macro is no rule, and a rule no macro
macro_as_rule : of_levels.reference_parts (codes "M") None 0 ≡ None
macro_as_rule = refl

rule_as_macro : of_levels.call_parts (codes "S") no_symbols 0 ≡ None
rule_as_macro = refl

-- ---- calls

-- the argument stands for its name, and a reference in the body has the highest level
call_of_m : of_levels.call_parts (codes "M") (only (e 1)) 0 ≡ Some (symbol_and (e 1) (only (e 2)))
call_of_m = refl

-- an argument shadows the rule of its name, and its own macro
call_of_n : of_levels.call_parts (codes "N") (only lookahead) 0 ≡ Some (only lookahead)
call_of_n = refl

call_of_p : of_levels.call_parts (codes "P") (only (call (codes "P") (only (e 1)))) 0 ≡ Some (symbol_and (token (codes "p")) (only (call (codes "P") (only (e 1)))))
call_of_p = refl

-- with too few or too many arguments there is nothing
too_few : of_levels.call_parts (codes "M") no_symbols 0 ≡ None
too_few = refl

too_many : of_levels.call_parts (codes "M") (symbol_and lookahead (only lookahead)) 0 ≡ None
too_many = refl

-- an occurrence in an argument keeps its bound in the instance
-- Two<T> = T T; E = { #[precedence(level="1")] "n", #[precedence(level="2")] #[assoc(side="left")] Two<E> "+" E };
abbrev twice : Meaning
twice = meaning example_value (leveled_rules (rules_alone
    (macro_rule nowhere (codes "Two") (codes "T" ∷ []) (of_kinds (name (codes "T") ∷ (name (codes "T") ∷ [])) ∷ [])
    ∷ (rule nowhere (codes "E")
    (alternative nowhere (precedence (codes "1") ∷ []) (symbols (literal (codes "n") ∷ []))
    ∷ (alternative nowhere (precedence (codes "2") ∷ (assoc (codes "left") ∷ []))
    (symbols (written.call (codes "Two") (symbols (name (codes "E") ∷ [])) ∷ (literal (codes "+") ∷ (name (codes "E") ∷ [])))) ∷ []))
    ∷ []))))

twice_called : twice.reference_parts (codes "E") None 1 ≡ Some (symbol_and (call (codes "Two") (only (e 2))) (symbol_and (token (codes "+")) (only (e 1))))
twice_called = refl

twice_read : twice.call_parts (codes "Two") (only (e 2)) 0 ≡ Some (symbol_and (e 2) (only (e 2)))
twice_read = refl

-- ---- conditions

abbrev conditions : Meaning
conditions = meaning example_value (flat_rules (rules_alone (conditional_macro ∷ [])))

-- the alternatives of an instance, by their numbers in the macro
abbrev instance : ClosedSymbol → List (Option ClosedSymbols)
instance g = map (conditions.call_parts (codes "Expr") (only g)) (0 ∷ (1 ∷ (2 ∷ (3 ∷ []))))

abbrev is : Name → Option ClosedSymbols
is a = Some (only (token a))

instance_of_abc : instance (token (codes "ABC")) ≡ None ∷ (None ∷ (is (codes "C") ∷ (is (codes "D") ∷ [])))
instance_of_abc = refl

instance_of_aac : instance (token (codes "AAC")) ≡ None ∷ (is (codes "B") ∷ (is (codes "C") ∷ (None ∷ [])))
instance_of_aac = refl

instance_of_pattern : instance (token (codes "A*C")) ≡ is (codes "A") ∷ (None ∷ (None ∷ (is (codes "D") ∷ [])))
instance_of_pattern = refl

-- what is no quoted literal is left to the value of conditions, which is false here
instance_of_other : instance (star (token (codes "ABC"))) ≡ None ∷ (None ∷ (None ∷ (None ∷ [])))
instance_of_other = refl

-- ---- declared references

-- each level of a rule with levels, rising; one for each other rule; none for a macro
declared : references (leveled_rules grammar) ≡ e 1 ∷ (e 2 ∷ (reference (codes "S") None ∷ []))
declared = refl

declared_without_levels : references (flat_rules grammar) ≡ reference (codes "E") None ∷ (reference (codes "S") None ∷ [])
declared_without_levels = refl

rules_by_themselves : roots (leveled_rules grammar) ≡ reference (codes "E") None ∷ (reference (codes "S") None ∷ [])
rules_by_themselves = refl

-- ---- disabled alternatives

-- E = { #[precedence(level="1")] #[cfg(feature = "f")] "n", #[precedence(level="2")] "m", #[precedence(level="3")] E };
abbrev partly : Meaning
partly = meaning example_value (written_rules without_f (rules_alone
    (rule nowhere (codes "E")
    (alternative nowhere (precedence (codes "1") ∷ (if_f ∷ [])) (symbols (literal (codes "n") ∷ []))
    ∷ (alternative nowhere (precedence (codes "2") ∷ []) (symbols (literal (codes "m") ∷ []))
    ∷ (alternative nowhere (precedence (codes "3") ∷ []) (symbols (name (codes "E") ∷ [])) ∷ [])))
    ∷ [])))

-- the disabled alternative has no parts and no level, but keeps its number
disabled_parts : map (partly.reference_parts (codes "E") None) (0 ∷ (1 ∷ (2 ∷ []))) ≡ None ∷ (Some (only (token (codes "m"))) ∷ (Some (only (e 3)) ∷ []))
disabled_parts = refl

disabled_levels : map (partly.previous (codes "E")) (None ∷ (Some 2 ∷ [])) ≡ Some (Some 2) ∷ (None ∷ [])
disabled_levels = refl

disabled_counted : partly.reference_count (codes "E") ≡ 3
disabled_counted = refl
