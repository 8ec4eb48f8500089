-- The errors of `expand_precedence` in small grammars, and what it makes of one.
use Rattle.std.proofs.Common.{◌≡◌, ℕ, List, [], ◌∷◌, refl}
use Rattle.std.specs.Prelude.{Some, codes}
use Rattle.std.specs.Fmt.{digits}
use Rattle.lalrpop_norm_tree_parts.specs.Attributes.{AttributeData}
use Rattle.lalrpop_norm_tree.specs.Symbols.{Kind}
use Rattle.lalrpop_norm_tree.specs.Items.{AlternativeData, RuleData}
use Rattle.lalrpop_norm_faults.specs.declared.kind.FaultKind.TheVariants.{MissingLevel, SideOnLowest, NameDeclaredTwice, NoDefinition, NotNonterminal}
use Rattle.lalrpop_norm_faults.specs.Faults.{first}
use Rattle.lalrpop_norm_model.specs.Scopes.{resolved_grammar}
use Rattle.lalrpop_norm_model.specs.LevelRules.{leveled_grammar}
use Rattle.lalrpop_norm_model.proofs.ExampleWords.{span, nowhere, precedence, assoc, literal, name, identifier, symbols, alternative, rule, macro_rule, rules_alone}
use Rattle.lalrpop_norm_resolve.specs.NameFaults.{id_faults, nonterminal_faults, alternative_name_faults}
use Rattle.lalrpop_norm_precedence_steps.specs.LevelFaults.{level_attribute_faults, lowest_faults}
use Rattle.lalrpop_norm_precedence.specs.PrecedenceFaults.{precedence_faults}

abbrev one_of : List AttributeData → Kind → AlternativeData
one_of xs k = alternative nowhere xs (symbols (k ∷ []))

abbrev at_level : List ℕ → Kind → AlternativeData
at_level l k = one_of (precedence l ∷ []) k

-- ---- levels by their numbers
-- E = { #[precedence(level="10")] "n", #[precedence(level="+02")] "m" };

abbrev by_number : RuleData
by_number = rule nowhere (codes "E") (at_level (codes "10") (literal (codes "n")) ∷ (at_level (codes "+02") (literal (codes "m")) ∷ []))

by_number_sound : precedence_faults (rules_alone (by_number ∷ [])) ≡ []
unfolding digits alternative_name_faults nonterminal_faults level_attribute_faults lowest_faults
by_number_sound = refl

by_number_leveled : leveled_grammar (resolved_grammar (rules_alone (by_number ∷ [])))
    ≡ rules_alone (rule nowhere (codes "E2") (one_of [] (literal (codes "m")) ∷ [])
    ∷ (rule nowhere (codes "E") (one_of [] (literal (codes "n")) ∷ (one_of [] (name (codes "E2")) ∷ [])) ∷ []))
unfolding digits
by_number_leveled = refl

-- ---- a taken name of a level
-- E = { #[precedence(level="1")] "n", #[precedence(level="2")] "m" }; E1 = { "o" }; the later one is named

abbrev two_levels : RuleData
two_levels = rule (span 1 2) (codes "E") (at_level (codes "1") (literal (codes "n")) ∷ (at_level (codes "2") (literal (codes "m")) ∷ []))

abbrev taking : RuleData
taking = rule (span 3 5) (codes "E1") (one_of [] (literal (codes "o")) ∷ [])

taken_after : precedence_faults (rules_alone (two_levels ∷ (taking ∷ []))) ≡ (NameDeclaredTwice, span 3 5) ∷ []
unfolding digits alternative_name_faults nonterminal_faults level_attribute_faults lowest_faults
taken_after = refl

taken_before : precedence_faults (rules_alone (taking ∷ (two_levels ∷ []))) ≡ (NameDeclaredTwice, span 1 2) ∷ []
unfolding digits alternative_name_faults nonterminal_faults level_attribute_faults lowest_faults
taken_before = refl

-- ---- macros
-- M<A> = { #[precedence(level="1")] "n", #[precedence(level="2")] "m" }: two levels, whatever the argument's name is

abbrev macro_of : List ℕ → RuleData
macro_of a = macro_rule (span 7 8) (codes "M") (a ∷ []) (at_level (codes "1") (literal (codes "n")) ∷ (at_level (codes "2") (literal (codes "m")) ∷ []))

two_levels_of_macro : precedence_faults (rules_alone (macro_of (codes "T") ∷ [])) ≡ (NotNonterminal, span 7 8) ∷ []
unfolding digits alternative_name_faults nonterminal_faults level_attribute_faults lowest_faults
two_levels_of_macro = refl

-- an argument with the name of a level
argument_of_level : precedence_faults (rules_alone (macro_of (codes "M1") ∷ [])) ≡ (NotNonterminal, span 7 8) ∷ []
unfolding digits alternative_name_faults nonterminal_faults level_attribute_faults lowest_faults
argument_of_level = refl

-- a macro with one level is none of them
one_level_of_macro : precedence_faults (rules_alone (macro_rule nowhere (codes "M") (codes "T" ∷ []) (at_level (codes "1") (literal (codes "n")) ∷ []) ∷ [])) ≡ []
unfolding digits alternative_name_faults nonterminal_faults level_attribute_faults lowest_faults
one_level_of_macro = refl

-- ---- levels and associativities
-- E = { #[precedence(level="1")] #[assoc(side="all")] "n" }: an associativity on the lowest level

side_on_lowest : precedence_faults (rules_alone (rule nowhere (codes "E") (one_of (precedence (codes "1") ∷ (assoc (codes "all") ∷ [])) (literal (codes "n")) ∷ []) ∷ []))
    ≡ (SideOnLowest, nowhere) ∷ []
unfolding digits alternative_name_faults nonterminal_faults level_attribute_faults lowest_faults
side_on_lowest = refl

-- of the three lists the first one counts: `A` means nothing, and E has no level in its first alternative
unknown_first : first (precedence_faults (rules_alone (rule nowhere (codes "E")
    (alternative (span 2 3) [] (symbols (identifier (codes "A") ∷ [])) ∷ (at_level (codes "2") (literal (codes "m")) ∷ [])) ∷ [])))
    ≡ Some (NoDefinition, nowhere)
unfolding digits alternative_name_faults nonterminal_faults id_faults level_attribute_faults lowest_faults
unknown_first = refl

missing_next : first (precedence_faults (rules_alone (rule nowhere (codes "E")
    (alternative (span 2 3) [] (symbols (literal (codes "n") ∷ [])) ∷ (at_level (codes "2") (literal (codes "m")) ∷ [])) ∷ [])))
    ≡ Some (MissingLevel, span 2 3)
unfolding digits alternative_name_faults nonterminal_faults id_faults level_attribute_faults lowest_faults
missing_next = refl
