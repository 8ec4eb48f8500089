-- The enabled grammar of small grammars: numbers of alternatives stay, rules of one name take turns.
use Rattle.std.proofs.Common.{◌≡◌, [], ◌∷◌, refl}
use Rattle.std.specs.Prelude.{Some, None, codes}
use Rattle.lalrpop_norm_tree_names.specs.declared.names.TerminalString.TheVariants.{Bare}
use Rattle.lalrpop_norm_tree_parts.specs.Attributes.{attributes_of}
use Rattle.lalrpop_norm_tree.specs.Items.{AlternativeData, RuleData, ConversionData, GrammarData, rule_item, extern_item, use_item}
use Rattle.lalrpop_norm_model.specs.Enabled.{enabled_places, all_places, enabled_rule, enabled_item, enabled_grammar}
use Rattle.lalrpop_norm_model.proofs.ExampleWords.{span, if_f, unless_f, without_f, with_f, literal, symbols, alternative, rule, conversion, extern_of, grammar_of, rules_alone}

-- E = { #[cfg(feature = "f")] "n", "m", #[cfg(not(feature = "f"))] "k" };
abbrev n_alternative : AlternativeData
n_alternative = alternative (span 6 31) (if_f ∷ []) (symbols (literal (codes "n") ∷ []))

abbrev m_alternative : AlternativeData
m_alternative = alternative (span 33 36) [] (symbols (literal (codes "m") ∷ []))

abbrev k_alternative : AlternativeData
k_alternative = alternative (span 38 68) (unless_f ∷ []) (symbols (literal (codes "k") ∷ []))

abbrev three : RuleData
three = rule (span 0 71) (codes "E") (n_alternative ∷ (m_alternative ∷ (k_alternative ∷ [])))

-- a disabled first alternative leaves the numbers of the others
first_disabled : enabled_places without_f three ≡ None ∷ (Some m_alternative ∷ (Some k_alternative ∷ []))
first_disabled = refl

last_disabled : enabled_places with_f three ≡ Some n_alternative ∷ (Some m_alternative ∷ (None ∷ []))
last_disabled = refl

numbers_do_not_close_up : enabled_places without_f three ≡ Some m_alternative ∷ (Some k_alternative ∷ []) → ⊥
numbers_do_not_close_up h = cc h

-- where attributes are not read, each alternative is there
none_disabled : all_places three ≡ Some n_alternative ∷ (Some m_alternative ∷ (Some k_alternative ∷ []))
none_disabled = refl

-- the enabled rule lists what is left, its attributes as they were
rule_without_f : enabled_rule without_f three ≡ rule (span 0 71) (codes "E") (m_alternative ∷ (k_alternative ∷ []))
rule_without_f = refl

-- two rules of one name, one with f and one without
abbrev e_with_f : RuleData
e_with_f = record (rule (span 0 30) (codes "E") (m_alternative ∷ [])) { attributes = attributes_of (if_f ∷ []) }

abbrev e_without_f : RuleData
e_without_f = record (rule (span 31 60) (codes "E") (m_alternative ∷ [])) { attributes = attributes_of (unless_f ∷ []) }

abbrev in_turn : GrammarData
in_turn = rules_alone (e_with_f ∷ (e_without_f ∷ []))

first_in_turn : enabled_grammar with_f in_turn ≡ rules_alone (e_with_f ∷ [])
first_in_turn = refl

second_in_turn : enabled_grammar without_f in_turn ≡ rules_alone (e_without_f ∷ [])
second_in_turn = refl

-- a rule whose alternatives are all disabled stays, with none
abbrev only_n : RuleData
only_n = rule (span 0 40) (codes "E") (n_alternative ∷ [])

empty_rule_stays : enabled_grammar without_f (rules_alone (only_n ∷ [])) ≡ rules_alone (rule (span 0 40) (codes "E") [] ∷ [])
empty_rule_stays = refl

rule_is_not_dropped : enabled_item without_f (rule_item only_n) ≡ [] → ⊥
rule_is_not_dropped h = cc h

-- of an extern block the conversions that are on; other items stay
abbrev always : ConversionData
always = conversion (span 0 8) [] (Bare (codes "A"))

abbrev sometimes : ConversionData
sometimes = conversion (span 9 17) (if_f ∷ []) (Bare (codes "B"))

abbrev tokens : GrammarData
tokens = grammar_of (use_item (codes "std::fmt") ∷ (extern_item (extern_of (sometimes ∷ (always ∷ []))) ∷ []))

conversion_on : enabled_grammar with_f tokens ≡ tokens
conversion_on = refl

conversion_off : enabled_grammar without_f tokens ≡
    grammar_of (use_item (codes "std::fmt") ∷ (extern_item (extern_of (always ∷ [])) ∷ []))
conversion_off = refl
