-- The terminals that alternatives use, with their spans and without.
use Rattle.std.proofs.Common.{◌≡◌, List, [], ◌∷◌, ◌++◌, map, refl, sym, ap, ap₂, ◌∙◌}
use Rattle.std.specs.List.{flat_map}
use Rattle.std.proofs.lemmas.List.{map-append}
use Rattle.lalrpop_norm_tree_names.specs.declared.names.TerminalString.{TerminalString}
use Rattle.lalrpop_norm_tree.specs.Items.{AlternativeData, RuleData, ItemData, GrammarData}
use Rattle.lalrpop_norm_tree.specs.Symbols.{Parts, no_parts, part_and}
use Rattle.lalrpop_norm_theory.proofs.ListLemmas.{flat_append}
use Rattle.lalrpop_norm_model.specs.PlainRules.{rule_of_item, all_rules}
use Rattle.lalrpop_norm_model.specs.Terminals.{terminals_in, terminals_in_parts, terminals_in_rule, terminals_used}
use Rattle.lalrpop_norm_model.specs.TokenFaults.{places_in, places_in_parts, places_used}
use Rattle.lalrpop_norm_common.specs.Uses.{Use, places_in_alternatives, places_in_item}

uses_in : (items : List ItemData) →
    flat_map places_in_item items ≡ flat_map (λ (r : RuleData). places_in_alternatives r.alternatives) (flat_map rule_of_item items)
uses_in [] = refl
uses_in (i ∷ items) =
    ap (λ us. places_in_item i ++ us) (uses_in items)
    ∙ sym (flat_append (λ (r : RuleData). places_in_alternatives r.alternatives) (rule_of_item i) (flat_map rule_of_item items))

-- the terminals of the items are those that the grammar uses
pub uses_are : (g : GrammarData) → flat_map places_in_item g.items ≡ places_used g
uses_are g = uses_in g.items

terminals_are_parts : (ps : Parts) → terminals_in_parts ps ≡ map (λ (u : Use). u.0) (places_in_parts ps)
terminals_are_parts no_parts = refl
terminals_are_parts (part_and p ps) =
    ap (λ (xs : List TerminalString). terminals_in p ++ xs) (terminals_are_parts ps) ∙ sym (map-append (λ (u : Use). u.0) (places_in p) (places_in_parts ps))

flat_mapped : {A B C : Type 0} (f : A → List B) (h : A → List C) (v : C → B) → ((x : A) → f x ≡ map v (h x)) → (xs : List A) →
    flat_map f xs ≡ map v (flat_map h xs)
flat_mapped f h v e [] = refl
flat_mapped f h v e (x ∷ xs) = ap₂ (λ ys zs. ys ++ zs) (e x) (flat_mapped f h v e xs) ∙ sym (map-append v (h x) (flat_map h xs))

terminals_of : (rules : List RuleData) →
    flat_map terminals_in_rule rules ≡ map (λ (u : Use). u.0) (flat_map (λ (r : RuleData). places_in_alternatives r.alternatives) rules)
terminals_of rules =
    flat_mapped terminals_in_rule (λ (r : RuleData). places_in_alternatives r.alternatives) (λ (u : Use). u.0)
    (λ r. flat_mapped (λ (a : AlternativeData). terminals_in_parts a.parts) (λ (a : AlternativeData). places_in_parts a.parts) (λ (u : Use). u.0)
    (λ a. terminals_are_parts a.parts) r.alternatives) rules

-- the terminals used are those that have spans
pub terminals_are_used : (g : GrammarData) → terminals_used g ≡ map (λ (u : Use). u.0) (places_used g)
terminals_are_used g = terminals_of (all_rules g)
