-- The names of attributes, one after the other.
use Rattle.std.proofs.Common.{◌≡◌, ◌∙◌, ℕ, Bool, true, List, [], ◌∷◌, ◌||◌, refl, sym, ap}
use Rattle.std.specs.Prelude.{fold}
use Rattle.std.specs.List.{list_any, AllByRecursion}
use Rattle.lalrpop_norm_tree_parts.specs.declared.attribute.Attribute.{Attribute}
use Rattle.lalrpop_norm_tree_parts.specs.Accessors.{is_known_name}
use Rattle.lalrpop_norm_tree_parts.specs.declared.attribute.AttributeArg.TheFolds.{fold_out-Attribute}
use Rattle.lalrpop_norm_tree_parts.specs.Attributes.{Argument, AttributeData, attribute, attribute_and, argument_step, attribute_step, argument_view, attribute_view, attributes_view}
use Rattle.lalrpop_norm_model.specs.Expanded.{is_known, all_known}
use Rattle.lalrpop_norm_lower_steps.specs.Algorithm.{attribute_names}
use Rattle.lalrpop_norm_theory.proofs.BoolLemmas.{both_true}

attribute_is : (a : Attribute) → attribute_view a ≡ attribute a.id_span a.id (argument_view a.arg)
attribute_is a = fold_out-Attribute Argument AttributeData argument_step attribute_step a

names_cons : (a : Attribute) (rest : List Attribute) → attribute_names (attributes_view (a ∷ rest)) ≡ a.id ∷ attribute_names (attributes_view rest)
names_cons a rest = ap (λ x. attribute_names (attribute_and x (attributes_view rest))) (attribute_is a)

pub known_each : (xs : List Attribute) → all_known (attributes_view xs) ≡ true → AllByRecursion (λ a. is_known_name a.id ≡ true) xs
known_each [] h = tt
known_each (a ∷ rest) h = let hs = both_true (is_known (attribute_view a)) (all_known (attributes_view rest)) h in (sym (ap is_known (attribute_is a)) ∙ hs.0, known_each rest hs.1)

pub names_any : (test : List ℕ → Bool) (xs : List Attribute) → list_any test (attribute_names (attributes_view xs)) ≡ list_any (λ a. test a.id) xs
names_any test [] = refl
names_any test (a ∷ rest) = ap (list_any test) (names_cons a rest) ∙ ap (λ b. test a.id || b) (names_any test rest)

pub names_fold : {C : Type 0} (f : C → List ℕ → C) (c : C) (xs : List Attribute) → fold f c (attribute_names (attributes_view xs)) ≡ fold (λ d a. f d a.id) c xs
names_fold f c [] = refl
names_fold f c (a ∷ rest) = ap (fold f c) (names_cons a rest) ∙ names_fold f (f c a.id) rest
