-- Faults along a list are those at its indices, each by what is before it.
use Rattle.std.proofs.Common.{◌≡◌, ℕ, Bool, true, false, ◌||◌, ◌&&◌, List, [], ◌∷◌, ◌++◌, map, refl, ap, ap₂, ◌∙◌}
use Rattle.std.specs.Prelude.{not, bytes_eq, codes, if◌then◌else◌}
use Rattle.std.specs.List.{list_any}
use Rattle.lalrpop_norm_tree_names.specs.declared.names.Span.{Span}
use Rattle.lalrpop_norm_tree_parts.specs.Attributes.{AttributeData, Attributes, attribute, no_attributes, attribute_and}
use Rattle.lalrpop_norm_tree.specs.Items.{AssociatedTypeData, ItemData}
use Rattle.lalrpop_norm_tree.specs.LoweredTypes.{holds_symbol}
use Rattle.lalrpop_norm_faults.specs.declared.kind.FaultKind.TheVariants.{UnknownAssociatedType, RepeatedAssociatedType, UnknownRuleAttribute, RepeatedRuleAttribute, InlineOnPublic, WrittenOfSymbol}
use Rattle.lalrpop_norm_faults.specs.Faults.{fault_if}
use Rattle.lalrpop_norm_model.specs.Features.{is_one_of}
use Rattle.lalrpop_norm_model.specs.TokenFaults.{each_after}
use Rattle.lalrpop_norm_prevalidate.specs.declared.prevalidate.Surroundings.{Surroundings}
use Rattle.lalrpop_norm_prevalidate.specs.declared.prevalidate.Blocks.{Blocks}
use Rattle.lalrpop_norm_prevalidate_attributes.specs.CfgFaults.{cfg_faults}
use Rattle.lalrpop_norm_prevalidate.specs.GrammarFaults.{is_known_on_rule, attribute_name, attribute_list, rule_attribute_faults, attributes_faults, is_known_type, associated_faults, types_faults, is_match, is_extern, item_faults, items_faults}
use Rattle.lalrpop_norm_prevalidate.specs.Walks.{attributes_along, types_along, items_along}
use Rattle.lalrpop_norm_theory.proofs.BoolLemmas.{or_swap}

-- ---- names

or_turned : (a b : Bool) → (a || b) ≡ (b || a)
or_turned true true = refl
or_turned true false = refl
or_turned false true = refl
or_turned false false = refl

abbrev SameNames : List (List ℕ) → List (List ℕ) → Type 0
SameNames xs ys = (n : List ℕ) → is_one_of n xs ≡ is_one_of n ys

one_more : (n x : List ℕ) (xs : List (List ℕ)) → is_one_of n (xs ++ x ∷ []) ≡ (bytes_eq x n || is_one_of n xs)
one_more n x [] = refl
one_more n x (y ∷ xs) = ap (λ b. bytes_eq y n || b) (one_more n x xs) ∙ or_swap (bytes_eq y n) (bytes_eq x n) (is_one_of n xs)

same_more : (x : List ℕ) (xs ys : List (List ℕ)) → SameNames xs ys → SameNames (xs ++ x ∷ []) (x ∷ ys)
same_more x xs ys same n = one_more n x xs ∙ ap (λ b. bytes_eq x n || b) (same n)

-- ---- attributes of a rule

attribute_same : (public : Bool) (xs ys : List (List ℕ)) → SameNames xs ys → (a : AttributeData) → rule_attribute_faults public xs a ≡ rule_attribute_faults public ys a
unfolding rule_attribute_faults
attribute_same public xs ys same (attribute s n x) =
    ap (λ b. fault_if (not (is_known_on_rule n)) (UnknownRuleAttribute, s)
    ++ (fault_if b (RepeatedRuleAttribute, s)
    ++ (fault_if (bytes_eq n (codes "inline") && public) (InlineOnPublic, s)
    ++ (if bytes_eq n (codes "cfg") then cfg_faults s x else [])))) (same n)

attributes_from : (public : Bool) (names : List (List ℕ)) (before : List AttributeData) → SameNames names (map attribute_name before) → (xs : Attributes) →
    attributes_along public names xs ≡ each_after (λ b a. rule_attribute_faults public (map attribute_name b) a) before (attribute_list xs)
attributes_from public names before same no_attributes = refl
attributes_from public names before same (attribute_and a rest) =
    ap₂ ◌++◌ (attribute_same public names (map attribute_name before) same a)
    (attributes_from public (names ++ attribute_name a ∷ []) (a ∷ before) (same_more (attribute_name a) names (map attribute_name before) same) rest)

pub attributes_placed : (public : Bool) (xs : Attributes) → attributes_along public [] xs ≡ attributes_faults public xs
attributes_placed public xs = attributes_from public [] [] (λ n. refl) xs

-- ---- associated types

associated_same : (xs ys : List (List ℕ)) → SameNames xs ys → (t : AssociatedTypeData) → associated_faults xs t ≡ associated_faults ys t
unfolding associated_faults
associated_same xs ys same t =
    ap (λ b. fault_if (not (is_known_type t.type_name)) (UnknownAssociatedType, t.type_span)
    ++ (fault_if b (RepeatedAssociatedType, t.type_span)
    ++ fault_if (holds_symbol t.type_ref) (WrittenOfSymbol, t.type_span))) (same t.type_name)

types_from : (names : List (List ℕ)) (before : List AssociatedTypeData) → SameNames names (map (λ (t : AssociatedTypeData). t.type_name) before) → (ts : List AssociatedTypeData) →
    types_along names ts ≡ each_after (λ (b : List AssociatedTypeData) t. associated_faults (map (λ (u : AssociatedTypeData). u.type_name) b) t) before ts
types_from names before same [] = refl
types_from names before same (t ∷ ts) =
    ap₂ ◌++◌ (associated_same names (map (λ (u : AssociatedTypeData). u.type_name) before) same t)
    (types_from (names ++ t.type_name ∷ []) (t ∷ before) (same_more t.type_name names (map (λ (u : AssociatedTypeData). u.type_name) before) same) ts)

pub types_placed : (ts : List AssociatedTypeData) → types_along [] ts ≡ types_faults ts
types_placed ts = types_from [] [] (λ n. refl) ts

-- ---- items

module _ (c : Surroundings) (b : Blocks) (s : Span) where
  items_from : (m e : Bool) (before : List ItemData) → m ≡ list_any is_match before → e ≡ list_any is_extern before → (is : List ItemData) →
      items_along c b s m e is ≡ each_after (λ before i. item_faults c b s (list_any is_match before) (list_any is_extern before) i) before is
  items_from m e before f h [] = refl
  items_from m e before f h (i ∷ is) =
      ap₂ ◌++◌ (ap₂ (λ x y. item_faults c b s x y i) f h)
      (items_from (m || is_match i) (e || is_extern i) (i ∷ before)
      (or_turned m (is_match i) ∙ ap (λ x. is_match i || x) f) (or_turned e (is_extern i) ∙ ap (λ x. is_extern i || x) h) is)

  pub items_placed : (is : List ItemData) → items_along c b s false false is ≡ items_faults c b s is
  items_placed is = items_from false false [] refl refl is
