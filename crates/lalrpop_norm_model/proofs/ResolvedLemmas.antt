-- Resolving names is idempotent.
use Rattle.std.proofs.Common.{◌≡◌, true, ℕ, List, [], ◌∷◌, ◌++◌, map, Option, Some, None, refl, ap, ap₂, ◌∙◌}
use Rattle.std.specs.Prelude.{flat_map}
use Rattle.lalrpop_norm_tree.specs.Symbols.{Kind, Parts, ambiguous_id}
use Rattle.lalrpop_norm_tree.specs.Items.{AlternativeData, ItemData, GrammarData, match_item, extern_item, intern_item, rule_item, use_item}
use Rattle.lalrpop_norm_model.specs.Scopes.{a_rule, a_macro, a_terminal, Global, Sense, an_argument, a_global, rule_globals, conversion_globals, match_globals, globals, sense_of, by_sense, resolved_leaf, resolved_kind, resolved_parts, resolved_alternative, resolved_item}
use Rattle.lalrpop_norm_model.specs.Laws.{ResolvedOnce}
use Rattle.lalrpop_norm_model.proofs.TraversalLemmas.{is_leaf, parts_kept}

module _ (sense : List ℕ → Option Sense) where
  name_once : (o : Option Sense) (n : List ℕ) → sense n ≡ o → resolved_kind sense (by_sense o n) ≡ by_sense o n
  name_once (Some an_argument) n e = refl
  name_once (Some (a_global a_rule)) n e = refl
  name_once (Some (a_global a_terminal)) n e = refl
  name_once (Some (a_global (a_macro k))) n e = ap (λ o. by_sense o n) e
  name_once None n e = ap (λ o. by_sense o n) e

  leaf_once : (k : Kind) → is_leaf k ≡ true → resolved_kind sense (resolved_leaf sense k) ≡ resolved_leaf sense k
  leaf_once (ambiguous_id a) h = name_once (sense a) a refl
  leaf_once _ h = cc h

  pub parts_once : (ps : Parts) → resolved_parts sense (resolved_parts sense ps) ≡ resolved_parts sense ps
  parts_once = parts_kept (resolved_leaf sense) (resolved_leaf sense) leaf_once

  alternatives_once : (xs : List AlternativeData) →
      map (resolved_alternative sense) (map (resolved_alternative sense) xs) ≡ map (resolved_alternative sense) xs
  alternatives_once [] = refl
  alternatives_once (a ∷ xs) = ap₂ (λ ps ys. record a { parts = ps } ∷ ys) (parts_once a.parts) (alternatives_once xs)

item_once : (ds : List Global) (i : ItemData) → resolved_item ds (resolved_item ds i) ≡ resolved_item ds i
item_once ds (rule_item r) = ap (λ xs. rule_item (record r { alternatives = xs })) (alternatives_once (sense_of ds r.args) r.alternatives)
item_once ds (match_item m) = refl
item_once ds (extern_item t) = refl
item_once ds (intern_item t) = refl
item_once ds (use_item u) = refl

items_once : (ds : List Global) (is : List ItemData) → map (resolved_item ds) (map (resolved_item ds) is) ≡ map (resolved_item ds) is
items_once ds [] = refl
items_once ds (i ∷ is) = ap₂ ◌∷◌ (item_once ds i) (items_once ds is)

-- what is the same of an item and the resolved one is the same of all of them
flat_resolved : (f : ItemData → List Global) (ds : List Global) → ((i : ItemData) → f (resolved_item ds i) ≡ f i) → (is : List ItemData) →
    flat_map f (map (resolved_item ds) is) ≡ flat_map f is
flat_resolved f ds same [] = refl
flat_resolved f ds same (i ∷ is) = ap₂ ◌++◌ (same i) (flat_resolved f ds same is)

same_rules : (ds : List Global) (i : ItemData) → rule_globals (resolved_item ds i) ≡ rule_globals i
same_rules ds (rule_item r) = refl
same_rules ds (match_item m) = refl
same_rules ds (extern_item t) = refl
same_rules ds (intern_item t) = refl
same_rules ds (use_item u) = refl

same_conversions : (ds : List Global) (i : ItemData) → conversion_globals (resolved_item ds i) ≡ conversion_globals i
same_conversions ds (rule_item r) = refl
same_conversions ds (match_item m) = refl
same_conversions ds (extern_item t) = refl
same_conversions ds (intern_item t) = refl
same_conversions ds (use_item u) = refl

same_matches : (ds : List Global) (i : ItemData) → match_globals (resolved_item ds i) ≡ match_globals i
same_matches ds (rule_item r) = refl
same_matches ds (match_item m) = refl
same_matches ds (extern_item t) = refl
same_matches ds (intern_item t) = refl
same_matches ds (use_item u) = refl

-- a resolved grammar defines the same names
pub same_globals : (ds : List Global) (g : GrammarData) → globals (record g { items = map (resolved_item ds) g.items }) ≡ globals g
same_globals ds g =
    ap₂ ◌++◌ (flat_resolved rule_globals ds (same_rules ds) g.items)
    (ap₂ ◌++◌ (flat_resolved conversion_globals ds (same_conversions ds) g.items) (flat_resolved match_globals ds (same_matches ds) g.items))

pub resolved_once : ResolvedOnce
resolved_once g =
    ap (λ ds. record g { items = map (resolved_item ds) (map (resolved_item (globals g)) g.items) }) (same_globals (globals g) g)
    ∙ ap (λ is. record g { items = is }) (items_once (globals g) g.items)
