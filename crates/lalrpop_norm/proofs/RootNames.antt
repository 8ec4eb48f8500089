-- The names of rules that code lists are those at which trees may begin.
use Rattle.std.proofs.Common.{◌≡◌, inl, inr, Bool, true, false, List, [], ◌∷◌, ◌++◌, map, bytes_eq, refl, sym, ap, subst, ◌∙◌}
use Rattle.std.specs.Prelude.{◌||◌, not, flat_map, length, replicate, if◌then◌else◌, None}
use Rattle.std.specs.declared.cmp.Ordering.{Ordering}
use Rattle.std.specs.declared.cmp.Ordering.TheVariants.{Less, Equal, Greater}
use Rattle.std.specs.Ordering.{match_ordering}
use Rattle.std.specs.List.{list_any}
use Rattle.std.specs.BTreeSet.{insert_key}
use Rattle.std.proofs.lemmas.Map.Lookups.{exact_bytes}
use Rattle.lalrpop_norm_tree_names.specs.declared.names.NonterminalString.{NonterminalString}
use Rattle.lalrpop_norm_tree.specs.Accessors.{is_public}
use Rattle.lalrpop_norm_tree.specs.Items.{RuleData, ItemData, GrammarData, match_item, extern_item, intern_item, rule_item, use_item}
use Rattle.lalrpop_norm_theory.specs.Symbols.{Name, ClosedSymbol, reference}
use Rattle.lalrpop_norm_theory.specs.LoweredTrees.{from_start}
use Rattle.lalrpop_norm_theory.specs.Rounds.{In}
use Rattle.lalrpop_norm_theory.proofs.BoolLemmas.{or_swap, or_nothing, or_twice, or_moved}
use Rattle.lalrpop_norm_theory.proofs.SameLemmas.{text_sound, text_same}
use Rattle.lalrpop_norm_model.specs.Features.{Features, is_active}
use Rattle.lalrpop_norm_model.specs.Enabled.{enabled_places, enabled_rule, enabled_item, enabled_grammar}
use Rattle.lalrpop_norm_model.specs.Scopes.{Global, globals}
use Rattle.lalrpop_norm_model.specs.WrittenRules.{WrittenRule, written_rule_with_levels, rules_through, written_rules}
use Rattle.lalrpop_norm_model.specs.Grammars.{is_nil, rule_roots, roots}
use Rattle.lalrpop_norm_model.specs.PlainRules.{rule_of_item}
use Rattle.lalrpop_norm_lower.specs.Lowering.{public_rules_in}
use Rattle.lalrpop_norm_repr.specs.Orders.{name_cmp}
use Rattle.lalrpop_norm.specs.Roots.{plain_names, start_origins, with_rule_names}
use Rattle.lalrpop_norm.specs.WayBack.{AreRoots}

-- ---- a set of names

-- a test of the text of some name among these
abbrev any_text : (Name → Bool) → List NonterminalString → Bool
any_text p ns = list_any (λ (m : NonterminalString). p m.0) ns

any_at : (p : Name → Bool) (x : NonterminalString) (xs : List NonterminalString) (k : NonterminalString) (o : Ordering) → name_cmp k x ≡ o →
    any_text p (insert_key name_cmp xs k) ≡ (p k.0 || any_text p xs) →
    any_text p (match_ordering o (k ∷ x ∷ xs) (x ∷ xs) (x ∷ insert_key name_cmp xs k)) ≡ (p k.0 || (p x.0 || any_text p xs))
any_at p x xs k Less e deeper = refl
any_at p x xs k Equal e deeper = or_twice (p x.0) (any_text p xs) ∙ ap (λ (y : Name). p y || (p x.0 || any_text p xs)) (sym (exact_bytes k.0 x.0 e))
any_at p x xs k Greater e deeper = ap (λ b. p x.0 || b) deeper ∙ or_swap (p x.0) (p k.0) (any_text p xs)

any_insert : (p : Name → Bool) (keys : List NonterminalString) (k : NonterminalString) → any_text p (insert_key name_cmp keys k) ≡ (p k.0 || any_text p keys)
any_insert p [] k = refl
any_insert p (x ∷ xs) k = any_at p x xs k (name_cmp k x) refl (any_insert p xs k)

any_with : (p : Name → Bool) (keys ns : List NonterminalString) → any_text p (with_rule_names keys ns) ≡ (any_text p ns || any_text p keys)
any_with p keys [] = refl
any_with p keys (n ∷ ns) =
    any_with p (insert_key name_cmp keys n) ns ∙ ap (λ b. any_text p ns || b) (any_insert p keys n) ∙ or_moved (p n.0) (any_text p ns) (any_text p keys)

-- names added to none are those of the list
added_to_none : (p : Name → Bool) (ns : List NonterminalString) → any_text p (with_rule_names [] ns) ≡ any_text p ns
added_to_none p ns = any_with p [] ns ∙ or_nothing (any_text p ns)

pub with_both : (keys ns ms : List NonterminalString) → with_rule_names keys (ns ++ ms) ≡ with_rule_names (with_rule_names keys ns) ms
with_both keys [] ms = refl
with_both keys (n ∷ ns) ms = with_both (insert_key name_cmp keys n) ns ms

-- ---- the rules of a written grammar

abbrev as_root : NonterminalString → ClosedSymbol
as_root m = reference m.0 None

rule_root : (r : RuleData) (w : WrittenRule) → w.name ≡ r.name.0 → w.args ≡ r.args → (rs : List ClosedSymbol) (ns : List NonterminalString) → rs ≡ map as_root ns →
    rule_roots w ++ rs ≡ map as_root (plain_names (rule_item r) ++ ns)
rule_root r w named same rs ns h = rw (named, same) (by r.args)
  where
    by : (args : List NonterminalString) →
        (if not (is_nil args) then [] else reference r.name.0 None ∷ []) ++ rs ≡ map as_root ((if is_nil args then r.name ∷ [] else []) ++ ns)
    by [] = ap (λ (xs : List ClosedSymbol). reference r.name.0 None ∷ xs) h
    by (a ∷ args) = h

module _ (fs : Features) (ds : List Global) where
  abbrev taken : RuleData → List WrittenRule
  taken r = if is_active fs r.attributes then written_rule_with_levels ds r (enabled_places fs r) ∷ [] else []

  abbrev names_in : List ItemData → List NonterminalString
  names_in items = flat_map plain_names (flat_map (enabled_item fs) items)

  rule_taken : (r : RuleData) (items : List ItemData) (b : Bool) → roots (rules_through taken items) ≡ map as_root (names_in items) →
      flat_map rule_roots ((if b then written_rule_with_levels ds r (enabled_places fs r) ∷ [] else []) ++ rules_through taken items)
      ≡ map as_root (flat_map plain_names ((if b then rule_item (enabled_rule fs r) ∷ [] else []) ++ flat_map (enabled_item fs) items))
  rule_taken r items true h =
      rule_root (enabled_rule fs r) (written_rule_with_levels ds r (enabled_places fs r)) refl refl (roots (rules_through taken items)) (names_in items) h
  rule_taken r items false h = h

  roots_named : (items : List ItemData) → roots (rules_through taken items) ≡ map as_root (names_in items)
  roots_named [] = refl
  roots_named (rule_item r ∷ items) = rule_taken r items (is_active fs r.attributes) (roots_named items)
  roots_named (match_item m ∷ items) = roots_named items
  roots_named (extern_item t ∷ items) = roots_named items
  roots_named (intern_item t ∷ items) = roots_named items
  roots_named (use_item u ∷ items) = roots_named items

-- ---- start symbols

-- the origins of the start symbols of one item and of those behind it
pub starts_step : (x : ItemData) (items : List ItemData) → start_origins (x ∷ items) ≡ start_origins (x ∷ []) ++ start_origins items
starts_step (rule_item r) items = by (is_public r.visibility)
  where
    by : (b : Bool) → replicate (length (if b then r ∷ public_rules_in (flat_map rule_of_item items) else public_rules_in (flat_map rule_of_item items))) from_start
        ≡ replicate (length (if b then r ∷ [] else [])) from_start ++ start_origins items
    by true = refl
    by false = refl
starts_step (match_item m) items = refl
starts_step (extern_item t) items = refl
starts_step (intern_item t) items = refl
starts_step (use_item u) items = refl

-- ---- membership

any_root : (n : Name) (ns : List NonterminalString) → list_any (λ (m : NonterminalString). bytes_eq n m.0) ns ≡ true → In (reference n None) (map as_root ns)
any_root n [] h = absurd (cc h)
any_root n (m ∷ ns) h = by (bytes_eq n m.0) refl h (any_root n ns)
  where
    by : (b : Bool) → bytes_eq n m.0 ≡ b → (b || list_any (λ (k : NonterminalString). bytes_eq n k.0) ns) ≡ true →
        (list_any (λ (k : NonterminalString). bytes_eq n k.0) ns ≡ true → In (reference n None) (map as_root ns)) →
        In (reference n None) (map as_root (m ∷ ns))
    by true e f rest = inl (ap (λ (t : Name). reference t None) (text_sound n m.0 e))
    by false e f rest = inr (rest f)

root_any : (n : Name) (ns : List NonterminalString) → In (reference n None) (map as_root ns) → list_any (λ (m : NonterminalString). bytes_eq n m.0) ns ≡ true
root_any n [] h = absurd h
root_any n (m ∷ ns) (inl e) = let same : n ≡ m.0 = cc e in rw (sym same, text_same n) refl
root_any n (m ∷ ns) (inr h) = by (bytes_eq n m.0) (root_any n ns h)
  where
    by : (b : Bool) → list_any (λ (k : NonterminalString). bytes_eq n k.0) ns ≡ true → (b || list_any (λ (k : NonterminalString). bytes_eq n k.0) ns) ≡ true
    by true f = refl
    by false f = f

-- ---- the whole

-- the names of the enabled rules that are no macros, added one after another
pub are_roots : (fs : Features) (g : GrammarData) (keys : List NonterminalString) (is_rule : Name → Bool) →
    keys ≡ with_rule_names [] (flat_map plain_names (enabled_grammar fs g).items) →
    ((n : Name) → is_rule n ≡ list_any (λ (m : NonterminalString). bytes_eq n m.0) keys) → AreRoots fs g is_rule
are_roots fs g keys is_rule listed tells n =
    let names = flat_map plain_names (enabled_grammar fs g).items in
    let asked : is_rule n ≡ list_any (λ (m : NonterminalString). bytes_eq n m.0) names =
    tells n ∙ ap (λ (ks : List NonterminalString). list_any (λ (m : NonterminalString). bytes_eq n m.0) ks) listed ∙ added_to_none (bytes_eq n) names in
    let all : roots (written_rules fs g) ≡ map as_root names = roots_named fs (globals (enabled_grammar fs g)) g.items in (
      (λ yes. subst (λ (rs : List ClosedSymbol). In (reference n None) rs) (sym all) (any_root n names (sym asked ∙ yes))),
      (λ there. asked ∙ root_any n names (subst (λ (rs : List ClosedSymbol). In (reference n None) rs) all there)),
    )
