-- What is resolved has no name fault.
use Rattle.std.proofs.Common.{◌≡◌, ℕ, suc, List, [], ◌∷◌, ◌++◌, Option, Some, None, map, refl, ap, ◌∙◌}
use Rattle.std.specs.Prelude.{flat_map}
use Rattle.lalrpop_norm_tree_names.specs.declared.names.Span.{Span}
use Rattle.lalrpop_norm_tree.specs.Symbols.{Kind, Part, Parts, group, ambiguous_id, nonterminal, call, repeated, chosen, named, tupled, at, no_parts, part_and}
use Rattle.lalrpop_norm_tree.specs.Items.{AlternativeData, ItemData, GrammarData, match_item, extern_item, intern_item, rule_item, use_item}
use Rattle.lalrpop_norm_model.specs.Scopes.{a_rule, a_macro, a_terminal, Global, globals, Sense, an_argument, a_global, by_sense, sense_of, resolved_kind, resolved_part, resolved_parts, resolved_alternative, resolved_item, resolved_grammar}
use Rattle.lalrpop_norm_model.proofs.ResolvedLemmas.{same_globals}
use Rattle.lalrpop_norm_resolve.specs.NameFaults.{repeated_faults, repeated_argument_faults, condition_faults, id_faults, nonterminal_faults, macro_name_faults, parts_count, kind_name_faults, part_name_faults, parts_name_faults, alternative_name_faults, item_name_faults, resolve_faults}
use Rattle.lalrpop_norm_faults.proofs.FaultLemmas.{left_none, right_none, both_none}

module _ (sense : List ℕ → Option Sense) where
  id_gone : (s : Span) (a : List ℕ) (o : Option Sense) → sense a ≡ o → id_faults s o ≡ [] → kind_name_faults sense s (by_sense o a) ≡ []
  unfolding id_faults nonterminal_faults
  id_gone s a None e h = cc
  id_gone s a (Some an_argument) e h = ap (λ o. nonterminal_faults s o) e
  id_gone s a (Some (a_global a_rule)) e h = ap (λ o. nonterminal_faults s o) e
  id_gone s a (Some (a_global a_terminal)) e h = refl
  id_gone s a (Some (a_global (a_macro n))) e h = cc

  same_count : (ps : Parts) → parts_count (resolved_parts sense ps) ≡ parts_count ps
  same_count no_parts = refl
  same_count (part_and p ps) = ap suc (same_count ps)

  mutual
    kind_gone : (s : Span) (k : Kind) → kind_name_faults sense s k ≡ [] → kind_name_faults sense s (resolved_kind sense k) ≡ []
    kind_gone s (group ps) h = parts_gone ps h
    kind_gone s (ambiguous_id a) h = id_gone s a (sense a) refl h
    kind_gone s (nonterminal n) h = h
    kind_gone s (call n ps) h =
        both_none _ _ (ap (λ c. macro_name_faults s c (sense n)) (same_count ps) ∙ left_none (macro_name_faults s (parts_count ps) (sense n)) (parts_name_faults sense ps) h)
        (parts_gone ps (right_none (macro_name_faults s (parts_count ps) (sense n)) (parts_name_faults sense ps) h))
    kind_gone s (repeated op p) h = part_gone p h
    kind_gone s (chosen p) h = part_gone p h
    kind_gone s (named n p) h = part_gone p h
    kind_gone s (tupled ns p) h = part_gone p h
    kind_gone s _ h = refl

    part_gone : (p : Part) → part_name_faults sense p ≡ [] → part_name_faults sense (resolved_part sense p) ≡ []
    part_gone (at s k) h = kind_gone s k h

    parts_gone : (ps : Parts) → parts_name_faults sense ps ≡ [] → parts_name_faults sense (resolved_parts sense ps) ≡ []
    parts_gone no_parts h = refl
    parts_gone (part_and p ps) h =
        both_none _ _ (part_gone p (left_none (part_name_faults sense p) (parts_name_faults sense ps) h)) (parts_gone ps (right_none (part_name_faults sense p) (parts_name_faults sense ps) h))

  alternatives_gone : (xs : List AlternativeData) → flat_map (alternative_name_faults sense) xs ≡ [] →
      flat_map (alternative_name_faults sense) (map (resolved_alternative sense) xs) ≡ []
  unfolding alternative_name_faults
  alternatives_gone [] h = refl
  alternatives_gone (a ∷ xs) h =
      let tested = condition_faults sense a.condition in
      let here = left_none (tested ++ parts_name_faults sense a.parts) (flat_map (alternative_name_faults sense) xs) h in
      both_none _ _ (both_none _ _ (left_none tested (parts_name_faults sense a.parts) here) (parts_gone a.parts (right_none tested (parts_name_faults sense a.parts) here)))
      (alternatives_gone xs (right_none (tested ++ parts_name_faults sense a.parts) (flat_map (alternative_name_faults sense) xs) h))

module _ (ds : List Global) where
  item_gone : (i : ItemData) → item_name_faults ds i ≡ [] → item_name_faults ds (resolved_item ds i) ≡ []
  item_gone (rule_item r) h =
      let faults = flat_map (alternative_name_faults (sense_of ds r.args)) r.alternatives in
      both_none _ _ (left_none (repeated_argument_faults r.span r.args) faults h)
      (alternatives_gone (sense_of ds r.args) r.alternatives (right_none (repeated_argument_faults r.span r.args) faults h))
  item_gone (match_item m) h = refl
  item_gone (extern_item t) h = refl
  item_gone (intern_item t) h = refl
  item_gone (use_item u) h = refl

  items_gone : (is : List ItemData) → flat_map (item_name_faults ds) is ≡ [] → flat_map (item_name_faults ds) (map (resolved_item ds) is) ≡ []
  items_gone [] h = refl
  items_gone (i ∷ is) h =
      both_none _ _ (item_gone i (left_none (item_name_faults ds i) (flat_map (item_name_faults ds) is) h)) (items_gone is (right_none (item_name_faults ds i) (flat_map (item_name_faults ds) is) h))

pub faults_gone : (g : GrammarData) → resolve_faults g ≡ [] → resolve_faults (resolved_grammar g) ≡ []
faults_gone g h =
    let ds = globals g in
    let named_twice = repeated_faults [] ds in
    let is = map (resolved_item ds) g.items in
    ap (λ es. repeated_faults [] es ++ flat_map (item_name_faults es) is) (same_globals ds g)
    ∙ both_none _ _ (left_none named_twice (flat_map (item_name_faults ds) g.items) h) (items_gone ds g.items (right_none named_twice (flat_map (item_name_faults ds) g.items) h))
