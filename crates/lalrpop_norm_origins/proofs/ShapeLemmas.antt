-- The lists that the passes answer have their shape: one list for each rule, and in it one origin for each alternative.
use Rattle.std.proofs.Common.{◌≡◌, inl, inr, suc, List, [], ◌∷◌, ◌++◌, length, map, Bool, true, false, refl, sym, ap, ◌∙◌, subst, arith}
use Rattle.std.specs.Prelude.{ℕ, flat_map, Option, Some, None, option_map, if◌then◌else◌}
use Rattle.std.proofs.lemmas.List.{length-map, map-append}
use Rattle.lalrpop_norm_tree_names.specs.declared.names.Span.{Span}
use Rattle.lalrpop_norm_tree.specs.declared.symbol.RepeatOp.TheVariants.{Star, Plus, Question, Times}
use Rattle.lalrpop_norm_tree.specs.Symbols.{Part, Parts, group, call, repeated, lookahead, lookbehind, at}
use Rattle.lalrpop_norm_tree.specs.Items.{AlternativeData, RuleData, ItemData, GrammarData, rule_item, match_item, extern_item, intern_item, use_item}
use Rattle.lalrpop_norm_theory.specs.Symbols.{Name}
use Rattle.lalrpop_norm_theory.specs.LoweredTrees.{Origin}
use Rattle.lalrpop_norm_theory.specs.Rounds.{In}
use Rattle.lalrpop_norm_model.specs.Features.{Features, is_active}
use Rattle.lalrpop_norm_model.specs.Enabled.{present, enabled_places, enabled_rule, enabled_item, enabled_grammar}
use Rattle.lalrpop_norm_model.specs.Scopes.{Global, sense_of, resolved_alternative, resolved_item}
use Rattle.lalrpop_norm_model.specs.Grammars.{ConditionValue, is_nil, is_true}
use Rattle.lalrpop_norm_model.specs.Reading.{read_all}
use Rattle.lalrpop_norm_model.specs.MadeRules.{flat_reader, argument_kind, instance_alternative, instance_alternatives, instance_of, macro_named, made_rules}
use Rattle.lalrpop_norm_model.specs.PlainRules.{replaced_alternative, replaced_rule, rule_of_item, macros_of, made_symbols, plain_item, plain_grammar}
use Rattle.lalrpop_norm_model.proofs.MadeReadLemmas.{macros_in}
use Rattle.lalrpop_norm_origins.specs.Shapes.{IsShaped}
use Rattle.lalrpop_norm_origins.specs.EnabledOrigins.{places_from, enabled_rule_origins, enabled_item_origins, enabled_origins}
use Rattle.lalrpop_norm_origins.specs.MadeOrigins.{TracedRule, traced_rules, plain_list, traced_macro, kept_origins, instance_origins, made_origins, expanded_lists}
use Rattle.lalrpop_norm_origins.proofs.PairedLists.{rule_of_pair, macro_found, macro_listed}

shaped_both : (xs ys : List ItemData) (oss pss : List (List Origin)) → IsShaped xs oss → IsShaped ys pss → IsShaped (xs ++ ys) (oss ++ pss)
shaped_both [] ys [] pss h k = k
shaped_both [] ys (os ∷ oss) pss h k = absurd h
shaped_both (rule_item r ∷ xs) ys [] pss h k = absurd h
shaped_both (rule_item r ∷ xs) ys (os ∷ oss) pss h k = (h.0, shaped_both xs ys oss pss h.1 k)
shaped_both (match_item m ∷ xs) ys oss pss h k = shaped_both xs ys oss pss h k
shaped_both (extern_item t ∷ xs) ys oss pss h k = shaped_both xs ys oss pss h k
shaped_both (intern_item t ∷ xs) ys oss pss h k = shaped_both xs ys oss pss h k
shaped_both (use_item u ∷ xs) ys oss pss h k = shaped_both xs ys oss pss h k

-- ---- enabled rules

places_long : {A : Type 0} (n : Name) (k : ℕ) (ps : List (Option A)) → length (present ps) ≡ length (places_from n k ps)
places_long n k [] = refl
places_long n k (None ∷ ps) = places_long n (suc k) ps
places_long n k (Some a ∷ ps) = ap suc (places_long n (suc k) ps)

enabled_shaped : (fs : Features) (items : List ItemData) → IsShaped (flat_map (enabled_item fs) items) (flat_map (enabled_item_origins fs) items)
enabled_shaped fs [] = tt
enabled_shaped fs (rule_item r ∷ items) = by (is_active fs r.attributes) (enabled_shaped fs items)
  where
    by : (b : Bool) → IsShaped (flat_map (enabled_item fs) items) (flat_map (enabled_item_origins fs) items) →
        IsShaped ((if b then rule_item (enabled_rule fs r) ∷ [] else []) ++ flat_map (enabled_item fs) items)
        ((if b then enabled_rule_origins fs r ∷ [] else []) ++ flat_map (enabled_item_origins fs) items)
    by true h = (places_long r.name.0 0 (enabled_places fs r), h)
    by false h = h
enabled_shaped fs (match_item m ∷ items) = enabled_shaped fs items
enabled_shaped fs (extern_item t ∷ items) = enabled_shaped fs items
enabled_shaped fs (intern_item t ∷ items) = enabled_shaped fs items
enabled_shaped fs (use_item u ∷ items) = enabled_shaped fs items

pub shaped_enabled : (fs : Features) (g : GrammarData) → IsShaped (enabled_grammar fs g).items (enabled_origins fs g)
shaped_enabled fs g = enabled_shaped fs g.items

-- ---- resolved rules

pub shaped_resolved : (ds : List Global) (items : List ItemData) (oss : List (List Origin)) → IsShaped items oss → IsShaped (map (resolved_item ds) items) oss
shaped_resolved ds [] [] h = tt
shaped_resolved ds [] (os ∷ oss) h = absurd h
shaped_resolved ds (rule_item r ∷ items) [] h = absurd h
shaped_resolved ds (rule_item r ∷ items) (os ∷ oss) h =
    (length-map r.alternatives (resolved_alternative (sense_of ds r.args)) ∙ h.0, shaped_resolved ds items oss h.1)
shaped_resolved ds (match_item m ∷ items) oss h = shaped_resolved ds items oss h
shaped_resolved ds (extern_item t ∷ items) oss h = shaped_resolved ds items oss h
shaped_resolved ds (intern_item t ∷ items) oss h = shaped_resolved ds items oss h
shaped_resolved ds (use_item u ∷ items) oss h = shaped_resolved ds items oss h

-- ---- rules with their lists

-- each rule has a list
pub shaped_rules : (items : List ItemData) (oss : List (List Origin)) → IsShaped items oss → map rule_of_pair (traced_rules items oss) ≡ flat_map rule_of_item items
shaped_rules [] [] h = refl
shaped_rules [] (os ∷ oss) h = absurd h
shaped_rules (rule_item r ∷ items) [] h = absurd h
shaped_rules (rule_item r ∷ items) (os ∷ oss) h = ap (λ rs. r ∷ rs) (shaped_rules items oss h.1)
shaped_rules (match_item m ∷ items) oss h = shaped_rules items oss h
shaped_rules (extern_item t ∷ items) oss h = shaped_rules items oss h
shaped_rules (intern_item t ∷ items) oss h = shaped_rules items oss h
shaped_rules (use_item u ∷ items) oss h = shaped_rules items oss h

-- and one origin for each alternative
shaped_pair : (items : List ItemData) (oss : List (List Origin)) → IsShaped items oss → (t : TracedRule) → In t (traced_rules items oss) →
    length t.0.alternatives ≡ length t.1
shaped_pair [] oss h t i = absurd i
shaped_pair (rule_item r ∷ items) [] h t i = absurd h
shaped_pair (rule_item r ∷ items) (os ∷ oss) h t (inl e) =
    ap (λ (s : TracedRule). length s.0.alternatives) e ∙ h.0 ∙ sym (ap (λ (s : TracedRule). length s.1) e)
shaped_pair (rule_item r ∷ items) (os ∷ oss) h t (inr i) = shaped_pair items oss h.1 t i
shaped_pair (match_item m ∷ items) oss h t i = shaped_pair items oss h t i
shaped_pair (extern_item x ∷ items) oss h t i = shaped_pair items oss h t i
shaped_pair (intern_item x ∷ items) oss h t i = shaped_pair items oss h t i
shaped_pair (use_item u ∷ items) oss h t i = shaped_pair items oss h t i

-- the macro of a name is found with its list
pub macro_agrees : (g : GrammarData) (oss : List (List Origin)) → IsShaped g.items oss → (n : Name) →
    option_map rule_of_pair (traced_macro (traced_rules g.items oss) n) ≡ macro_named (macros_of g) n
macro_agrees g oss h n = macro_found (traced_rules g.items oss) n ∙ ap (λ rs. macro_named (macros_in rs) n) (shaped_rules g.items oss h)

-- ---- rules without arguments

shaped_plain : (items : List ItemData) (oss : List (List Origin)) → IsShaped items oss →
    IsShaped (flat_map plain_item items) (flat_map plain_list (traced_rules items oss))
shaped_plain [] [] h = tt
shaped_plain [] (os ∷ oss) h = absurd h
shaped_plain (rule_item r ∷ items) [] h = absurd h
shaped_plain (rule_item r ∷ items) (os ∷ oss) h = by (is_nil r.args) (shaped_plain items oss h.1)
  where
    by : (b : Bool) → IsShaped (flat_map plain_item items) (flat_map plain_list (traced_rules items oss)) →
        IsShaped ((if b then rule_item (replaced_rule r) ∷ [] else []) ++ flat_map plain_item items)
        ((if b then os ∷ [] else []) ++ flat_map plain_list (traced_rules items oss))
    by true k = (length-map r.alternatives replaced_alternative ∙ h.0, k)
    by false k = k
shaped_plain (match_item m ∷ items) oss h = shaped_plain items oss h
shaped_plain (extern_item t ∷ items) oss h = shaped_plain items oss h
shaped_plain (intern_item t ∷ items) oss h = shaped_plain items oss h
shaped_plain (use_item u ∷ items) oss h = shaped_plain items oss h

-- ---- generated rules

abbrev item_of : RuleData → ItemData
item_of r = rule_item (replaced_rule r)

kept_long : (value : ConditionValue) (s : Span) (d : RuleData) (ps : Parts) (xs : List AlternativeData) (os : List Origin) → length xs ≡ length os →
    length (instance_alternatives value s d ps xs) ≡ length (kept_origins (λ a. is_true value d.args (read_all flat_reader ps) a.condition) xs os)
kept_long value s d ps [] os e = refl
kept_long value s d ps (a ∷ xs) [] e = absurd (omega arith)
kept_long value s d ps (a ∷ xs) (o ∷ os) e =
    by (is_true value d.args (read_all flat_reader ps) a.condition) (kept_long value s d ps xs os (omega arith))
  where
    by : (b : Bool) →
        length (instance_alternatives value s d ps xs) ≡ length (kept_origins (λ x. is_true value d.args (read_all flat_reader ps) x.condition) xs os) →
        length (if b then instance_alternative s (argument_kind d.args ps) a ∷ instance_alternatives value s d ps xs else instance_alternatives value s d ps xs)
        ≡ length (if b then o ∷ kept_origins (λ x. is_true value d.args (read_all flat_reader ps) x.condition) xs os
        else kept_origins (λ x. is_true value d.args (read_all flat_reader ps) x.condition) xs os)
    by true h = ap suc h
    by false h = h

module _ (value : ConditionValue) (macros : List RuleData) (found : Name → Option TracedRule)
    (agree : (n : Name) → option_map rule_of_pair (found n) ≡ macro_named macros n)
    (long : (n : Name) (t : TracedRule) → found n ≡ Some t → length t.0.alternatives ≡ length t.1) where
  shaped_call : (s : Span) (n : Name) (ps : Parts) (o : Option TracedRule) → found n ≡ o →
      IsShaped (map item_of (instance_of value s (macro_named macros n) ps)) (instance_origins value o ps)
  shaped_call s n ps None e =
      subst (λ (k : Option RuleData). IsShaped (map item_of (instance_of value s k ps)) [])
      (sym (ap (option_map rule_of_pair) e) ∙ agree n) tt
  shaped_call s n ps (Some t) e =
      subst (λ (k : Option RuleData). IsShaped (map item_of (instance_of value s k ps)) (instance_origins value (Some t) ps))
      (sym (ap (option_map rule_of_pair) e) ∙ agree n)
      (length-map (instance_alternatives value s t.0 ps t.0.alternatives) replaced_alternative ∙ kept_long value s t.0 ps t.0.alternatives t.1 (long n t e), tt)

  shaped_made : (p : Part) → IsShaped (map item_of (made_rules value macros p)) (made_origins value found p)
  shaped_made (at s (call n ps)) = shaped_call s n ps (found n) refl
  shaped_made (at s (repeated Star p)) = (refl, tt)
  shaped_made (at s (repeated Plus p)) = (refl, tt)
  shaped_made (at s (repeated Question p)) = (refl, tt)
  shaped_made (at s (repeated (Times n) p)) = (refl, tt)
  shaped_made (at s (group ps)) = (refl, tt)
  shaped_made (at s lookahead) = (refl, tt)
  shaped_made (at s lookbehind) = (refl, tt)
  shaped_made (at s _) = tt

  all_shaped : (ps : List Part) → IsShaped (map item_of (flat_map (made_rules value macros) ps)) (flat_map (made_origins value found) ps)
  all_shaped [] = tt
  all_shaped (p ∷ ps) =
      subst (λ (xs : List ItemData). IsShaped xs (made_origins value found p ++ flat_map (made_origins value found) ps))
      (sym (map-append item_of (made_rules value macros p) (flat_map (made_rules value macros) ps)))
      (shaped_both (map item_of (made_rules value macros p)) (map item_of (flat_map (made_rules value macros) ps))
      (made_origins value found p) (flat_map (made_origins value found) ps) (shaped_made p) (all_shaped ps))

-- ---- the expanded grammar

pub shaped_expanded : (value : ConditionValue) (g : GrammarData) (oss : List (List Origin)) (count : ℕ) → IsShaped g.items oss →
    IsShaped (plain_grammar value g count).items (expanded_lists value g oss count)
shaped_expanded value g oss count h =
    let ts : List TracedRule = traced_rules g.items oss in
    shaped_both (flat_map plain_item g.items) (map item_of (flat_map (made_rules value (macros_of g)) (made_symbols value g count)))
    (flat_map plain_list ts) (flat_map (made_origins value (traced_macro ts)) (made_symbols value g count))
    (shaped_plain g.items oss h)
    (all_shaped value (macros_of g) (traced_macro ts) (macro_agrees g oss h) (λ n t e. shaped_pair g.items oss h t (macro_listed ts n t e)) (made_symbols value g count))
