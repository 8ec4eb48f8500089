-- In the grammar with levels each name is resolved.
use Rattle.std.proofs.Common.{◌≡◌, inl, inr, ℕ, List, [], ◌∷◌, ◌++◌, map, Bool, true, false, Option, Some, None, refl, sym, ap, ap₂, ◌∙◌, subst}
use Rattle.std.specs.Prelude.{flat_map, nat_eq, if◌then◌else◌}
use Rattle.std.proofs.lemmas.List.{map-append}
use Rattle.lalrpop_norm_tree.specs.Items.{AlternativeData, RuleData, ItemData, GrammarData, match_item, extern_item, intern_item, rule_item, use_item}
use Rattle.lalrpop_norm_tree.specs.Symbols.{Parts}
use Rattle.lalrpop_norm_theory.specs.Symbols.{Name}
use Rattle.lalrpop_norm_theory.specs.Rounds.{In}
use Rattle.lalrpop_norm_model.specs.Enabled.{all_places, present}
use Rattle.lalrpop_norm_model.specs.Scopes.{Global, globals, Sense, sense_of, resolved_parts, resolved_alternative, resolved_rule, resolved_item, resolved_grammar}
use Rattle.lalrpop_norm_model.specs.Levels.{Leveled, has_levels, with_levels, levels_of, previous_level}
use Rattle.lalrpop_norm_model.specs.WrittenRules.{leveled_rules}
use Rattle.lalrpop_norm_model.specs.LevelRules.{is_own, level_of_rule, level_alternative, step_alternatives, of_level, level_rule, level_rules, level_items, leveled_grammar}
use Rattle.lalrpop_norm_model.specs.Occurrences.{own_bound}
use Rattle.lalrpop_norm_model.specs.PlainRules.{rule_of_item, all_rules}
use Rattle.lalrpop_norm_model.specs.LevelNames.{HasLevelNames}
use Rattle.lalrpop_norm_model.proofs.LevelLemmas.{of_map, of_present}
use Rattle.lalrpop_norm_theory.proofs.RoundsLemmas.{in_cases}
use Rattle.lalrpop_norm_model.proofs.ReadingLemmas.{parts_kept, parts_settled}
use Rattle.lalrpop_norm_model.proofs.LevelGrammarLemmas.{alternative_scoped, place_scoped, has_level_rules, no_level_rules}

-- ---- the grammar with levels

module _ (g : GrammarData) (N : HasLevelNames g) where
  abbrev ps : RuleData → List (Option Leveled)
  ps d = with_levels (all_places d)

  bare_settled : (d : RuleData) → In d (all_rules g) → (b : AlternativeData) → In b d.alternatives → (sense : Name → Option Sense) →
      resolved_parts sense b.parts ≡ b.parts
  bare_settled d i b j sense =
      let kept = parts_kept (λ n. false) (λ before after. []) (λ n before after e. absurd (cc e)) 0 0 b.parts in
      ap (resolved_parts sense) (sym kept)
      ∙ parts_settled (leveled_rules g) d.args sense (λ n. false) (λ before after. []) 0 0 b.parts (alternative_scoped g N d i b j)
      ∙ kept

  of_level_from : (m : ℕ) (xs : List Leveled) (a : Leveled) → In a (of_level m xs) → In a xs
  of_level_from m [] a h = h
  of_level_from m (x ∷ xs) a h = by (nat_eq x.level m) (of_level_from m xs a) h
    where
      by : (b : Bool) → (In a (of_level m xs) → In a xs) → In a (if b then x ∷ of_level m xs else of_level m xs) → In a (x ∷ xs)
      by true f (inl e) = inl e
      by true f (inr i) = inr (f i)
      by false f i = inr (f i)

  step_settled : (d : RuleData) (o : Option ℕ) (b : AlternativeData) → In b (step_alternatives d (ps d) o) → (sense : Name → Option Sense) → resolved_parts sense b.parts ≡ b.parts
  step_settled d None b i sense = absurd i
  step_settled d (Some m) b (inl e) sense = subst (λ (x : AlternativeData). resolved_parts sense x.parts ≡ x.parts) (sym e) refl
  step_settled d (Some m) b (inr i) sense = absurd i

  level_settled : (d : RuleData) → In d (all_rules g) → (m : ℕ) (b : AlternativeData) → In b (level_rule d (ps d) m).alternatives → (sense : Name → Option Sense) →
      resolved_parts sense b.parts ≡ b.parts
  level_settled d i m b j sense = elim (in_cases b (map (level_alternative d (ps d)) (of_level m (present (ps d)))) _ j) [
    | inl k ↦ (let (a, p, is) = of_map (level_alternative d (ps d)) b (of_level m (present (ps d))) k in
        subst (λ (x : AlternativeData). resolved_parts sense x.parts ≡ x.parts) (sym is)
        (parts_settled (leveled_rules g) d.args sense (is_own d)
        (λ before after. level_of_rule d (ps d) (own_bound a.side a.level (previous_level (ps d) a.level) before after)) 0 0 a.alternative.parts
        (place_scoped g N d i a (of_present a (ps d) (of_level_from m (present (ps d)) a p)))))
    | inr k ↦ step_settled d (previous_level (ps d) m) b k sense
  ]

  rule_settled : (d : RuleData) → In d (all_rules g) → (c : RuleData) → In c (level_rules d) → (b : AlternativeData) → In b c.alternatives →
      (sense : Name → Option Sense) → resolved_parts sense b.parts ≡ b.parts
  rule_settled d i c j b k sense = by (has_levels (all_places d)) refl
    where
      by : (x : Bool) → has_levels (all_places d) ≡ x → resolved_parts sense b.parts ≡ b.parts
      by true e =
          let (m, p, is) = of_map (level_rule d (ps d)) c (levels_of (ps d)) (subst (λ (ds : List RuleData). In c ds) (has_level_rules g N d e) j) in
          level_settled d i m b (subst (λ (x : RuleData). In b x.alternatives) is k) sense
      by false e = elim (subst (λ (ds : List RuleData). In c ds) (no_level_rules g N d e) j) [
        | inl is ↦ bare_settled d i b (subst (λ (x : RuleData). In b x.alternatives) is k) sense
        | inr none ↦ absurd none
      ]

  kept_map : {A : Type 0} (f : A → A) (xs : List A) → ((x : A) → In x xs → f x ≡ x) → map f xs ≡ xs
  kept_map f [] h = refl
  kept_map f (x ∷ xs) h = ap₂ ◌∷◌ (h x (inl refl)) (kept_map f xs (λ y i. h y (inr i)))

  kept_rule : (ds : List Global) (d : RuleData) → In d (all_rules g) → (c : RuleData) → In c (level_rules d) → resolved_rule ds c ≡ c
  kept_rule ds d i c j =
      ap (λ (xs : List AlternativeData). record c { alternatives = xs })
      (kept_map (resolved_alternative (sense_of ds c.args)) c.alternatives
      (λ b k. ap (λ (qs : Parts). record b { parts = qs }) (rule_settled d i c j b k (sense_of ds c.args))))

  kept_rules : (ds : List Global) (cs : List RuleData) → ((c : RuleData) → In c cs → resolved_rule ds c ≡ c) → map (resolved_item ds) (map rule_item cs) ≡ map rule_item cs
  kept_rules ds [] h = refl
  kept_rules ds (c ∷ cs) h = ap₂ (λ x xs. rule_item x ∷ xs) (h c (inl refl)) (kept_rules ds cs (λ d i. h d (inr i)))

  kept_items : (ds : List Global) (items : List ItemData) → ((d : RuleData) → In d (flat_map rule_of_item items) → In d (all_rules g)) →
      map (resolved_item ds) (flat_map level_items items) ≡ flat_map level_items items
  kept_items ds [] f = refl
  kept_items ds (rule_item d ∷ items) f =
      map-append (resolved_item ds) (map rule_item (level_rules d)) (flat_map level_items items)
      ∙ ap₂ ◌++◌ (kept_rules ds (level_rules d) (λ c j. kept_rule ds d (f d (inl refl)) c j)) (kept_items ds items (λ c i. f c (inr i)))
  kept_items ds (match_item m ∷ items) f = ap (λ is. match_item m ∷ is) (kept_items ds items f)
  kept_items ds (extern_item t ∷ items) f = ap (λ is. extern_item t ∷ is) (kept_items ds items f)
  kept_items ds (intern_item t ∷ items) f = ap (λ is. intern_item t ∷ is) (kept_items ds items f)
  kept_items ds (use_item u ∷ items) f = ap (λ is. use_item u ∷ is) (kept_items ds items f)

  -- in the grammar with levels nothing is left to resolve
  pub levels_resolved : resolved_grammar (leveled_grammar g) ≡ leveled_grammar g
  levels_resolved = ap (λ (is : List ItemData). record g { items = is }) (kept_items (globals (leveled_grammar g)) g.items (λ d i. i))
