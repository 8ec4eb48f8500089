-- Where the pass over levels finds no fault, a macro has one level, and no fault of names holds in the grammar with levels: a
-- step to a lower level would name a macro as if it were a rule.
use Rattle.std.proofs.Common.{◌≡◌, inl, inr, ℕ, ◌<◌, ◌≤◌, List, [], ◌∷◌, ◌++◌, length, map, Bool, true, false, Option, Some, None, refl, sym, ap, ◌∙◌, subst, arith}
use Rattle.std.specs.Prelude.{flat_map, if◌then◌else◌}
use Rattle.std.proofs.lemmas.Bool.{cases_lt}
use Rattle.std.proofs.lemmas.List.{append-nil}
use Rattle.std.proofs.lemmas.Grind.{flat_map-append}
use Rattle.lalrpop_norm_tree.specs.Items.{AlternativeData, RuleData, ItemData, GrammarData, match_item, extern_item, intern_item, rule_item, use_item}
use Rattle.lalrpop_norm_theory.specs.Rounds.{In}
use Rattle.lalrpop_norm_model.specs.Enabled.{all_places, present}
use Rattle.lalrpop_norm_model.specs.Scopes.{Global, globals, resolved_grammar}
use Rattle.lalrpop_norm_model.specs.Levels.{Leveled, has_levels, with_levels, levels_of, previous_level}
use Rattle.lalrpop_norm_model.specs.Grammars.{is_nil}
use Rattle.lalrpop_norm_model.specs.LevelRules.{level_alternative, of_level, step_alternatives, level_rule, level_items, leveled_grammar}
use Rattle.lalrpop_norm_model.specs.PlainRules.{all_rules}
use Rattle.lalrpop_norm_model.proofs.LevelLemmas.{had_level, has_previous}
use Rattle.lalrpop_norm_model.proofs.InferenceLemmas.{both_empty}
use Rattle.lalrpop_norm_model.proofs.WrittenLemmas.{scoped_as_written}
use Rattle.lalrpop_norm_model.proofs.GrammarLemmas.{rule_item_of, as_leveled, leveled_in}
use Rattle.lalrpop_norm_model.proofs.LevelRuleLemmas.{resolved_rule_places}
use Rattle.lalrpop_norm_resolve.specs.NameFaults.{repeated_faults, rule_name_faults, item_name_faults, resolve_faults}
use Rattle.lalrpop_norm_precedence.specs.PrecedenceFaults.{unstepped_rule, step_faults, level_rule_faults, level_rules_faults, level_items_faults, leveled_faults}
use Rattle.lalrpop_norm.specs.Laws.{HasFlatMacros, LevelsSettleMacros}
use Rattle.lalrpop_norm.proofs.ScopedLemmas.{none_of}

one_listed : (xs : List ℕ) → length xs ≤ 1 → (a b : ℕ) → In a xs → In b xs → a ≡ b
one_listed [] h a b i j = absurd i
one_listed (x ∷ []) h a b (inl e) (inl f) = e ∙ sym f
one_listed (x ∷ []) h a b (inr i) j = absurd i
one_listed (x ∷ []) h a b i (inr j) = absurd j
one_listed (x ∷ y ∷ xs) h a b i j = absurd (omega arith)

-- where the step of a macro has no fault there is none
no_step : (r : RuleData) (o : Option ℕ) → step_faults r o ≡ [] → o ≡ None
no_step r None h = refl
no_step r (Some l) h = absurd (cc h)

-- ---- names

module _ (ds : List Global) where
  unstepped : (r : RuleData) (ps : List (Option Leveled)) (l : ℕ) → previous_level ps l ≡ None → level_rule r ps l ≡ unstepped_rule r ps l
  unstepped r ps l none =
      ap (λ (xs : List AlternativeData). let x : RuleData = record (level_rule r ps l) { alternatives = xs } in x)
      (ap (λ (o : Option ℕ). map (level_alternative r ps) (of_level l (present ps)) ++ step_alternatives r ps o) none
      ∙ append-nil (map (level_alternative r ps) (of_level l (present ps))))

  level_named : (r : RuleData) (ps : List (Option Leveled)) (l : ℕ) → level_rule_faults ds r ps l ≡ [] → rule_name_faults ds (level_rule r ps l) ≡ []
  level_named r ps l h = by (is_nil r.args) h
    where
      by : (b : Bool) → (if b then rule_name_faults ds (level_rule r ps l) else (rule_name_faults ds (unstepped_rule r ps l) ++ step_faults r (previous_level ps l))) ≡ [] →
          rule_name_faults ds (level_rule r ps l) ≡ []
      by true e = e
      by false e =
          let two = both_empty (rule_name_faults ds (unstepped_rule r ps l)) (step_faults r (previous_level ps l)) e in
          ap (rule_name_faults ds) (unstepped r ps l (no_step r (previous_level ps l) two.1)) ∙ two.0

  levels_named : (r : RuleData) (ps : List (Option Leveled)) (ls : List ℕ) → flat_map (level_rule_faults ds r ps) ls ≡ [] →
      flat_map (item_name_faults ds) (map rule_item (map (level_rule r ps) ls)) ≡ []
  levels_named r ps [] h = refl
  levels_named r ps (l ∷ ls) h =
      let two = both_empty (level_rule_faults ds r ps l) (flat_map (level_rule_faults ds r ps) ls) h in
      ap (λ fs. fs ++ flat_map (item_name_faults ds) (map rule_item (map (level_rule r ps) ls))) (level_named r ps l two.0) ∙ levels_named r ps ls two.1

  rule_named : (r : RuleData) → level_rules_faults ds r ≡ [] → flat_map (item_name_faults ds) (level_items (rule_item r)) ≡ []
  rule_named r h = by (with_levels (all_places r)) (has_levels (all_places r)) h
    where
      by : (ps : List (Option Leveled)) (b : Bool) → (if b then flat_map (level_rule_faults ds r ps) (levels_of ps) else rule_name_faults ds r) ≡ [] →
          flat_map (item_name_faults ds) (map rule_item (if b then map (level_rule r ps) (levels_of ps) else r ∷ [])) ≡ []
      by ps true e = levels_named r ps (levels_of ps) e
      by ps false e = append-nil (rule_name_faults ds r) ∙ e

  items_named : (items : List ItemData) → flat_map (level_items_faults ds) items ≡ [] → flat_map (item_name_faults ds) (flat_map level_items items) ≡ []
  items_named [] h = refl
  items_named (rule_item r ∷ items) h =
      let two = both_empty (level_items_faults ds (rule_item r)) (flat_map (level_items_faults ds) items) h in
      flat_map-append (item_name_faults ds) (level_items (rule_item r)) (flat_map level_items items)
      ∙ ap (λ fs. fs ++ flat_map (item_name_faults ds) (flat_map level_items items)) (rule_named r two.0) ∙ items_named items two.1
  items_named (match_item m ∷ items) h = items_named items h
  items_named (extern_item t ∷ items) h = items_named items h
  items_named (intern_item t ∷ items) h = items_named items h
  items_named (use_item u ∷ items) h = items_named items h

pub leveled_names_free : (g : GrammarData) → leveled_faults g ≡ [] → resolve_faults (leveled_grammar g) ≡ []
leveled_names_free g h =
    let two = both_empty (repeated_faults [] (globals (leveled_grammar g))) (flat_map (level_items_faults (globals (leveled_grammar g))) g.items) h in
    ap (λ fs. fs ++ flat_map (item_name_faults (globals (leveled_grammar g))) (leveled_grammar g).items) two.0
    ∙ items_named (globals (leveled_grammar g)) g.items two.1

-- ---- levels

module _ (g : GrammarData) (E : resolved_grammar g ≡ g) (F : leveled_faults g ≡ []) where
  abbrev ds : List Global
  ds = globals (leveled_grammar g)

  abbrev ps : RuleData → List (Option Leveled)
  ps d = with_levels (all_places d)

  free : (d : RuleData) → In d (all_rules g) → level_rules_faults ds d ≡ []
  free d i =
      none_of (level_items_faults ds) g.items (rule_item d) (both_empty (repeated_faults [] ds) (flat_map (level_items_faults ds) g.items) F).1 (rule_item_of g d i)

  level_free : (d : RuleData) → In d (all_rules g) → has_levels (all_places d) ≡ true → (m : ℕ) → In m (levels_of (ps d)) → level_rule_faults ds d (ps d) m ≡ []
  level_free d i e m j =
      none_of (level_rule_faults ds d (ps d)) (levels_of (ps d)) m
      (subst (λ (b : Bool). (if b then flat_map (level_rule_faults ds d (ps d)) (levels_of (ps d)) else rule_name_faults ds d) ≡ []) e (free d i)) j

  lowest : (d : RuleData) → In d (all_rules g) → is_nil d.args ≡ false → has_levels (all_places d) ≡ true → (m : ℕ) → In m (levels_of (ps d)) →
      previous_level (ps d) m ≡ None
  lowest d i macro e m j =
      no_step d (previous_level (ps d) m)
      (both_empty (rule_name_faults ds (unstepped_rule d (ps d) m)) (step_faults d (previous_level (ps d) m))
      (subst (λ (b : Bool). (if b then rule_name_faults ds (level_rule d (ps d) m) else (rule_name_faults ds (unstepped_rule d (ps d) m) ++ step_faults d (previous_level (ps d) m))) ≡ [])
      macro (level_free d i e m j))).1

  no_lower : (d : RuleData) → In d (all_rules g) → is_nil d.args ≡ false → has_levels (all_places d) ≡ true → (a b : ℕ) → In a (levels_of (ps d)) → In b (levels_of (ps d)) →
      a < b → ⊥
  no_lower d i macro e a b j k less = let (p, prev) = has_previous (ps d) b a j less in let none = lowest d i macro e b k in absurd (cc (prev, none))

  pub flat_macros : HasFlatMacros g
  flat_macros d i macro l m x y = by (has_levels (all_places d)) refl
    where
      in_l : In l (levels_of (ps d))
      in_l = had_level (ps d) l x

      in_m : In m (levels_of (ps d))
      in_m = had_level (ps d) m y

      at_most : has_levels (all_places d) ≡ false → length (levels_of (ps d)) ≤ 1
      at_most e =
          subst (λ (qs : List (Option AlternativeData)). length (levels_of (with_levels qs)) ≤ 1) (resolved_rule_places g E d (rule_item_of g d i))
          ((scoped_as_written None g).1.1 (as_leveled g d) (leveled_in g d i) e)

      by : (b : Bool) → has_levels (all_places d) ≡ b → l ≡ m
      by true e = elim (cases_lt l m) [
        | inl less ↦ absurd (no_lower d i macro e l m in_l in_m less)
        | inr most ↦ elim (cases_lt m l) [
          | inl less ↦ absurd (no_lower d i macro e m l in_m in_l less)
          | inr least ↦ omega (most, least, arith)
        ]
      ]
      by false e = one_listed (levels_of (ps d)) (at_most e) l m in_l in_m

pub levels_settle_macros : LevelsSettleMacros
levels_settle_macros g E F = (flat_macros g E F, leveled_names_free g F)
