-- The lists of the levels of an active rule are those of the written rule.
use Rattle.std.proofs.Common.{◌≡◌, inl, inr, ℕ, zero, suc, List, [], ◌∷◌, ◌++◌, length, map, Bool, true, false, not, refl, sym, ap, ap₂, ◌∙◌}
use Rattle.std.specs.Prelude.{take, flat_map, Option, Some, None, option_map, unwrap_or, ◌||◌, if◌then◌else◌}
use Rattle.std.proofs.lemmas.List.{length-map}
use Rattle.lalrpop_norm_tree.specs.Items.{RuleData, GrammarData}
use Rattle.lalrpop_norm_theory.specs.Symbols.{Name}
use Rattle.lalrpop_norm_theory.specs.LoweredTrees.{Origin, written}
use Rattle.lalrpop_norm_theory.specs.Rounds.{In}
use Rattle.lalrpop_norm_theory.proofs.ListLemmas.{flat_same}
use Rattle.lalrpop_norm_model.specs.Features.{Features}
use Rattle.lalrpop_norm_model.specs.Enabled.{PlacedAlternatives, present, all_places, enabled_places, enabled_rule, enabled_grammar}
use Rattle.lalrpop_norm_model.specs.Scopes.{Sense, globals, sense_of, resolved_alternative}
use Rattle.lalrpop_norm_model.specs.Levels.{Leveled, has_level_attribute, has_levels, level_stated, last_stated, level_at, leveled_at, map_numbered, with_levels, levels_of, rising, greatest, below}
use Rattle.lalrpop_norm_model.specs.WrittenRules.{WrittenRule, written_rules}
use Rattle.lalrpop_norm_model.specs.Grammars.{is_nil}
use Rattle.lalrpop_norm_model.specs.LevelRules.{level_rule, level_rules, leveled_grammar}
use Rattle.lalrpop_norm_model.specs.Renumbered.{prepared_grammar}
use Rattle.lalrpop_norm_model.proofs.LevelLemmas.{of_map}
use Rattle.lalrpop_norm_model.proofs.HandedLemmas.{disabled_are_no_matter}
use Rattle.lalrpop_norm_origins.specs.EnabledOrigins.{places_from, enabled_rule_origins, enabled_origins}
use Rattle.lalrpop_norm_origins.specs.LeveledOrigins.{levels_there, picked, step_origins, level_origins, leveled_lists}
use Rattle.lalrpop_norm_origins.specs.MadeOrigins.{traced_rules, plain_list}
use Rattle.lalrpop_norm_origins.specs.Laws.{written_level_origins}
use Rattle.lalrpop_norm_origins.proofs.PairedLists.{paired, traced_paired, paired_flat, flat_mapped, flat_twice, all_plain, none_plain, active, prepared, lists_of_rule, written_of, written_active, leveled_active, lists_active}

-- ---- lists of levels by the levels alone

abbrev lists_by : Bool → List ℕ → List Origin → List (List Origin)
lists_by true ls os = map (λ l. picked l ls os ++ step_origins (greatest (below l (rising ls)))) (rising ls)
lists_by false ls os = os ∷ []

by_levels : (b : Bool) (ps : List (Option Leveled)) (os : List Origin) → level_origins b ps os ≡ lists_by b (levels_there ps) os
by_levels true ps os = refl
by_levels false ps os = refl

-- ---- levels of resolved alternatives

module _ (sense : List ℕ → Option Sense) where
  abbrev resolved : PlacedAlternatives → PlacedAlternatives
  resolved ps = map (option_map (resolved_alternative sense)) ps

  pub there_resolved : (ps : PlacedAlternatives) → map (resolved_alternative sense) (present ps) ≡ present (resolved ps)
  there_resolved [] = refl
  there_resolved (None ∷ ps) = there_resolved ps
  there_resolved (Some a ∷ ps) = ap (λ xs. resolved_alternative sense a ∷ xs) (there_resolved ps)

  has_resolved : (ps : PlacedAlternatives) → has_levels (map Some (map (resolved_alternative sense) (present ps))) ≡ has_levels ps
  has_resolved [] = refl
  has_resolved (None ∷ ps) = has_resolved ps
  has_resolved (Some a ∷ ps) = ap (λ b. has_level_attribute a || b) (has_resolved ps)

  stated_resolved : (ps : PlacedAlternatives) (k : ℕ) → map level_stated (take k (resolved ps)) ≡ map level_stated (take k ps)
  stated_resolved [] zero = refl
  stated_resolved [] (suc k) = refl
  stated_resolved (p ∷ ps) zero = refl
  stated_resolved (None ∷ ps) (suc k) = ap (λ (os : List (Option ℕ)). None ∷ os) (stated_resolved ps k)
  stated_resolved (Some a ∷ ps) (suc k) = ap (λ (os : List (Option ℕ)). level_stated (Some a) ∷ os) (stated_resolved ps k)

  level_resolved : (ps : PlacedAlternatives) (k : ℕ) → level_at (resolved ps) k ≡ level_at ps k
  level_resolved ps k = ap (λ os. unwrap_or (last_stated os) 0) (stated_resolved ps (suc k))

  numbered_resolved : (qs : PlacedAlternatives) (k : ℕ) (ps : PlacedAlternatives) →
      levels_there (map_numbered (leveled_at (resolved qs)) k (resolved ps)) ≡ levels_there (map_numbered (leveled_at qs) k ps)
  numbered_resolved qs k [] = refl
  numbered_resolved qs k (None ∷ ps) = numbered_resolved qs (suc k) ps
  numbered_resolved qs k (Some a ∷ ps) = ap₂ ◌∷◌ (level_resolved qs k) (numbered_resolved qs (suc k) ps)

  pub levels_resolved : (ps : PlacedAlternatives) → levels_there (with_levels (resolved ps)) ≡ levels_there (with_levels ps)
  levels_resolved ps = numbered_resolved ps 0 ps

has_present : (ps : PlacedAlternatives) → has_levels (map Some (present ps)) ≡ has_levels ps
has_present [] = refl
has_present (None ∷ ps) = has_present ps
has_present (Some a ∷ ps) = ap (λ b. has_level_attribute a || b) (has_present ps)

levels_present : (ps : PlacedAlternatives) → levels_there (with_levels (map Some (present ps))) ≡ levels_there (with_levels ps)
levels_present ps = ap (λ xs. map (λ (a : Leveled). a.level) xs) (sym (disabled_are_no_matter ps))

-- ---- indices

-- only indices at which there is something are looked at
places_numbered : (n : Name) (sense : List ℕ → Option Sense) (qs : PlacedAlternatives) (k j : ℕ) (ps : PlacedAlternatives) →
    places_from n k (map_numbered (leveled_at qs) j (map (option_map (resolved_alternative sense)) ps)) ≡ places_from n k ps
places_numbered n sense qs k j [] = refl
places_numbered n sense qs k j (None ∷ ps) = places_numbered n sense qs (suc k) (suc j) ps
places_numbered n sense qs k j (Some a ∷ ps) = ap (λ os. written n k ∷ os) (places_numbered n sense qs (suc k) (suc j) ps)

-- ---- one rule

module _ (fs : Features) (g : GrammarData) (r : RuleData) where
  abbrev w : WrittenRule
  w = written_of fs g r

  abbrev sense : List ℕ → Option Sense
  sense = sense_of (globals (enabled_grammar fs g)) r.args

  abbrev ps : PlacedAlternatives
  ps = enabled_places fs r

  -- the rule that the pass on levels gets, with its levels
  abbrev pub leveled : List (Option Leveled)
  leveled = with_levels (all_places (prepared fs g r))

  pub there_prepared : present leveled ≡ present w.places
  there_prepared =
      ap (λ xs. present (with_levels (map Some xs))) (there_resolved sense ps)
      ∙ sym (disabled_are_no_matter (map (option_map (resolved_alternative sense)) ps))

  pub has_prepared : has_levels (all_places (prepared fs g r)) ≡ w.has_levels
  has_prepared = has_resolved sense ps

  pub levels_prepared : levels_of leveled ≡ levels_of w.places
  levels_prepared = ap (λ xs. rising (map (λ (a : Leveled). a.level) xs)) there_prepared

  -- the lists of its levels
  abbrev pub written_lists : List (List Origin)
  written_lists = level_origins w.has_levels w.places (places_from w.name 0 w.places)

  places_same : places_from w.name 0 w.places ≡ enabled_rule_origins fs r
  places_same = places_numbered r.name.0 sense (map (option_map (resolved_alternative sense)) ps) 0 0 ps

  pub lists_written : lists_of_rule fs g r ≡ written_lists
  lists_written =
      by_levels (has_levels (all_places (enabled_rule fs r))) (with_levels (all_places (enabled_rule fs r))) (enabled_rule_origins fs r)
      ∙ ap (λ b. lists_by b (levels_there (with_levels (all_places (enabled_rule fs r)))) (enabled_rule_origins fs r)) (has_present ps)
      ∙ ap (λ ls. lists_by w.has_levels ls (enabled_rule_origins fs r)) (levels_present ps ∙ sym (levels_resolved sense ps))
      ∙ ap (lists_by w.has_levels (levels_there w.places)) (sym places_same)
      ∙ sym (by_levels w.has_levels w.places (places_from w.name 0 w.places))

  long_by : (b : Bool) → length (if b then map (level_rule (prepared fs g r) leveled) (levels_of leveled) else prepared fs g r ∷ [])
      ≡ length (level_origins b w.places (places_from w.name 0 w.places))
  long_by true =
      length-map (levels_of leveled) (level_rule (prepared fs g r) leveled)
      ∙ ap length levels_prepared
      ∙ sym (length-map (levels_of w.places) (λ l. picked l (levels_there w.places) (places_from w.name 0 w.places) ++ step_origins (greatest (below l (levels_of w.places)))))
  long_by false = refl

  -- one list for each level
  pub long_lists : length (level_rules (prepared fs g r)) ≡ length written_lists
  long_lists =
      ap (λ (b : Bool). length (if b then map (level_rule (prepared fs g r) leveled) (levels_of leveled) else prepared fs g r ∷ [])) has_prepared
      ∙ long_by w.has_levels

  args_by : (e : RuleData) (b : Bool) → In e (if b then map (level_rule (prepared fs g r) leveled) (levels_of leveled) else prepared fs g r ∷ []) → e.args ≡ r.args
  args_by e true i =
      let (l, j, is) = of_map (level_rule (prepared fs g r) leveled) e (levels_of leveled) i in
      ap (λ (d : RuleData). d.args) is
  args_by e false (inl is) = ap (λ (d : RuleData). d.args) is
  args_by e false (inr i) = absurd i

  -- a level of a macro is a macro, and one of a rule is a rule
  pub args_kept : (e : RuleData) → In e (level_rules (prepared fs g r)) → e.args ≡ r.args
  args_kept e i = args_by e (has_levels (all_places (prepared fs g r))) i

  plain_by : (b : Bool) → is_nil r.args ≡ b →
      flat_map plain_list (paired (level_rules (prepared fs g r)) written_lists) ≡ (if not b then [] else written_lists)
  plain_by true e = all_plain (level_rules (prepared fs g r)) written_lists (λ d i. ap is_nil (args_kept d i) ∙ e) long_lists
  plain_by false e = none_plain (level_rules (prepared fs g r)) written_lists (λ d i. ap is_nil (args_kept d i) ∙ e)

  pub plain_written : flat_map plain_list (paired (level_rules (prepared fs g r)) written_lists) ≡ written_level_origins w
  plain_written = plain_by (is_nil r.args) refl

-- ---- the grammar with levels

module _ (fs : Features) (g : GrammarData) where
  abbrev leveled_rule : RuleData → List RuleData
  leveled_rule r = level_rules (prepared fs g r)

  -- its rules with their lists, rule by rule
  pub traced_active :
      traced_rules (leveled_grammar (prepared_grammar fs g)).items (leveled_lists (enabled_grammar fs g).items (enabled_origins fs g))
      ≡ flat_map (λ r. paired (level_rules (prepared fs g r)) (written_lists fs g r)) (active fs g)
  traced_active =
      traced_paired (leveled_grammar (prepared_grammar fs g)).items (leveled_lists (enabled_grammar fs g).items (enabled_origins fs g))
      ∙ ap₂ (λ (rs : List RuleData) (oss : List (List Origin)). paired rs oss) (leveled_active fs g)
      (lists_active fs g ∙ flat_same (lists_of_rule fs g) (written_lists fs g) (lists_written fs g) (active fs g))
      ∙ paired_flat leveled_rule (written_lists fs g) (long_lists fs g) (active fs g)

  -- the lists of those that are no macros are the written ones
  pub plain_lists :
      flat_map plain_list (traced_rules (leveled_grammar (prepared_grammar fs g)).items (leveled_lists (enabled_grammar fs g).items (enabled_origins fs g)))
      ≡ flat_map written_level_origins (written_rules fs g)
  plain_lists =
      ap (flat_map plain_list) traced_active
      ∙ flat_twice plain_list (λ r. paired (level_rules (prepared fs g r)) (written_lists fs g r)) (active fs g)
      ∙ flat_same (λ r. flat_map plain_list (paired (level_rules (prepared fs g r)) (written_lists fs g r))) (λ r. written_level_origins (written_of fs g r)) (plain_written fs g) (active fs g)
      ∙ sym (flat_mapped written_level_origins (written_of fs g) (active fs g))
      ∙ ap (flat_map written_level_origins) (sym (written_active fs g))
