-- A rule without levels has no fault of levels.
use Rattle.std.proofs.Common.{◌≡◌, ℕ, Bool, true, false, cond, List, [], ◌∷◌, ◌++◌, map, Option, Some, None, refl, ap, ap₂, ◌∙◌, codes}
use Rattle.std.specs.Prelude.{◌&&◌, is_some, is_none, unwrap_or, nat_eq}
use Rattle.std.specs.List.{flat_map}
use Rattle.lalrpop_norm_tree_parts.specs.Attributes.{AttributeData}
use Rattle.lalrpop_norm_tree.specs.Items.{AlternativeData, RuleData}
use Rattle.lalrpop_norm_faults.specs.Faults.{fault_if}
use Rattle.lalrpop_norm_faults.specs.declared.kind.FaultKind.TheVariants.{MissingLevel}
use Rattle.lalrpop_norm_theory.proofs.BoolLemmas.{left_false, right_false}
use Rattle.lalrpop_norm_model.specs.Enabled.{all_places, present}
use Rattle.lalrpop_norm_model.specs.Levels.{Leveled, first_named, has_level_attribute, has_levels, with_levels}
use Rattle.lalrpop_norm_model.specs.Stated.{level_after}
use Rattle.lalrpop_norm_model.proofs.HandedLemmas.{levels_are_handed_on}
use Rattle.lalrpop_norm_model.proofs.WrittenLemmas.{not_there}
use Rattle.lalrpop_norm_precedence_steps.specs.LevelFaults.{missing_level_faults, level_argument_faults, side_argument_faults, level_attribute_faults, lowest_level, lowest_faults, barred_faults, lowest_level_faults, level_faults}
use Rattle.lalrpop_norm_precedence.specs.Handed.{handed_faults}
use Rattle.lalrpop_norm_precedence.proofs.ReadLemmas.{faults_handed}

-- an alternative without the two attributes
module _ (a : AlternativeData) (bare : has_level_attribute a ≡ false) where
  abbrev level : Option AttributeData
  level = first_named (codes "precedence") a.attributes

  abbrev side : Option AttributeData
  side = first_named (codes "assoc") a.attributes

  no_level : level ≡ None
  no_level = not_there level (left_false (is_some level) (is_some side) bare)

  no_side : side ≡ None
  no_side = not_there side (right_false (is_some level) (is_some side) bare)

  no_attribute_faults : level_attribute_faults a ≡ []
  unfolding level_attribute_faults
  no_attribute_faults = ap₂ (λ l s. level_argument_faults l ++ side_argument_faults s) no_level no_side

  not_lowest : (lowest own : ℕ) → lowest_faults lowest own a ≡ []
  unfolding lowest_faults
  not_lowest lowest own = ap (λ s. cond (nat_eq own lowest) (barred_faults a s) []) no_side ∙ by (nat_eq own lowest)
    where
      by : (b : Bool) → cond b (barred_faults a None) [] ≡ []
      by true = refl
      by false = refl

no_faults_of_attributes : (rs : List AlternativeData) → has_levels (map Some rs) ≡ false → flat_map level_attribute_faults rs ≡ []
no_faults_of_attributes [] h = refl
no_faults_of_attributes (a ∷ rs) h =
    ap₂ (λ xs ys. xs ++ ys) (no_attribute_faults a (left_false (has_level_attribute a) (has_levels (map Some rs)) h))
    (no_faults_of_attributes rs (right_false (has_level_attribute a) (has_levels (map Some rs)) h))

no_faults_handed : (lowest : ℕ) (own : Option ℕ) (rs : List AlternativeData) → has_levels (map Some rs) ≡ false → handed_faults lowest own rs ≡ []
no_faults_handed lowest own [] h = refl
no_faults_handed lowest own (a ∷ rs) h =
    ap₂ (λ xs ys. xs ++ ys) (not_lowest a (left_false (has_level_attribute a) (has_levels (map Some rs)) h) lowest (unwrap_or (level_after own (Some a)) 0))
    (no_faults_handed lowest (level_after own (Some a)) rs (right_false (has_level_attribute a) (has_levels (map Some rs)) h))

none_missing : (rs : List AlternativeData) → has_levels (map Some rs) ≡ false → missing_level_faults rs ≡ []
none_missing [] h = refl
none_missing (a ∷ rs) h = ap (λ b. fault_if (b && is_none (first_named (codes "precedence") a.attributes)) (MissingLevel, a.span)) h

pub no_level_faults : (r : RuleData) → has_levels (all_places r) ≡ false → level_faults r ≡ []
no_level_faults r h =
    let lowest = lowest_level (with_levels (all_places r)) in
    let handed : lowest_level_faults (with_levels (all_places r)) ≡ [] =
    ap (λ ps. flat_map (λ (a : Leveled). lowest_faults lowest a.level a.alternative) (present ps)) (levels_are_handed_on (all_places r))
    ∙ faults_handed lowest None None r.alternatives ∙ no_faults_handed lowest None r.alternatives h in
    rw (none_missing r.alternatives h, no_faults_of_attributes r.alternatives h, handed) refl
