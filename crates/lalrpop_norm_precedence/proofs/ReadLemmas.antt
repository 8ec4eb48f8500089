-- What is read of a rule's alternatives, one after another, is what its indices have.
use Rattle.std.proofs.Common.{◌≡◌, ℕ, List, [], ◌∷◌, ◌++◌, map, Option, Some, None, refl, sym, ap, ap₂, ◌∙◌}
use Rattle.std.specs.Prelude.{unwrap_or}
use Rattle.std.specs.List.{flat_map}
use Rattle.std.specs.Prelude.{Result, Ok, Err}
use Rattle.std.specs.Result.{IsErrAnd}
use Rattle.lalrpop_norm_faults.specs.declared.failure.NormFailure.{NormFailure}
use Rattle.lalrpop_norm_faults.specs.Faults.{Fault, IsFirst, RefusesOr}
use Rattle.lalrpop_norm_tree.specs.Items.{AlternativeData, RuleData}
use Rattle.lalrpop_norm_model.specs.Enabled.{all_places, present}
use Rattle.lalrpop_norm_model.specs.Levels.{Side, every, Leveled, with_levels}
use Rattle.lalrpop_norm_model.specs.Stated.{level_after, side_after, handed_on}
use Rattle.lalrpop_norm_model.proofs.HandedLemmas.{levels_are_handed_on}
use Rattle.lalrpop_norm_precedence_steps.specs.declared.levels.AlternativeLevel.{AlternativeLevel}
use Rattle.lalrpop_norm_precedence_steps.specs.LevelFaults.{missing_level_faults, level_attribute_faults, level_faults, least, lowest_level, lowest_faults, lowest_level_faults, levels_and_sides}
use Rattle.lalrpop_norm_precedence_steps.specs.StatedLevels.{alternative_level_view}
use Rattle.lalrpop_norm_precedence.specs.Handed.{handed_levels, handed_faults, placed_faults}

levels_handed : (level : Option ℕ) (side : Option Side) (rs : List AlternativeData) →
    map (λ (a : Leveled). (a.level, a.side)) (present (handed_on level side (map Some rs))) ≡ handed_levels level side rs
levels_handed level side [] = refl
levels_handed level side (a ∷ rs) =
    ap (λ xs. (unwrap_or (level_after level (Some a)) 0, unwrap_or (side_after side (Some a)) every) ∷ xs) (levels_handed (level_after level (Some a)) (side_after side (Some a)) rs)

pub faults_handed : (lowest : ℕ) (level : Option ℕ) (side : Option Side) (rs : List AlternativeData) →
    flat_map (λ (a : Leveled). lowest_faults lowest a.level a.alternative) (present (handed_on level side (map Some rs))) ≡ handed_faults lowest level rs
faults_handed lowest level side [] = refl
faults_handed lowest level side (a ∷ rs) =
    ap (λ xs. lowest_faults lowest (unwrap_or (level_after level (Some a)) 0) a ++ xs) (faults_handed lowest (level_after level (Some a)) (side_after side (Some a)) rs)

placed_as_handed : (lowest : ℕ) (level : Option ℕ) (side : Option Side) (rs : List AlternativeData) →
    placed_faults lowest (map (λ (p : ℕ × Side). p.0) (handed_levels level side rs)) rs ≡ handed_faults lowest level rs
placed_as_handed lowest level side [] = refl
placed_as_handed lowest level side (a ∷ rs) =
    ap (λ xs. lowest_faults lowest (unwrap_or (level_after level (Some a)) 0) a ++ xs) (placed_as_handed lowest (level_after level (Some a)) (side_after side (Some a)) rs)

pub levels_read : (r : RuleData) → levels_and_sides r ≡ handed_levels None None r.alternatives
levels_read r =
    ap (λ ps. map (λ (a : Leveled). (a.level, a.side)) (present ps)) (levels_are_handed_on (all_places r))
    ∙ levels_handed None None r.alternatives

pub first_of_pairs : (xs : List Leveled) → map (λ (p : ℕ × Side). p.0) (map (λ (a : Leveled). (a.level, a.side)) xs) ≡ map (λ (a : Leveled). a.level) xs
first_of_pairs [] = refl
first_of_pairs (x ∷ xs) = ap (λ ls. x.level ∷ ls) (first_of_pairs xs)

pub first_of_views : (xs : List AlternativeLevel) → map (λ (l : AlternativeLevel). (alternative_level_view l).0) xs ≡ map (λ (p : ℕ × Side). p.0) (map alternative_level_view xs)
first_of_views [] = refl
first_of_views (x ∷ xs) = ap (λ ls. x.level ∷ ls) (first_of_views xs)

pub lowest_read : (r : RuleData) (xs : List AlternativeLevel) → map alternative_level_view xs ≡ levels_and_sides r →
    unwrap_or (least (map (λ (l : AlternativeLevel). (alternative_level_view l).0) xs)) 0 ≡ lowest_level (with_levels (all_places r))
lowest_read r xs e =
    ap (λ ls. unwrap_or (least ls) 0)
    (first_of_views xs ∙ ap (map (λ (p : ℕ × Side). p.0)) e ∙ first_of_pairs (present (with_levels (all_places r))))

-- the faults of the lowest level, where that level was taken of what was read
pub lowest_faults_read : (r : RuleData) (xs : List AlternativeLevel) (l : ℕ) → map alternative_level_view xs ≡ handed_levels None None r.alternatives →
    l ≡ unwrap_or (least (map (λ (l : AlternativeLevel). (alternative_level_view l).0) xs)) 0 →
    lowest_level_faults (with_levels (all_places r)) ≡ handed_faults l None r.alternatives
lowest_faults_read r xs l e same =
    ap (λ ps. flat_map (λ (a : Leveled). lowest_faults (lowest_level (with_levels (all_places r))) a.level a.alternative) (present ps)) (levels_are_handed_on (all_places r))
    ∙ faults_handed (lowest_level (with_levels (all_places r))) None None r.alternatives
    ∙ ap (λ k. handed_faults k None r.alternatives) (sym (same ∙ lowest_read r xs (e ∙ sym (levels_read r))))

-- the faults of the rule, if those of its first alternative and of its attributes do not hold
pub level_faults_read : (r : RuleData) (xs : List AlternativeLevel) (l : ℕ) → missing_level_faults r.alternatives ≡ [] → flat_map level_attribute_faults r.alternatives ≡ [] →
    map alternative_level_view xs ≡ handed_levels None None r.alternatives →
    l ≡ unwrap_or (least (map (λ (l : AlternativeLevel). (alternative_level_view l).0) xs)) 0 →
    level_faults r ≡ placed_faults l (map (λ (l : AlternativeLevel). (alternative_level_view l).0) xs) r.alternatives
level_faults_read r xs l e f read same =
    ap₂ (λ a b. a ++ b ++ lowest_level_faults (with_levels (all_places r))) e f ∙ lowest_faults_read r xs l read same
    ∙ sym (ap (λ ls. placed_faults l ls r.alternatives) (first_of_views xs ∙ ap (map (λ (p : ℕ × Side). p.0)) read) ∙ placed_as_handed l None None r.alternatives)

-- the exit by `?` of the last look, which finds all faults that are left
pub exit_last : {T : Type 0} (r : Result T NormFailure) (e : NormFailure) (here all : List Fault) (P : T → Type 0) →
    IsErrAnd r (λ x. x ≡ e) → IsFirst here e → all ≡ here → RefusesOr r all P
exit_last (Ok x) e here all P from h same = absurd from
exit_last (Err x) e here all P from h same = rw (from, same) h
