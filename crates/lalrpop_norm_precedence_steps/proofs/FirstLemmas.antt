-- What the first alternative says of the levels of a rule.
use Rattle.std.proofs.Common.{◌≡◌, List, [], ◌∷◌, ◌++◌, Option, Some, None, Bool, true, false, ◌&&◌, ◌||◌, map, refl}
use Rattle.std.specs.Prelude.{flat_map, is_some, is_none, codes}
use Rattle.lalrpop_norm_tree_parts.specs.Attributes.{AttributeData}
use Rattle.lalrpop_norm_tree.specs.Items.{AlternativeData, RuleData}
use Rattle.lalrpop_norm_faults.specs.declared.kind.FaultKind.TheVariants.{MissingLevel}
use Rattle.lalrpop_norm_faults.specs.Faults.{Fault, fault_if}
use Rattle.lalrpop_norm_model.specs.Enabled.{all_places}
use Rattle.lalrpop_norm_model.specs.Levels.{first_named, has_levels, with_levels}
use Rattle.lalrpop_norm_precedence_steps.specs.Attributes.{first_has_level_attribute}
use Rattle.lalrpop_norm_precedence_steps.specs.LevelFaults.{missing_level_faults, level_attribute_faults, lowest_level_faults, level_faults}
use Rattle.lalrpop_norm_faults.proofs.FaultLemmas.{left_none}

-- p is the first `precedence` of the first alternative; y says whether it has an `assoc`, z whether a later one has either
told_by : (p : Option AttributeData) (y z : Bool) (f : Fault) → fault_if (((is_some p || y) || z) && is_none p) f ≡ [] → (is_some p || y) ≡ ((is_some p || y) || z)
told_by (Some x) y z f h = refl
told_by None true z f h = refl
told_by None false true f h = absurd (cc h)
told_by None false false f h = refl

first_alone : (xs : List AlternativeData) → missing_level_faults xs ≡ [] → first_has_level_attribute xs ≡ has_levels (map Some xs)
first_alone [] h = refl
first_alone (a ∷ rest) h =
    told_by (first_named (codes "precedence") a.attributes) (is_some (first_named (codes "assoc") a.attributes)) (has_levels (map Some rest)) (MissingLevel, a.span) h

pub first_tells : (r : RuleData) → level_faults r ≡ [] → first_has_level_attribute r.alternatives ≡ has_levels (all_places r)
first_tells r h =
    let here = missing_level_faults r.alternatives in
    let each = flat_map level_attribute_faults r.alternatives in
    first_alone r.alternatives (left_none here each (left_none (here ++ each) (lowest_level_faults (with_levels (all_places r))) h))
