-- A list that is not empty.
use Rattle.std.proofs.Common.{◌≡◌, ◌<◌, List, [], ◌∷◌, length, arith, refl}
use Rattle.lalrpop_norm_tree_names.specs.declared.names.Span.{Span}
use Rattle.lalrpop_norm_tree_parts.specs.declared.attribute.Attribute.{Attribute}
use Rattle.lalrpop_norm_tree_parts.specs.Attributes.{attributes_view}
use Rattle.lalrpop_norm_prevalidate_attributes.specs.CfgFaults.{empty_faults}

pub no_empty_faults : (s : Span) (xs : List Attribute) → 0 < length xs → empty_faults s (attributes_view xs) ≡ []
unfolding empty_faults
no_empty_faults s [] h = absurd (omega arith)
no_empty_faults s (x ∷ xs) h = refl
