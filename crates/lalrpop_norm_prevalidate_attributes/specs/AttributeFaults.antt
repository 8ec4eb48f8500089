-- The faults of an alternative's attributes.
use Rattle.std.specs.Prelude.{ℕ, Bool, ◌||◌, not, List, [], ◌++◌, bytes_eq, codes, if◌then◌else◌}
use Rattle.lalrpop_norm_tree_parts.specs.Attributes.{AttributeData, Attributes, attribute, no_attributes, attribute_and}
use Rattle.lalrpop_norm_faults.specs.declared.kind.FaultKind.TheVariants.{AlternativeAttribute}
use Rattle.lalrpop_norm_faults.specs.Faults.{Fault, fault_if}
use Rattle.lalrpop_norm_prevalidate_attributes.specs.CfgFaults.{cfg_faults}

abbrev pub is_known_on_alternative : List ℕ → Bool
is_known_on_alternative name = bytes_eq name (codes "precedence") || bytes_eq name (codes "assoc") || bytes_eq name (codes "cfg")

-- one attribute of an alternative: F13, F11
unfoldable pub alternative_attribute_faults : AttributeData → List Fault
alternative_attribute_faults (attribute s name x) =
    fault_if (not (is_known_on_alternative name)) (AlternativeAttribute, s)
    ++ (if bytes_eq name (codes "cfg") then cfg_faults s x else [])

-- each attribute in order; of several `cfg` each is judged
abbrev pub alternative_attributes_faults : Attributes → List Fault
alternative_attributes_faults no_attributes = []
alternative_attributes_faults (attribute_and a rest) = alternative_attribute_faults a ++ alternative_attributes_faults rest
