-- The spans of the `cfg` of a grammar that are of no known form: the span of F11 at each attribute that fails, in visiting order.
use Rattle.std.specs.Prelude.{List, [], ◌∷◌, ◌++◌, flat_map, Option, Some, None}
use Rattle.lalrpop_norm_tree_names.specs.declared.names.Span.{Span}
use Rattle.lalrpop_norm_tree_parts.specs.Attributes.{AttributeData, Attributes, no_attributes, attribute_and}
use Rattle.lalrpop_norm_tree.specs.Items.{AlternativeData, RuleData, ConversionData, EnumTokenData, ItemData, GrammarData}
use Rattle.lalrpop_norm_tree.specs.Items.{match_item, extern_item, intern_item, rule_item, use_item}
use Rattle.lalrpop_norm_faults.specs.Faults.{Fault, first}
use Rattle.lalrpop_norm_prevalidate_attributes.specs.CfgFaults.{attribute_cfg_faults}

abbrev pub told_place : Option Fault → List Span
told_place None = []
told_place (Some f) = f.1 ∷ []

-- of one attribute: its first fault, if it has one
abbrev pub malformed_at : AttributeData → List Span
malformed_at a = told_place (first (attribute_cfg_faults a))

abbrev pub malformed_among : Attributes → List Span
malformed_among no_attributes = []
malformed_among (attribute_and a rest) = malformed_at a ++ malformed_among rest

abbrev pub malformed_on_alternative : AlternativeData → List Span
malformed_on_alternative a = malformed_among a.attributes

abbrev pub malformed_on_conversion : ConversionData → List Span
malformed_on_conversion c = malformed_among c.attributes

-- of a rule: its own attributes, then its alternatives
abbrev pub malformed_in_rule : RuleData → List Span
malformed_in_rule r = malformed_among r.attributes ++ flat_map malformed_on_alternative r.alternatives

abbrev pub malformed_in_enum : Option EnumTokenData → List Span
malformed_in_enum None = []
malformed_in_enum (Some e) = flat_map malformed_on_conversion e.conversions

abbrev pub malformed_in_item : ItemData → List Span
malformed_in_item (match_item m) = []
malformed_in_item (extern_item t) = malformed_in_enum t.enum_token
malformed_in_item (intern_item t) = []
malformed_in_item (rule_item r) = malformed_in_rule r
malformed_in_item (use_item u) = []

abbrev pub malformed_cfgs : GrammarData → List Span
malformed_cfgs g = flat_map malformed_in_item g.items
