use Rattle.std.proofs.Common.{◌+◌, ◌++◌, List, drop, sym, ap, ◌∙◌}
use Rattle.lalrpop_norm_tree_parts.specs.declared.attribute.Attribute.{Attribute}
use Rattle.lalrpop_norm_tree_parts.specs.Attributes.{attribute_view, attributes_view}
use Rattle.lalrpop_norm_faults.specs.Faults.{Fault}
use Rattle.lalrpop_norm_faults.proofs.FaultLemmas.{at_drop_item, exit_at}
use Rattle.lalrpop_norm_prevalidate_attributes.specs.AttributeFaults.{alternative_attribute_faults, alternative_attributes_faults}
use Rattle.lalrpop_norm_prevalidate_attributes.proofs.alternatives.validate_attributes.Goals as goal

abbrev faults : List Attribute → List Fault
faults xs = alternative_attributes_faults (attributes_view xs)

pub loop-attribute-preserved : goal.loop-attribute-preserved
loop-attribute-preserved c =
    let xs = c.args.attributes.now in
    let i = c.loop-attribute.attribute-index in
    ap (λ fs. fs ++ faults (drop (i + 1) xs)) (sym c.in_ok-validate_attribute.ensures)
    ∙ sym (at_drop_item faults xs i c.attribute-item.result c.loop-attribute-test.true c.attribute-item.is)
    ∙ c.loop-attribute.invariant

pub returns-in_err-validate_attribute : goal.returns-in_err-validate_attribute
returns-in_err-validate_attribute c =
    let xs = c.args.attributes.now in
    let i = c.loop-attribute.attribute-index in
    let x = c.attribute-item.result in
    exit_at _ _ (alternative_attribute_faults (attribute_view x)) (faults (drop (i + 1) xs)) _
    c.from_residual.ensures.1 c.in_err-validate_attribute.ensures
    (sym c.loop-attribute.invariant ∙ at_drop_item faults xs i x c.loop-attribute-test.true c.attribute-item.is)
