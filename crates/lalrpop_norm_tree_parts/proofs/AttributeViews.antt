-- One level of an attribute's view.
use Rattle.std.proofs.Common.{◌≡◌, List, ℕ, ap, sym, ◌∙◌}
use Rattle.lalrpop_norm_tree_names.specs.declared.names.Span.{Span}
use Rattle.lalrpop_norm_tree_parts.specs.declared.attribute.Attribute.{Attribute}
use Rattle.lalrpop_norm_tree_parts.specs.declared.attribute.AttributeArg.{AttributeArg}
use Rattle.lalrpop_norm_tree_parts.specs.declared.attribute.AttributeArg.TheFolds.{fold-roll-Attribute}
use Rattle.lalrpop_norm_tree_parts.specs.declared.attribute.AttributeArg.TheOpen.{Attribute-F}
use Rattle.lalrpop_norm_tree_parts.specs.declared.attribute.AttributeArg.TheViews.{rolls-struct-Attribute}
use Rattle.lalrpop_norm_tree_parts.specs.Attributes.{Argument, AttributeData, attribute, argument_step, attribute_step, argument_view, attribute_view}

pub attribute_seen : (s : Span) (a : List ℕ) (g : AttributeArg) → attribute_view (let x : Attribute = record { id_span = s; id = a; arg = g } in x) ≡ attribute s a (argument_view g)
attribute_seen s a g =
    let x : Attribute-F AttributeArg _ = record { id_span = s; id = a; arg = g } in
    ap attribute_view (sym (rolls-struct-Attribute x)) ∙ fold-roll-Attribute Argument AttributeData argument_step attribute_step x
