use Rattle.std.proofs.Common.{◌≡◌, [], ◌∷◌, codes, ap, sym, ◌∙◌}
use Rattle.serde_json.specs.Data.{string}
use Rattle.lalrpop_norm_tree_parts.specs.declared.attribute.AttributeArg.TheFolds.{fold-roll-AttributeArg}
use Rattle.lalrpop_norm_tree_parts.specs.declared.attribute.AttributeArg.TheOpen.{AttributeArg-F}
use Rattle.lalrpop_norm_tree_parts.specs.declared.attribute.AttributeArg.TheVariants as arg
use Rattle.lalrpop_norm_tree_parts.specs.declared.attribute.AttributeArg.TheViews.{rolls-Empty}
use Rattle.lalrpop_norm_tree_parts.specs.Attributes.{Argument, AttributeData, empty, argument_step, attribute_step, argument_view}
use Rattle.lalrpop_norm_json.specs.Forms.{argument_form}
use Rattle.lalrpop_norm_json.specs.Shapes.{one, many, attribute, text, field}
use Rattle.lalrpop_norm_json.proofs.Shaped.{no_name}
use Rattle.lalrpop_norm_json.proofs.tree.attributes.bare_argument.Goals as goal

-- one level of the view
empty_seen : argument_view arg.Empty ≡ empty
empty_seen = ap argument_view (sym rolls-Empty) ∙ fold-roll-AttributeArg Argument AttributeData argument_step attribute_step AttributeArg-F.Empty

pub returns-in-Empty : goal.returns-in-Empty
returns-in-Empty c = ap string c.in-Empty.is ∙ ap argument_form (sym empty_seen)

pub returns-in_default : goal.returns-in_default
returns-in_default c =
    no_name (codes "Empty" ∷ []) ((codes "Paren", field (many attribute)) ∷ (codes "Equal", field (one text)) ∷ []) c.args.name.now
    (c.in_default.not-Empty, tt)
