-- What is written of a value, where the definition speaks of its view.
use Rattle.std.proofs.Common.{◌≡◌, ℕ, List, ◌++◌, ◌∷◌, map, ap, sym, ◌∙◌}
use Rattle.std.proofs.lemmas.Simd.{map-map}
use Rattle.json.specs.Token.{Token, key}
use Rattle.serde_json.specs.Data.{Data}
use Rattle.lalrpop_norm_tree_parts.specs.declared.attribute.Attribute.{Attribute}
use Rattle.lalrpop_norm_tree_parts.specs.declared.attribute.AttributeArg.TheFolds.{fold_out-Attribute}
use Rattle.lalrpop_norm_tree_parts.specs.Attributes.{Argument, AttributeData, attribute, argument_step, attribute_step, argument_view, attribute_view}
use Rattle.lalrpop_norm_json.specs.Json.{list_form, row}
use Rattle.lalrpop_norm_lowered_json_tables.specs.Written.{data_tokens}

pub attribute_is : (a : Attribute) → attribute_view a ≡ attribute a.id_span a.id (argument_view a.arg)
attribute_is a = fold_out-Attribute Argument AttributeData argument_step attribute_step a

-- a field that is a list of values, each seen by its view
pub list_viewed : {X Y : Type 0} (f : Y → Data) (v : X → Y) (old new : List Token) (k : List ℕ) (xs : List X)
    → new ≡ old ++ key k ∷ data_tokens (list_form (λ x. f (v x)) xs) → new ≡ old ++ key k ∷ data_tokens (list_form f (map v xs))
list_viewed f v old new k xs e = e ∙ ap (λ ds. old ++ key k ∷ data_tokens (row ds)) (sym (map-map f v xs))
