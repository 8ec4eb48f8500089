-- Attributes as plain data: no pointer, no capacity.
use Rattle.std.specs.Prelude.{ℕ, List, [], ◌∷◌, map, string_bytes}
use Rattle.lalrpop_norm_tree_names.specs.declared.names.Span.{Span}
use Rattle.lalrpop_norm_tree_parts.specs.declared.attribute.Attribute.{Attribute}
use Rattle.lalrpop_norm_tree_parts.specs.declared.attribute.AttributeArg.{AttributeArg}
use Rattle.lalrpop_norm_tree_parts.specs.declared.attribute.AttributeArg.TheOpen.{AttributeArg-F, Attribute-F}
use Rattle.lalrpop_norm_tree_parts.specs.declared.attribute.AttributeArg.TheFolds.{fold-AttributeArg, fold-Attribute}

mutual
  -- what follows a name
  pub data Argument : Type 0 where
    empty : Argument
    paren : Attributes → Argument
    equal : List ℕ → Argument

  pub data AttributeData : Type 0 where
    attribute : Span → List ℕ → Argument → AttributeData

  pub data Attributes : Type 0 where
    no_attributes : Attributes
    attribute_and : AttributeData → Attributes → Attributes

abbrev pub attributes_of : List AttributeData → Attributes
attributes_of [] = no_attributes
attributes_of (a ∷ rest) = attribute_and a (attributes_of rest)

abbrev pub argument_step : AttributeArg-F Argument AttributeData → Argument
argument_step AttributeArg-F.Empty = empty
argument_step (AttributeArg-F.Paren v) = paren (attributes_of v.items)
argument_step (AttributeArg-F.Equal s) = equal (string_bytes s)

abbrev pub attribute_step : Attribute-F Argument AttributeData → AttributeData
attribute_step a = attribute a.id_span a.id a.arg

abbrev pub argument_view : AttributeArg → Argument
argument_view = fold-AttributeArg Argument AttributeData argument_step attribute_step

abbrev pub attribute_view : Attribute → AttributeData
attribute_view = fold-Attribute Argument AttributeData argument_step attribute_step

abbrev pub attributes_view : List Attribute → Attributes
attributes_view xs = attributes_of (map attribute_view xs)
