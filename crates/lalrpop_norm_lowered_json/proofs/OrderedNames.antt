-- The forms of names, terminals, attributes, visibilities, patterns of arguments and types have their keys in order.
use Rattle.std.proofs.Common.{ℕ, List, [], ◌∷◌, Option, Some, None, refl}
use Rattle.serde_json.specs.Data.{Data, string, Items}
use Rattle.lalrpop_norm_tree_names.specs.declared.names.Span.{Span}
use Rattle.lalrpop_norm_tree_names.specs.declared.names.TerminalLiteral.{TerminalLiteral}
use Rattle.lalrpop_norm_tree_names.specs.declared.names.TerminalLiteral.TheVariants.{Quoted, Regex}
use Rattle.lalrpop_norm_tree_names.specs.declared.names.TerminalString.{TerminalString}
use Rattle.lalrpop_norm_tree_names.specs.declared.names.TerminalString.TheVariants.{Literal, Bare, Error}
use Rattle.lalrpop_norm_tree_names.specs.declared.names.TypeParameter.{TypeParameter}
use Rattle.lalrpop_norm_tree_names.specs.declared.names.TypeParameter.TheVariants as parameter
use Rattle.lalrpop_norm_tree_parts.specs.Paths.{PathData}
use Rattle.lalrpop_norm_tree_parts.specs.Attributes.{Argument, empty, paren, equal, AttributeData, attribute, Attributes}
use Rattle.lalrpop_norm_tree_parts.specs.Attributes.{no_attributes, attribute_and}
use Rattle.lalrpop_norm_tree_parts.specs.Reprs.{ReprData, tuple, slice, nominal, associated, of_lifetime, reference}
use Rattle.lalrpop_norm_tree_parts.specs.Reprs.{trait_object, function, Reprs, no_reprs, repr_and, MaybeRepr, no_repr, returns}
use Rattle.lalrpop_norm_tree.specs.Symbols.{ArgumentPattern, one_name, several, ArgumentPatterns, no_arguments, argument_and}
use Rattle.lalrpop_norm_tree.specs.declared.items.MatchMapping.{MatchMapping}
use Rattle.lalrpop_norm_tree.specs.declared.items.MatchMapping.TheVariants.{Terminal, Skip}
use Rattle.lalrpop_norm_tree.specs.Items.{VisibilityData, everywhere, within, private}
use Rattle.lalrpop_norm_json.specs.Json.{row, list_form, maybe_form}
use Rattle.lalrpop_norm_json.specs.Forms.{span_form, lifetime_form, literal_form, terminal_form, type_parameter_form, path_form}
use Rattle.lalrpop_norm_json.specs.Forms.{argument_form, attribute_form, attributes_form}
use Rattle.lalrpop_norm_json.specs.SymbolForms.{argument_pattern_form, argument_patterns_form}
use Rattle.lalrpop_norm_json.specs.ItemForms.{visibility_form, mapping_form}
use Rattle.lalrpop_norm_lowered_json.specs.LoweredForms.{applied_form, repr_form, reprs_form, maybe_repr_form}
use Rattle.lalrpop_norm_lowered_json.specs.WholeForms.{rows_form}
use Rattle.lalrpop_norm_lowered_json.proofs.Ordered.{◌&◌, IsOrdered, ItemsAreOrdered}

-- ---- lists, options and tables

pub list_ordered : {X : Type 0} (f : X → Data) → ((x : X) → IsOrdered (f x)) → (xs : List X) → IsOrdered (list_form f xs)
list_ordered f ordered [] = tt
list_ordered f ordered (x ∷ xs) = ordered x & list_ordered f ordered xs

pub maybe_ordered : {X : Type 0} (f : X → Data) → ((x : X) → IsOrdered (f x)) → (o : Option X) → IsOrdered (maybe_form f o)
maybe_ordered f ordered None = tt
maybe_ordered f ordered (Some x) = ordered x

pub rows_ordered : {K V : Type 0} (f : K → Data) (g : V → Data) → ((k : K) → IsOrdered (f k)) → ((v : V) → IsOrdered (g v))
    → (rs : List (K × V)) → IsOrdered (rows_form f g rs)
rows_ordered {K} {V} f g keys values =
    list_ordered (λ (r : K × V). row (f r.0 ∷ g r.1 ∷ [])) (λ r. keys r.0 & values r.1 & tt)

pub texts_ordered : (ss : List (List ℕ)) → IsOrdered (list_form string ss)
texts_ordered = list_ordered string (λ s. tt)

-- ---- names, terminals, paths

pub span_ordered : (s : Span) → IsOrdered (span_form s)
span_ordered s = tt & tt & tt

pub literal_ordered : (l : TerminalLiteral) → IsOrdered (literal_form l)
literal_ordered (Quoted a) = refl & tt & tt
literal_ordered (Regex a) = refl & tt & tt

pub terminal_ordered : (t : TerminalString) → IsOrdered (terminal_form t)
terminal_ordered (Literal l) = refl & literal_ordered l & tt
terminal_ordered (Bare a) = refl & tt & tt
terminal_ordered Error = tt

parameter_ordered : (p : TypeParameter) → IsOrdered (type_parameter_form p)
parameter_ordered (parameter.Lifetime l) = refl & tt & tt
parameter_ordered (parameter.Id a) = refl & tt & tt

pub parameters_ordered : (ps : List TypeParameter) → IsOrdered (list_form type_parameter_form ps)
parameters_ordered = list_ordered type_parameter_form parameter_ordered

pub path_ordered : (p : PathData) → IsOrdered (path_form p)
path_ordered p = refl & tt & texts_ordered p.ids & tt

-- ---- attributes

mutual
  argument_ordered : (g : Argument) → IsOrdered (argument_form g)
  argument_ordered empty = tt
  argument_ordered (paren xs) = refl & attributes_ordered xs & tt
  argument_ordered (equal s) = refl & tt & tt

  attribute_ordered : (a : AttributeData) → IsOrdered (attribute_form a)
  attribute_ordered (attribute s a g) = refl & argument_ordered g & tt & span_ordered s & tt

  pub attributes_ordered : (xs : Attributes) → ItemsAreOrdered (attributes_form xs)
  attributes_ordered no_attributes = tt
  attributes_ordered (attribute_and a xs) = attribute_ordered a & attributes_ordered xs

-- ---- visibilities, what a match block makes of a token

pub visibility_ordered : (v : VisibilityData) → IsOrdered (visibility_form v)
visibility_ordered (everywhere p) = refl & maybe_ordered path_form path_ordered p & tt
visibility_ordered (within p) = refl & path_ordered p & tt
visibility_ordered private = tt

pub mapping_ordered : (m : MatchMapping) → IsOrdered (mapping_form m)
mapping_ordered (Terminal t) = refl & terminal_ordered t & tt
mapping_ordered Skip = tt

-- ---- patterns of arguments

mutual
  pub argument_pattern_ordered : (p : ArgumentPattern) → IsOrdered (argument_pattern_form p)
  argument_pattern_ordered (one_name n) = refl & (refl & tt & tt & tt) & tt
  argument_pattern_ordered (several ps) = refl & (refl & argument_patterns_ordered ps & tt) & tt

  argument_patterns_ordered : (ps : ArgumentPatterns) → ItemsAreOrdered (argument_patterns_form ps)
  argument_patterns_ordered no_arguments = tt
  argument_patterns_ordered (argument_and p ps) = argument_pattern_ordered p & argument_patterns_ordered ps

-- ---- types

applied_ordered : (p : PathData) (ts : Items) → ItemsAreOrdered ts → IsOrdered (applied_form p ts)
applied_ordered p ts ordered = refl & path_ordered p & ordered & tt

mutual
  pub repr_ordered : (t : ReprData) → IsOrdered (repr_form t)
  repr_ordered (tuple ts) = refl & reprs_ordered ts & tt
  repr_ordered (slice t) = refl & repr_ordered t & tt
  repr_ordered (nominal p ts) = refl & applied_ordered p (reprs_form ts) (reprs_ordered ts) & tt
  repr_ordered (associated p a) = refl & (refl & tt & tt & tt) & tt
  repr_ordered (of_lifetime l) = refl & tt & tt
  repr_ordered (reference l m t) = refl & (refl & maybe_ordered lifetime_form (λ k. tt) l & tt & repr_ordered t & tt) & tt
  repr_ordered (trait_object p ts) = refl & applied_ordered p (reprs_form ts) (reprs_ordered ts) & tt
  repr_ordered (function fs p ts r) =
      refl & (refl & parameters_ordered fs & reprs_ordered ts & path_ordered p & maybe_repr_ordered r & tt) & tt

  reprs_ordered : (ts : Reprs) → ItemsAreOrdered (reprs_form ts)
  reprs_ordered no_reprs = tt
  reprs_ordered (repr_and t ts) = repr_ordered t & reprs_ordered ts

  maybe_repr_ordered : (r : MaybeRepr) → IsOrdered (maybe_repr_form r)
  maybe_repr_ordered no_repr = tt
  maybe_repr_ordered (returns t) = repr_ordered t
