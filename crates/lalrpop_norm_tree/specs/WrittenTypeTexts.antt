-- The texts of written types, as bytes.
use Rattle.std.specs.Prelude.{ℕ, List, [], ◌∷◌, ◌++◌, codes}
use Rattle.lalrpop_norm_tree.specs.Types.{TypeData, tuple, slice, nominal, reference, trait_object, of_lifetime, id, of_symbol}
use Rattle.lalrpop_norm_tree.specs.Types.{function, TypesData, no_types, type_and, MaybeType, no_type, returns}
use Rattle.lalrpop_norm_tree_names.specs.Texts.{joined}
use Rattle.lalrpop_norm_tree.specs.SymbolTexts.{kind_text}
use Rattle.lalrpop_norm_tree_parts.specs.TypeTexts.{path_text, reference_text, angled, signature_text}

abbrev mutual
  pub type_text : TypeData → List ℕ
  type_text (tuple ts) = codes "(" ++ joined (codes ", ") (type_texts ts) ++ codes ")"
  type_text (slice t) = codes "[" ++ type_text t ++ codes "]"
  type_text (nominal p ts) = path_text p ++ angled (type_texts ts)
  type_text (reference l m t) = reference_text l m ++ type_text t
  type_text (trait_object p ts) = codes "dyn " ++ (path_text p ++ angled (type_texts ts))
  type_text (of_lifetime l) = l.0
  type_text (id a) = a
  type_text (of_symbol k) = codes "`" ++ kind_text k ++ codes "`"
  type_text (function fs p ts r) = signature_text fs p (type_texts ts) ++ returned_text r

  pub type_texts : TypesData → List (List ℕ)
  type_texts no_types = []
  type_texts (type_and t ts) = type_text t ∷ type_texts ts

  -- ` -> R`
  pub returned_text : MaybeType → List ℕ
  returned_text no_type = []
  returned_text (returns t) = codes " -> " ++ type_text t
