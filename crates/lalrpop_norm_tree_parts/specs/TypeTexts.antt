-- The texts of paths, references and lowered types, as bytes.
use Rattle.std.specs.Prelude.{ℕ, Bool, List, [], ◌∷◌, ◌++◌, map, Option, Some, None, if◌then◌else◌, codes}
use Rattle.lalrpop_norm_tree_names.specs.declared.names.Lifetime.{Lifetime}
use Rattle.lalrpop_norm_tree_names.specs.declared.names.TypeParameter.{TypeParameter}
use Rattle.lalrpop_norm_tree_parts.specs.Paths.{PathData}
use Rattle.lalrpop_norm_tree_parts.specs.Reprs.{ReprData, tuple, slice, nominal, associated, of_lifetime, reference, trait_object}
use Rattle.lalrpop_norm_tree_parts.specs.Reprs.{function, Reprs, no_reprs, repr_and, MaybeRepr, no_repr, returns, Applied}
use Rattle.lalrpop_norm_tree_names.specs.Texts.{joined, type_parameter_text}

-- `::` before an absolute path and between its parts
abbrev pub path_text : PathData → List ℕ
path_text p = (if p.absolute then codes "::" else []) ++ joined (codes "::") p.ids

-- `for<'a, T> ` where there is a parameter
abbrev pub forall_text : List TypeParameter → List ℕ
forall_text [] = []
forall_text (p ∷ ps) = codes "for<" ++ joined (codes ", ") (map type_parameter_text (p ∷ ps)) ++ codes "> "

-- `&`, `&'a `, `&mut ` or `&'a mut `
abbrev pub reference_text : Option Lifetime → Bool → List ℕ
reference_text None mutable = codes "&" ++ (if mutable then codes "mut " else [])
reference_text (Some l) mutable = codes "&" ++ l.0 ++ codes " " ++ (if mutable then codes "mut " else [])

-- arguments between angle brackets, where there are any
abbrev pub angled : List (List ℕ) → List ℕ
angled [] = []
angled (t ∷ ts) = codes "<" ++ joined (codes ", ") (t ∷ ts) ++ codes ">"

-- `dyn for<'a> P(A, B)`
abbrev pub signature_text : List TypeParameter → PathData → List (List ℕ) → List ℕ
signature_text fs p ts = codes "dyn " ++ forall_text fs ++ path_text p ++ (codes "(" ++ joined (codes ", ") ts ++ codes ")")

abbrev mutual
  pub repr_text : ReprData → List ℕ
  repr_text (tuple ts) = codes "(" ++ joined (codes ", ") (repr_texts ts) ++ codes ")"
  repr_text (slice t) = codes "[" ++ repr_text t ++ codes "]"
  repr_text (nominal p ts) = path_text p ++ angled (repr_texts ts)
  repr_text (associated t a) = t ++ codes "::" ++ a
  repr_text (of_lifetime l) = l.0
  repr_text (reference l m t) = reference_text l m ++ repr_text t
  repr_text (trait_object p ts) = codes "dyn " ++ (path_text p ++ angled (repr_texts ts))
  repr_text (function fs p ts r) = signature_text fs p (repr_texts ts) ++ return_text r

  pub repr_texts : Reprs → List (List ℕ)
  repr_texts no_reprs = []
  repr_texts (repr_and t ts) = repr_text t ∷ repr_texts ts

  -- ` -> R`
  pub return_text : MaybeRepr → List ℕ
  return_text no_repr = []
  return_text (returns t) = codes " -> " ++ repr_text t

abbrev pub applied_text : Applied → List ℕ
applied_text n = path_text n.0 ++ angled (repr_texts n.1)
