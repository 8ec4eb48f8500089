-- Whether two lowered types are equal, as a test.
use Rattle.std.specs.Prelude.{Bool, true, false, ◌&&◌, List, [], ◌∷◌, Option, Some, None, bytes_eq}
use Rattle.lalrpop_norm_tree_names.specs.declared.names.Lifetime.{Lifetime}
pub use Rattle.lalrpop_norm_tree_parts.specs.FreeVariables.{same_parameter}
use Rattle.lalrpop_norm_tree_parts.specs.Paths.{PathData}
use Rattle.lalrpop_norm_tree_parts.specs.Reprs.{ReprData, Reprs, MaybeRepr, tuple, slice, nominal, associated, of_lifetime, reference}
use Rattle.lalrpop_norm_tree_parts.specs.Reprs.{trait_object, function, no_reprs, repr_and, no_repr, returns}
use Rattle.lalrpop_norm_theory.specs.Same.{same_flag}

abbrev pub same_lifetime : Option Lifetime → Option Lifetime → Bool
same_lifetime None None = true
same_lifetime (Some a) (Some b) = bytes_eq a.0 b.0
same_lifetime _ _ = false

-- of one length, and the same at each index
abbrev pub all_same : {A : Type 0} → (A → A → Bool) → List A → List A → Bool
all_same same [] [] = true
all_same same (x ∷ xs) (y ∷ ys) = same x y && all_same same xs ys
all_same same _ _ = false

abbrev pub same_path : PathData → PathData → Bool
same_path p q = same_flag p.absolute q.absolute && all_same bytes_eq p.ids q.ids

-- types of one shape with the same names, lifetimes and parameters in it
abbrev mutual
  pub same_type : ReprData → ReprData → Bool
  same_type (tuple ts) (tuple us) = same_types ts us
  same_type (slice t) (slice u) = same_type t u
  same_type (nominal p ts) (nominal q us) = same_path p q && same_types ts us
  same_type (associated a b) (associated c d) = bytes_eq a c && bytes_eq b d
  same_type (of_lifetime a) (of_lifetime b) = bytes_eq a.0 b.0
  same_type (reference l m t) (reference k n u) = same_lifetime l k && (same_flag m n && same_type t u)
  same_type (trait_object p ts) (trait_object q us) = same_path p q && same_types ts us
  same_type (function fs p ts r) (function gs q us s) =
      all_same same_parameter fs gs && (same_path p q && (same_types ts us && same_return r s))
  same_type _ _ = false

  pub same_types : Reprs → Reprs → Bool
  same_types no_reprs no_reprs = true
  same_types (repr_and t ts) (repr_and u us) = same_type t u && same_types ts us
  same_types _ _ = false

  pub same_return : MaybeRepr → MaybeRepr → Bool
  same_return no_repr no_repr = true
  same_return (returns t) (returns u) = same_type t u
  same_return _ _ = false
