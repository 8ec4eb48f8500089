-- The test of two lowered types says whether they are equal.
use Rattle.std.proofs.Common.{◌≡◌, ℕ, Bool, true, false, ◌&&◌, List, [], ◌∷◌, Option, Some, None, bytes_eq, refl, ap, ap₂}
use Rattle.lalrpop_norm_tree_names.specs.declared.names.Lifetime.{Lifetime}
use Rattle.lalrpop_norm_tree_names.specs.declared.names.TypeParameter.{TypeParameter}
use Rattle.lalrpop_norm_tree_names.specs.declared.names.TypeParameter.TheVariants as parameter
use Rattle.lalrpop_norm_tree_parts.specs.Paths.{PathData}
use Rattle.lalrpop_norm_tree_parts.specs.Reprs.{ReprData, Reprs, MaybeRepr, tuple, slice, nominal, associated, of_lifetime, reference, trait_object, function, no_reprs, repr_and, no_repr, returns}
use Rattle.lalrpop_norm_theory.specs.Same.{same_flag}
use Rattle.lalrpop_norm_model.specs.SameTypes.{same_lifetime, same_parameter, all_same, same_path, same_type, same_types, same_return}
use Rattle.lalrpop_norm_theory.proofs.SameLemmas.{text_sound, text_same, flag_sound, flag_same}
use Rattle.lalrpop_norm_tree_parts.proofs.FreeLemmas.{same_is}

-- ---- small parts

first_of_two : (a b : Bool) → (a && b) ≡ true → a ≡ true
first_of_two true b e = refl
first_of_two false b e = absurd cc

second_of_two : (a b : Bool) → (a && b) ≡ true → b ≡ true
second_of_two true b e = e
second_of_two false b e = absurd cc

abbrev lifetime_of : List ℕ → Lifetime
lifetime_of a = record { 0 = a }

lifetime_sound : (a b : Lifetime) → bytes_eq a.0 b.0 ≡ true → a ≡ b
lifetime_sound a b e = ap lifetime_of (text_sound a.0 b.0 e)

some_lifetime_sound : (a b : Option Lifetime) → same_lifetime a b ≡ true → a ≡ b
some_lifetime_sound None None e = refl
some_lifetime_sound None (Some b) e = absurd cc
some_lifetime_sound (Some a) None e = absurd cc
some_lifetime_sound (Some a) (Some b) e = ap Some (lifetime_sound a b e)

some_lifetime_same : (a : Option Lifetime) → same_lifetime a a ≡ true
some_lifetime_same None = refl
some_lifetime_same (Some a) = text_same a.0

parameter_same : (a : TypeParameter) → same_parameter a a ≡ true
parameter_same (parameter.Lifetime a) = text_same a.0
parameter_same (parameter.Id a) = text_same a

all_sound : {A : Type 0} (same : A → A → Bool) → ((x y : A) → same x y ≡ true → x ≡ y) → (xs ys : List A) → all_same same xs ys ≡ true → xs ≡ ys
all_sound same sound [] [] e = refl
all_sound same sound [] (y ∷ ys) e = absurd cc
all_sound same sound (x ∷ xs) [] e = absurd cc
all_sound same sound (x ∷ xs) (y ∷ ys) e =
    ap₂ (λ a rest. a ∷ rest) (sound x y (first_of_two (same x y) (all_same same xs ys) e)) (all_sound same sound xs ys (second_of_two (same x y) (all_same same xs ys) e))

all_alike : {A : Type 0} (same : A → A → Bool) → ((x : A) → same x x ≡ true) → (xs : List A) → all_same same xs xs ≡ true
all_alike same alike [] = refl
all_alike same alike (x ∷ xs) = rw (alike x, all_alike same alike xs) refl

path_sound : (p q : PathData) → same_path p q ≡ true → p ≡ q
path_sound p q e =
    let absolute : p.absolute ≡ q.absolute = flag_sound p.absolute q.absolute (first_of_two (same_flag p.absolute q.absolute) (all_same bytes_eq p.ids q.ids) e) in
    let ids : p.ids ≡ q.ids = all_sound bytes_eq text_sound p.ids q.ids (second_of_two (same_flag p.absolute q.absolute) (all_same bytes_eq p.ids q.ids) e) in
    ap₂ (λ a is. record { absolute = a; ids = is }) absolute ids

path_same : (p : PathData) → same_path p p ≡ true
path_same p = rw (flag_same p.absolute, all_alike bytes_eq text_same p.ids) refl

-- ---- types

mutual
  pub type_sound : (t u : ReprData) → same_type t u ≡ true → t ≡ u
  type_sound (tuple ts) (tuple us) e = ap tuple (types_sound ts us e)
  type_sound (slice t) (slice u) e = ap slice (type_sound t u e)
  type_sound (nominal p ts) (nominal q us) e =
      ap₂ nominal (path_sound p q (first_of_two (same_path p q) (same_types ts us) e)) (types_sound ts us (second_of_two (same_path p q) (same_types ts us) e))
  type_sound (associated a b) (associated c d) e =
      ap₂ associated (text_sound a c (first_of_two (bytes_eq a c) (bytes_eq b d) e)) (text_sound b d (second_of_two (bytes_eq a c) (bytes_eq b d) e))
  type_sound (of_lifetime a) (of_lifetime b) e = ap of_lifetime (lifetime_sound a b e)
  type_sound (reference l m t) (reference k n u) e =
      let first = some_lifetime_sound l k (first_of_two (same_lifetime l k) (same_flag m n && same_type t u) e) in
      let rest = second_of_two (same_lifetime l k) (same_flag m n && same_type t u) e in
      let second = flag_sound m n (first_of_two (same_flag m n) (same_type t u) rest) in
      let third = type_sound t u (second_of_two (same_flag m n) (same_type t u) rest) in
      rw (first, second, third) refl
  type_sound (trait_object p ts) (trait_object q us) e =
      ap₂ trait_object (path_sound p q (first_of_two (same_path p q) (same_types ts us) e)) (types_sound ts us (second_of_two (same_path p q) (same_types ts us) e))
  type_sound (function fs p ts r) (function gs q us s) e =
      let first = all_sound same_parameter same_is fs gs (first_of_two (all_same same_parameter fs gs) (same_path p q && (same_types ts us && same_return r s)) e) in
      let rest = second_of_two (all_same same_parameter fs gs) (same_path p q && (same_types ts us && same_return r s)) e in
      let second = path_sound p q (first_of_two (same_path p q) (same_types ts us && same_return r s) rest) in
      let more = second_of_two (same_path p q) (same_types ts us && same_return r s) rest in
      let third = types_sound ts us (first_of_two (same_types ts us) (same_return r s) more) in
      let fourth = return_sound r s (second_of_two (same_types ts us) (same_return r s) more) in
      rw (first, second, third, fourth) refl
  type_sound _ _ e = absurd cc

  pub types_sound : (ts us : Reprs) → same_types ts us ≡ true → ts ≡ us
  types_sound no_reprs no_reprs e = refl
  types_sound (repr_and t ts) (repr_and u us) e =
      ap₂ repr_and (type_sound t u (first_of_two (same_type t u) (same_types ts us) e)) (types_sound ts us (second_of_two (same_type t u) (same_types ts us) e))
  types_sound _ _ e = absurd cc

  pub return_sound : (r s : MaybeRepr) → same_return r s ≡ true → r ≡ s
  return_sound no_repr no_repr e = refl
  return_sound (returns t) (returns u) e = ap returns (type_sound t u e)
  return_sound _ _ e = absurd cc

mutual
  pub type_same : (t : ReprData) → same_type t t ≡ true
  type_same (tuple ts) = types_same ts
  type_same (slice t) = type_same t
  type_same (nominal p ts) = rw (path_same p, types_same ts) refl
  type_same (associated a b) = rw (text_same a, text_same b) refl
  type_same (of_lifetime a) = text_same a.0
  type_same (reference l m t) = rw (some_lifetime_same l, flag_same m, type_same t) refl
  type_same (trait_object p ts) = rw (path_same p, types_same ts) refl
  type_same (function fs p ts r) = rw (all_alike same_parameter parameter_same fs, path_same p, types_same ts, return_same r) refl

  pub types_same : (ts : Reprs) → same_types ts ts ≡ true
  types_same no_reprs = refl
  types_same (repr_and t ts) = rw (type_same t, types_same ts) refl

  pub return_same : (r : MaybeRepr) → same_return r r ≡ true
  return_same no_repr = refl
  return_same (returns t) = type_same t
