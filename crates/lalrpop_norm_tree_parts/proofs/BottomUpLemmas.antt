-- Walks over lowered types in pieces.
use Rattle.std.proofs.Common.{◌≡◌, ℕ, suc, ◌+◌, ◌<◌, Result, Ok, Err, List, [], ◌∷◌, ◌++◌, map, drop, length, get_or, Box, Vec, Global, refl, sym, ap, subst, ◌∙◌, inl, inr}
use Rattle.std.proofs.Math.Numerals.{add-one}
use Rattle.std.proofs.Math.Seq.{drop-cons}
use Rattle.std.proofs.lemmas.List.{map-append}
use Rattle.std.specs.Result.{IsErrAnd}
use Rattle.lalrpop_norm_tree_parts.specs.BottomUp.{Walk, ◌▸◌, made, inside_type, all_inside, bottom_up, answered_as}
use Rattle.lalrpop_norm_tree_parts.specs.declared.lowered.TypeRepr.{TypeRepr}
use Rattle.lalrpop_norm_tree_parts.specs.declared.lowered.TypeRepr.TheVariants as variant
use Rattle.lalrpop_norm_tree_parts.specs.declared.lowered.TypeRepr.TheViews.{roll-NominalTypeRepr}
use Rattle.lalrpop_norm_tree_parts.specs.declared.lowered.NominalTypeRepr.{NominalTypeRepr}
use Rattle.lalrpop_norm_tree_parts.specs.declared.path.Path.{Path}
use Rattle.lalrpop_norm_tree_parts.specs.Paths.{path_view}
use Rattle.lalrpop_norm_tree_parts.specs.Reprs.{repr_view, reprs_view, applied_view, ReprData, Reprs, tuple, slice, nominal, associated, of_lifetime, reference, trait_object, function, no_reprs, repr_and, reprs_of}
use Rattle.lalrpop_norm_tree_parts.proofs.ReprSeen.{applied_is, slice_seen}

-- what the exit of a `?` answers
pub as_err : {A B E : Type 0} (v : A → B) (P : Result B E → Type 0) (r : Result A E) (e : E) → IsErrAnd r (λ y. y ≡ e) → P (Err e) → P (answered_as v r)
as_err v P (Ok x) e is p = absurd is
as_err v P (Err y) e is p = rw (is) p

pub as_wanting : {A B E : Type 0} (OfMemory : E → Type 0) (v : A → B) (P : Result B E → Type 0) (r : Result A E) → IsErrAnd r OfMemory → ((e : E) → OfMemory e → P (Err e)) → P (answered_as v r)
as_wanting OfMemory v P (Ok x) is p = absurd is
as_wanting OfMemory v P (Err y) is p = p y is

pub then_walked : {S E A B : Type 0} (W : Walk S E A) (K : A → Walk S E B) (s r s' : S) (a : A) (b : Result B E) → W s (Ok a) r → K a r b s' → (W ▸ K) s b s'
then_walked W K s r s' a (Ok b) w k = (a, r, w, k)
then_walked W K s r s' a (Err e) w k = inr (a, r, w, k)

module _ {S E : Type 0} (OfMemory : E → Type 0) where
  pub made_as : {A B : Type 0} (W : Walk S E A) (k : A → B) (s s' : S) (r : Result A E) → (W ▸ made OfMemory) s r s' → (W ▸ λ a. made OfMemory (k a)) s (answered_as k r) s'
  made_as W k s s' (Ok b) (a, r, w, m) = (a, r, w, (ap k m.0, m.1))
  made_as W k s s' (Err e) (inl w) = inl w
  made_as W k s s' (Err e) (inr (a, r, w, m)) = inr (a, r, w, m)

  module _ (call : ReprData → Walk S E ReprData) where
    -- an allocation may fail before the first call
    mutual
      pub inside_wanting : (t : ReprData) (s : S) (e : E) → OfMemory e → inside_type call OfMemory t s (Err e) s
      inside_wanting (tuple ts) s e m = inl (all_wanting ts s e m)
      inside_wanting (slice t) s e m = inl (inl (inside_wanting t s e m))
      inside_wanting (nominal p ts) s e m = inl (all_wanting ts s e m)
      inside_wanting (associated a b) s e m = (m, refl)
      inside_wanting (of_lifetime l) s e m = (m, refl)
      inside_wanting (reference l n t) s e m = inl (inl (inside_wanting t s e m))
      inside_wanting (trait_object p ts) s e m = inl (all_wanting ts s e m)
      inside_wanting (function fs p ts r) s e m = inl (all_wanting ts s e m)

      pub all_wanting : (ts : Reprs) (s : S) (e : E) → OfMemory e → all_inside call OfMemory ts s (Err e) s
      all_wanting no_reprs s e m = (m, refl)
      all_wanting (repr_and t ts) s e m = inl (inl (inside_wanting t s e m))

-- ts and then more
abbrev pub followed_by : List ReprData → Reprs → Reprs
followed_by [] us = us
followed_by (t ∷ ts) us = repr_and t (followed_by ts us)

pub followed_by_none : (ts : List ReprData) → followed_by ts no_reprs ≡ reprs_of ts
followed_by_none [] = refl
followed_by_none (t ∷ ts) = ap (repr_and t) (followed_by_none ts)

followed_by_one : (ts : List ReprData) (t : ReprData) (us : Reprs) → followed_by (ts ++ t ∷ []) us ≡ followed_by ts (repr_and t us)
followed_by_one [] t us = refl
followed_by_one (x ∷ ts) t us = ap (repr_and x) (followed_by_one ts t us)

-- the walk over a list, which has come to the one at i
module _ {S E X : Type 0} (OfMemory : E → Type 0) (call : ReprData → Walk S E ReprData) (v : X → ReprData) (xs : List X) (i : ℕ) (x : X) (h : i < length xs) where
  abbrev Left : Reprs → Walk S E Reprs
  Left ts = all_inside call OfMemory ts

  here : reprs_of (map v (drop i xs)) ≡ repr_and (v (get_or xs i x)) (reprs_of (map v (drop (suc i) xs)))
  here = ap (λ ys. reprs_of (map v ys)) (drop-cons xs i x h)

  -- an error at it
  pub left_ended : (s s' : S) (e : E) → bottom_up call OfMemory (v (get_or xs i x)) s (Err e) s' → Left (reprs_of (map v (drop i xs))) s (Err e) s'
  left_ended s s' e w = rw (here) (inl w)

  -- the allocation fails for its answer
  pub left_wanting : (s s' : S) (u : ReprData) (e : E) → bottom_up call OfMemory (v (get_or xs i x)) s (Ok u) s' → OfMemory e → Left (reprs_of (map v (drop i xs))) s (Err e) s'
  left_wanting s s' u e w m = rw (here) (inr (u, s', w, inl (all_wanting OfMemory call (reprs_of (map v (drop (suc i) xs))) s' e m)))

  -- its answer and those after it
  left_more : (s r s' : S) (u : ReprData) (a : Result Reprs E) → bottom_up call OfMemory (v (get_or xs i x)) s (Ok u) r → Left (reprs_of (map v (drop (i + 1) xs))) r a s' → Left (reprs_of (map v (drop i xs))) s (answered_as (repr_and u) a) s'
  left_more s r s' u (Ok us) w rest = rw (here) (u, r, w, (us, s', subst (λ k. Left (reprs_of (map v (drop k xs))) r (Ok us) s') (add-one i) rest, (refl, refl)))
  left_more s r s' u (Err e) w rest = rw (here) (inr (u, r, w, inl (subst (λ k. Left (reprs_of (map v (drop k xs))) r (Err e) s') (add-one i) rest)))

  -- one answer more before what is left
  one_before : (ts : List ReprData) (u : ReprData) (a : Result Reprs E) → answered_as (followed_by ts) (answered_as (repr_and u) a) ≡ answered_as (followed_by (ts ++ u ∷ [])) a
  one_before ts u (Ok us) = ap Ok (sym (followed_by_one ts u us))
  one_before ts u (Err e) = refl

  pub left_kept : {Y : Type 0} (w : Y → ReprData) (ys : List Y) (y : Y) (whole : Walk S E Reprs) (first s r : S) → bottom_up call OfMemory (v (get_or xs i x)) s (Ok (w y)) r
      → ((a : Result Reprs E) (last : S) → Left (reprs_of (map v (drop i xs))) s a last → whole first (answered_as (followed_by (map w ys)) a) last)
      → (a : Result Reprs E) (last : S) → Left (reprs_of (map v (drop (i + 1) xs))) r a last → whole first (answered_as (followed_by (map w (ys ++ y ∷ []))) a) last
  left_kept w ys y whole first s r one before a last rest =
      let done : whole first (answered_as (followed_by (map w ys)) (answered_as (repr_and (w y)) a)) last = before (answered_as (repr_and (w y)) a) last (left_more s r last (w y) a one rest) in
      subst (λ b. whole first b last) (one_before (map w ys) (w y) a ∙ ap (λ ts. answered_as (followed_by ts) a) (sym (map-append w ys (y ∷ [])))) done

-- types that hold one part in a box
module _ {S E : Type 0} (OfMemory : E → Type 0) (call : ReprData → Walk S E ReprData) (t x : TypeRepr) (b : Box TypeRepr Global) (s s' : S) where
  abbrev Boxed : Result ReprData E → Type 0
  Boxed a = (bottom_up call OfMemory (repr_view x) ▸ made OfMemory) s a s'

  in_slice : t ≡ variant.Slice b → x ≡ b.value → (a : Result ReprData E) → Boxed a → inside_type call OfMemory (repr_view t) s (answered_as slice a) s'
  in_slice is e a w = rw (is, slice_seen b, ← e) (made_as OfMemory (bottom_up call OfMemory (repr_view x)) slice s s' a w)

  pub slice_ended : t ≡ variant.Slice b → x ≡ b.value → (e : E) → Boxed (Err e) → inside_type call OfMemory (repr_view t) s (Err e) s'
  slice_ended is e y w = in_slice is e (Err y) w

  pub slice_walked : t ≡ variant.Slice b → x ≡ b.value → (d : Box TypeRepr Global) → Boxed (Ok (repr_view d.value)) → inside_type call OfMemory (repr_view t) s (Ok (repr_view (variant.Slice d))) s'
  slice_walked is e d w = rw (slice_seen d) (in_slice is e (Ok (repr_view d.value)) w)

-- a path with its arguments
pub nominal_walked : {S E : Type 0} (OfMemory : E → Type 0) (call : ReprData → Walk S E ReprData) (n : NominalTypeRepr) (p : Path) (ts : Vec TypeRepr Global) (s s' : S) → path_view p ≡ path_view n.path
    → all_inside call OfMemory (reprs_view n.types.items) s (Ok (reprs_view ts.items)) s'
    → (all_inside call OfMemory (applied_view n).1 ▸ λ us. made OfMemory ((applied_view n).0, us)) s (Ok (applied_view (roll-NominalTypeRepr record { path = p; types = ts }))) s'
nominal_walked OfMemory call n p ts s s' same w = rw (applied_is n, applied_is (roll-NominalTypeRepr record { path = p; types = ts }), same) (reprs_view ts.items, s', w, (refl, refl))
