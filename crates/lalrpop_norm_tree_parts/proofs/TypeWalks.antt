-- Walks over a lowered type of each kind, from the walks over its parts.
use Rattle.std.proofs.Common.{◌≡◌, ℕ, Bool, Result, Ok, Err, List, Option, Some, option_map, Box, Vec, Global, refl, sym, ap, ap₂, subst, ◌∙◌, inl, inr}
use Rattle.lalrpop_norm_tree_names.specs.declared.names.Lifetime.{Lifetime}
use Rattle.lalrpop_norm_tree_names.specs.declared.names.TypeParameter.{TypeParameter}
use Rattle.lalrpop_norm_tree_parts.specs.BottomUp.{Walk, ◌▸◌, made, inside_type, all_inside, return_inside, bottom_up}
use Rattle.lalrpop_norm_tree_parts.specs.declared.path.Path.{Path}
use Rattle.lalrpop_norm_tree_parts.specs.declared.lowered.TypeRepr.{TypeRepr}
use Rattle.lalrpop_norm_tree_parts.specs.declared.lowered.NominalTypeRepr.{NominalTypeRepr}
use Rattle.lalrpop_norm_tree_parts.specs.declared.lowered.TypeRepr.TheVariants as variant
use Rattle.lalrpop_norm_tree_parts.specs.Paths.{path_view}
use Rattle.lalrpop_norm_tree_parts.specs.Reprs.{repr_view, reprs_view, applied_view, maybe_repr_of, MaybeRepr, Applied, ReprData, tuple, nominal, associated, of_lifetime, reference, trait_object, function, returns}
use Rattle.lalrpop_norm_tree_parts.proofs.ReprSeen.{associated_seen, lifetime_seen, reference_seen, object_seen, function_seen, applied_is}
use Rattle.lalrpop_norm_tree_parts.proofs.ReprViews.{view_tuple, view_nominal}

module _ {S E : Type 0} (OfMemory : E → Type 0) (call : ReprData → Walk S E ReprData) where
  abbrev AppliedWalk : Applied → Walk S E Applied
  AppliedWalk a = all_inside call OfMemory a.1 ▸ λ us. made OfMemory (a.0, us)

  abbrev BoxedWalk : ReprData → Walk S E ReprData
  BoxedWalk x = bottom_up call OfMemory x ▸ made OfMemory

  abbrev maybe : Option (Box TypeRepr Global) → MaybeRepr
  maybe r = maybe_repr_of (option_map (λ b. repr_view b.value) r)

  module _ (t : TypeRepr) (s s' : S) where
    abbrev Inside : Result ReprData E → Type 0
    Inside a = inside_type call OfMemory (repr_view t) s a s'

    seen_as : (x : ReprData) (a : Result ReprData E) → repr_view t ≡ x → inside_type call OfMemory x s a s' → Inside a
    seen_as x a e w = subst (λ (y : ReprData). inside_type call OfMemory y s a s') (sym e) w

    pub tuple_ended : (ts : Vec TypeRepr Global) → t ≡ variant.Tuple ts → (e : E) → all_inside call OfMemory (reprs_view ts.items) s (Err e) s' → Inside (Err e)
    tuple_ended ts is e w = seen_as (tuple (reprs_view ts.items)) (Err e) (ap repr_view is ∙ view_tuple ts) (inl w)

    pub tuple_walked : (ts us : Vec TypeRepr Global) → t ≡ variant.Tuple ts → all_inside call OfMemory (reprs_view ts.items) s (Ok (reprs_view us.items)) s' → Inside (Ok (repr_view (variant.Tuple us)))
    tuple_walked ts us is w = seen_as (tuple (reprs_view ts.items)) (Ok (repr_view (variant.Tuple us))) (ap repr_view is ∙ view_tuple ts) (reprs_view us.items, s', w, (view_tuple us, refl))

    module _ (n : NominalTypeRepr) where
      pub nominal_ended : t ≡ variant.Nominal n → (e : E) → AppliedWalk (applied_view n) s (Err e) s' → Inside (Err e)
      nominal_ended is e w = seen_as (nominal (applied_view n).0 (applied_view n).1) (Err e) (ap repr_view is ∙ view_nominal n) w

      pub nominal_held : t ≡ variant.Nominal n → (m : NominalTypeRepr) → AppliedWalk (applied_view n) s (Ok (applied_view m)) s' → Inside (Ok (repr_view (variant.Nominal m)))
      nominal_held is m w =
          seen_as (nominal (applied_view n).0 (applied_view n).1) (Ok (repr_view (variant.Nominal m))) (ap repr_view is ∙ view_nominal n)
          (w.0, w.1, w.2, (view_nominal m ∙ ap (λ (x : Applied). nominal x.0 x.1) w.3.0, w.3.1))

      pub object_ended : t ≡ variant.TraitObject n → (e : E) → AppliedWalk (applied_view n) s (Err e) s' → Inside (Err e)
      object_ended is e w = seen_as (trait_object (applied_view n).0 (applied_view n).1) (Err e) (ap repr_view is ∙ object_seen n) w

      pub object_held : t ≡ variant.TraitObject n → (m : NominalTypeRepr) → AppliedWalk (applied_view n) s (Ok (applied_view m)) s' → Inside (Ok (repr_view (variant.TraitObject m)))
      object_held is m w =
          seen_as (trait_object (applied_view n).0 (applied_view n).1) (Ok (repr_view (variant.TraitObject m))) (ap repr_view is ∙ object_seen n)
          (w.0, w.1, w.2, (object_seen m ∙ ap (λ (x : Applied). trait_object x.0 x.1) w.3.0, w.3.1))

    pub referent_walked : (l : Option Lifetime) (m : Bool) (b : Box TypeRepr Global) (x : TypeRepr) (a : Result ReprData E) → t ≡ variant.Ref l m b → x ≡ b.value → inside_type call OfMemory (reference l m (repr_view x)) s a s' → Inside a
    referent_walked l m b x a is same w = seen_as (reference l m (repr_view x)) a (ap repr_view is ∙ reference_seen l m b ∙ ap (λ y. reference l m (repr_view y)) (sym same)) w

    module _ (fs : Vec TypeParameter Global) (p : Path) (ts : Vec TypeRepr Global) (r : Option (Box TypeRepr Global)) (is : t ≡ variant.Fn fs p ts r) where
      of_function : (a : Result ReprData E) → inside_type call OfMemory (function fs.items (path_view p) (reprs_view ts.items) (maybe r)) s a s' → Inside a
      of_function a w = seen_as (function fs.items (path_view p) (reprs_view ts.items) (maybe r)) a (ap repr_view is ∙ function_seen fs p ts r) w

      pub function_ended : (e : E) → all_inside call OfMemory (reprs_view ts.items) s (Err e) s' → Inside (Err e)
      function_ended e w = of_function (Err e) (inl w)

      module _ (us : Vec TypeRepr Global) (q : S) (w : all_inside call OfMemory (reprs_view ts.items) s (Ok (reprs_view us.items)) q) where
        pub function_ended_last : (e : E) → return_inside call OfMemory (maybe r) q (Err e) s' → Inside (Err e)
        function_ended_last e v = of_function (Err e) (inr (reprs_view us.items, q, w, inl v))

        pub function_walked : (gs : Vec TypeParameter Global) (path : Path) (o : Option (Box TypeRepr Global)) → gs.items ≡ fs.items → path_view path ≡ path_view p
            → return_inside call OfMemory (maybe r) q (Ok (maybe o)) s' → Inside (Ok (repr_view (variant.Fn gs path us o)))
        function_walked gs path o a b v =
            of_function (Ok (repr_view (variant.Fn gs path us o)))
            (reprs_view us.items, q, w, (maybe o, s', v, (function_seen gs path us o ∙ ap₂ (λ x y. function x y (reprs_view us.items) (maybe o)) a b, refl)))

  pub associated_walked : (t : TypeRepr) (s : S) (p a q b : List ℕ) → t ≡ variant.Associated p a → q ≡ p → b ≡ a → inside_type call OfMemory (repr_view t) s (Ok (repr_view (variant.Associated q b))) s
  associated_walked t s p a q b is e f = seen_as t s s (associated p a) (Ok (repr_view (variant.Associated q b))) (ap repr_view is ∙ associated_seen p a) (associated_seen q b ∙ ap₂ associated e f, refl)

  pub lifetime_walked : (t : TypeRepr) (s : S) (l k : Lifetime) → t ≡ variant.Lifetime l → k ≡ l → inside_type call OfMemory (repr_view t) s (Ok (repr_view (variant.Lifetime k))) s
  lifetime_walked t s l k is e = seen_as t s s (of_lifetime l) (Ok (repr_view (variant.Lifetime k))) (ap repr_view is ∙ lifetime_seen l) (lifetime_seen k ∙ ap of_lifetime e, refl)

  module _ (s s' : S) where
    pub reference_made : (l k : Option Lifetime) (m : Bool) (x : ReprData) (b : Box TypeRepr Global) → k ≡ l → BoxedWalk x s (Ok (repr_view b.value)) s' → inside_type call OfMemory (reference l m x) s (Ok (repr_view (variant.Ref k m b))) s'
    reference_made l k m x b e w = (w.0, w.1, w.2, (reference_seen k m b ∙ ap₂ (λ y z. reference y m z) e w.3.0, w.3.1))

    module _ (r : Option (Box TypeRepr Global)) (b : Box TypeRepr Global) (x : TypeRepr) (is : r ≡ Some b) (same : x ≡ b.value) where
      pub return_ended : (e : E) → BoxedWalk (repr_view x) s (Err e) s' → return_inside call OfMemory (maybe r) s (Err e) s'
      return_ended e w = subst (λ (y : MaybeRepr). return_inside call OfMemory y s (Err e) s') (ap (λ y. returns (repr_view y)) same ∙ ap maybe (sym is)) w

      pub return_walked : (d : Box TypeRepr Global) → BoxedWalk (repr_view x) s (Ok (repr_view d.value)) s' → return_inside call OfMemory (maybe r) s (Ok (returns (repr_view d.value))) s'
      return_walked d w = subst (λ (y : MaybeRepr). return_inside call OfMemory y s (Ok (returns (repr_view d.value))) s') (ap (λ y. returns (repr_view y)) same ∙ ap maybe (sym is)) (w.0, w.1, w.2, (ap returns w.3.0, w.3.1))

    pub applied_ended : (n : NominalTypeRepr) (e : E) → all_inside call OfMemory (reprs_view n.types.items) s (Err e) s' → AppliedWalk (applied_view n) s (Err e) s'
    applied_ended n e w = subst (λ (a : Applied). AppliedWalk a s (Err e) s') (sym (applied_is n)) (inl w)
