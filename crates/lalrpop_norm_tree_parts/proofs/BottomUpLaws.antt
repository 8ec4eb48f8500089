-- What a walk over a lowered type keeps, and what it answers where each call names lifetimes.
use Rattle.std.proofs.Common.{◌≡◌, ℕ, Result, Ok, Err, IfOk, List, refl, ap, subst, ◌∙◌, inl, inr}
use Rattle.std.specs.Fn.{Mut, Called}
use Rattle.lalrpop_norm_tree_parts.specs.declared.lowered.TypeRepr.{TypeRepr}
use Rattle.lalrpop_norm_tree_parts.specs.BottomUp.{Walk, ◌▸◌, made, inside_type, all_inside, return_inside, bottom_up, answered_as, CalledAtRepr}
use Rattle.lalrpop_norm_tree_parts.specs.LifetimeNames.{Scope, named_here, reference_named, named, all_named, return_named}
use Rattle.lalrpop_norm_tree_parts.specs.Reprs.{repr_view, ReprData, Reprs, MaybeRepr, tuple, slice, nominal, associated, of_lifetime, reference, trait_object, function, no_reprs, repr_and, no_repr, returns}

-- where each call keeps something from its state on, so does the walk
module _ {S E : Type 0} (OfMemory : E → Type 0) (call : ReprData → Walk S E ReprData) (Keeps : S → S → Type 0) (none : (s : S) → Keeps s s) (more : (s r s' : S) → Keeps s r → Keeps r s' → Keeps s s') (each : (t : ReprData) (s : S) (a : Result ReprData E) (s' : S) → call t s a s' → Keeps s s') where
  abbrev Kept : {A : Type 0} → Walk S E A → Type 0
  Kept {A} W = (s : S) (a : Result A E) (s' : S) → W s a s' → Keeps s s'

  made_kept : {A : Type 0} (x : A) → Kept (made OfMemory x)
  made_kept x s (Ok b) s' m = rw (m.1) (none s)
  made_kept x s (Err e) s' m = rw (m.1) (none s)

  then_kept : {A B : Type 0} (W : Walk S E A) (K : A → Walk S E B) → Kept W → ((x : A) → Kept (K x)) → Kept (W ▸ K)
  then_kept W K w k s (Ok b) s' (x, r, h, i) = more s r s' (w s (Ok x) r h) (k x r (Ok b) s' i)
  then_kept W K w k s (Err e) s' (inl h) = w s (Err e) s' h
  then_kept W K w k s (Err e) s' (inr (x, r, h, i)) = more s r s' (w s (Ok x) r h) (k x r (Err e) s' i)

  mutual
    inside_kept : (t : ReprData) → Kept (inside_type call OfMemory t)
    inside_kept (tuple ts) = then_kept (all_inside call OfMemory ts) (λ us. made OfMemory (tuple us)) (all_kept ts) (λ us. made_kept (tuple us))
    inside_kept (slice t) = then_kept (inside_type call OfMemory t ▸ call) (λ u. made OfMemory (slice u)) (then_kept (inside_type call OfMemory t) call (inside_kept t) each) (λ u. made_kept (slice u))
    inside_kept (nominal p ts) = then_kept (all_inside call OfMemory ts) (λ us. made OfMemory (nominal p us)) (all_kept ts) (λ us. made_kept (nominal p us))
    inside_kept (associated a b) = made_kept (associated a b)
    inside_kept (of_lifetime l) = made_kept (of_lifetime l)
    inside_kept (reference l m t) = then_kept (inside_type call OfMemory t ▸ call) (λ u. made OfMemory (reference l m u)) (then_kept (inside_type call OfMemory t) call (inside_kept t) each) (λ u. made_kept (reference l m u))
    inside_kept (trait_object p ts) = then_kept (all_inside call OfMemory ts) (λ us. made OfMemory (trait_object p us)) (all_kept ts) (λ us. made_kept (trait_object p us))
    inside_kept (function fs p ts r) =
        then_kept (all_inside call OfMemory ts) (λ us. return_inside call OfMemory r ▸ λ v. made OfMemory (function fs p us v)) (all_kept ts)
        (λ us. then_kept (return_inside call OfMemory r) (λ v. made OfMemory (function fs p us v)) (return_kept r) (λ v. made_kept (function fs p us v)))

    all_kept : (ts : Reprs) → Kept (all_inside call OfMemory ts)
    all_kept no_reprs = made_kept no_reprs
    all_kept (repr_and t ts) =
        then_kept (inside_type call OfMemory t ▸ call) (λ u. all_inside call OfMemory ts ▸ λ us. made OfMemory (repr_and u us)) (then_kept (inside_type call OfMemory t) call (inside_kept t) each)
        (λ u. then_kept (all_inside call OfMemory ts) (λ us. made OfMemory (repr_and u us)) (all_kept ts) (λ us. made_kept (repr_and u us)))

    return_kept : (r : MaybeRepr) → Kept (return_inside call OfMemory r)
    return_kept no_repr = made_kept no_repr
    return_kept (returns t) = then_kept (inside_type call OfMemory t ▸ call) (λ u. made OfMemory (returns u)) (then_kept (inside_type call OfMemory t) call (inside_kept t) each) (λ u. made_kept (returns u))

  pub bottom_up_keeps : (t : ReprData) (s : S) (a : Result ReprData E) (s' : S) → bottom_up call OfMemory t s a s' → Keeps s s'
  bottom_up_keeps t = then_kept (inside_type call OfMemory t) call (inside_kept t) each

-- where each call names lifetimes in a scope that its state holds, so does the walk
module _ {S E : Type 0} (OfMemory : E → Type 0) (call : ReprData → Walk S E ReprData) (prefix : List ℕ) (scope : S → Scope) (Is : S → Type 0) (each : (t : ReprData) (s : S) (u : ReprData) (s' : S) → Is s → call t s (Ok u) s' → ((u, scope s') ≡ named_here prefix t (scope s)) × Is s') where
  at_made : (x y v : ReprData) (q r s' : S) → (y ≡ x) × (r ≡ q) → Is q → call y r (Ok v) s' → ((v, scope s') ≡ named_here prefix x (scope q)) × Is s'
  at_made x y v q r s' m is c = each x q v s' is (rw (← m.0, ← m.1) c)

  mutual
    inside_names : (t : ReprData) (s : S) (u v : ReprData) (r s' : S) → Is s → inside_type call OfMemory t s (Ok u) r → call u r (Ok v) s' → ((v, scope s') ≡ named prefix t (scope s)) × Is s'
    inside_names (tuple ts) s u v r s' is (us, q, w, m) c =
        let all = all_names ts s us q is w in
        let here = at_made (tuple us) u v q r s' m all.1 c in
        (here.0 ∙ ap (λ p. (tuple p.0, p.1)) all.0, here.1)
    inside_names (slice t) s u v r s' is (x, q, (y, i, w, k), m) c =
        let part = inside_names t s y x i q is w k in
        let here = at_made (slice x) u v q r s' m part.1 c in
        (here.0 ∙ ap (λ p. (slice p.0, p.1)) part.0, here.1)
    inside_names (nominal n ts) s u v r s' is (us, q, w, m) c =
        let all = all_names ts s us q is w in
        let here = at_made (nominal n us) u v q r s' m all.1 c in
        (here.0 ∙ ap (λ p. (nominal n p.0, p.1)) all.0, here.1)
    inside_names (associated a b) s u v r s' is m c = at_made (associated a b) u v s r s' m is c
    inside_names (of_lifetime l) s u v r s' is m c = at_made (of_lifetime l) u v s r s' m is c
    inside_names (reference l n t) s u v r s' is (x, q, (y, i, w, k), m) c =
        let part = inside_names t s y x i q is w k in
        let here = at_made (reference l n x) u v q r s' m part.1 c in
        (here.0 ∙ ap (λ p. reference_named prefix l n p.0 p.1) part.0, here.1)
    inside_names (trait_object n ts) s u v r s' is (us, q, w, m) c =
        let all = all_names ts s us q is w in
        let here = at_made (trait_object n us) u v q r s' m all.1 c in
        (here.0 ∙ ap (λ p. (trait_object n p.0, p.1)) all.0, here.1)
    inside_names (function fs n ts o) s u v r s' is (us, q, w, (x, i, k, m)) c =
        let all = all_names ts s us q is w in
        let last = return_names o q x i all.1 k in
        let here = at_made (function fs n us x) u v i r s' m last.1 c in
        (here.0 ∙ ap (λ p. (function fs n us p.0, p.1)) last.0 ∙ ap (λ p. (function fs n p.0 (return_named prefix o p.1).0, (return_named prefix o p.1).1)) all.0, here.1)

    all_names : (ts : Reprs) (s : S) (us : Reprs) (s' : S) → Is s → all_inside call OfMemory ts s (Ok us) s' → ((us, scope s') ≡ all_named prefix ts (scope s)) × Is s'
    all_names no_reprs s us s' is m = rw (m.0, m.1) (refl, is)
    all_names (repr_and t ts) s us s' is (x, q, (y, i, w, k), (xs, j, h, m)) =
        let part = inside_names t s y x i q is w k in
        let rest = all_names ts q xs j part.1 h in
        let made_here : (us, scope s') ≡ (repr_and x xs, scope j) = rw (m.0, m.1) refl in
        (made_here ∙ ap (λ p. (repr_and x p.0, p.1)) rest.0 ∙ ap (λ p. (repr_and p.0 (all_named prefix ts p.1).0, (all_named prefix ts p.1).1)) part.0, rw (m.1) rest.1)

    return_names : (o : MaybeRepr) (s : S) (x : MaybeRepr) (s' : S) → Is s → return_inside call OfMemory o s (Ok x) s' → ((x, scope s') ≡ return_named prefix o (scope s)) × Is s'
    return_names no_repr s x s' is m = rw (m.0, m.1) (refl, is)
    return_names (returns t) s x s' is (z, q, (y, i, w, k), m) =
        let part = inside_names t s y z i q is w k in
        let made_here : (x, scope s') ≡ (returns z, scope q) = rw (m.0, m.1) refl in
        (made_here ∙ ap (λ p. (returns p.0, p.1)) part.0, rw (m.1) part.1)

  pub bottom_up_names : (t : ReprData) (s : S) (u : ReprData) (s' : S) → Is s → bottom_up call OfMemory t s (Ok u) s' → ((u, scope s') ≡ named prefix t (scope s)) × Is s'
  bottom_up_names t s u s' is (x, r, w, k) = inside_names t s x u r s' is w k

-- the same of a closure, from what its calls ensure
module _ {S E : Type 0} (g : Mut S (TypeRepr × Unit {0}) (Result TypeRepr E)) (OfMemory : E → Type 0) (t : ReprData) (s : S) (a : Result TypeRepr E) (s' : S) (w : bottom_up (CalledAtRepr g) OfMemory t s (answered_as repr_view a) s') where
  pub calls_keep : (Keeps : S → S → Type 0) → ((s : S) → Keeps s s) → ((s r s' : S) → Keeps s r → Keeps r s' → Keeps s s') → ((s : S) (y : TypeRepr) (b : Result TypeRepr E) (s' : S) → Called g s (y, tt) b s' → Keeps s s') → Keeps s s'
  calls_keep Keeps none more each = bottom_up_keeps OfMemory (CalledAtRepr g) Keeps none more (λ t s b s' c. each s c.shown c.answer s' c.called) t s (answered_as repr_view a) s' w

  named_one : (b : Result TypeRepr E) (u : ReprData) (n : Scope) (m : ReprData × Scope) → answered_as repr_view b ≡ Ok u → IfOk b (λ x. (repr_view x, n) ≡ m) → (u, n) ≡ m
  named_one (Ok x) u n m e h = let f : repr_view x ≡ u = cc in rw (← f) h
  named_one (Err y) u n m e h = absurd cc

  named_all : (prefix : S → List ℕ) (scope : S → Scope) → ((s : S) (y : TypeRepr) (b : Result TypeRepr E) (s' : S) → Called g s (y, tt) b s' → IfOk b (λ x. (repr_view x, scope s') ≡ named_here (prefix s) (repr_view y) (scope s)) × (prefix s' ≡ prefix s))
      → (b : Result TypeRepr E) → bottom_up (CalledAtRepr g) OfMemory t s (answered_as repr_view b) s' → IfOk b (λ x. (repr_view x, scope s') ≡ named (prefix s) t (scope s))
  named_all prefix scope each (Ok u) v =
      (bottom_up_names OfMemory (CalledAtRepr g) (prefix s) scope (λ q. prefix q ≡ prefix s)
      (λ t q u q' is c. let one = each q c.shown c.answer q' c.called in (
        named_one c.answer u (scope q') (named_here (prefix s) t (scope q)) c.is_seen (subst (λ p. IfOk c.answer (λ x. (repr_view x, scope q') ≡ named_here p t (scope q))) is (subst (λ y. IfOk c.answer (λ x. (repr_view x, scope q') ≡ named_here (prefix q) y (scope q))) c.shows one.0)),
        one.1 ∙ is,
      )) t s (repr_view u) s' refl v).0
  named_all prefix scope each (Err e) v = tt

  pub calls_name : (prefix : S → List ℕ) (scope : S → Scope) → ((s : S) (y : TypeRepr) (b : Result TypeRepr E) (s' : S) → Called g s (y, tt) b s' → IfOk b (λ x. (repr_view x, scope s') ≡ named_here (prefix s) (repr_view y) (scope s)) × (prefix s' ≡ prefix s)) → IfOk a (λ x. (repr_view x, scope s') ≡ named (prefix s) t (scope s))
  calls_name prefix scope each = named_all prefix scope each a w
