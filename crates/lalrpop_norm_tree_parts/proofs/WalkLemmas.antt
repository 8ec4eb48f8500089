-- Walks in pieces.
use Rattle.std.proofs.Common.{◌≡◌, ℕ, suc, ◌+◌, ◌<◌, Result, Ok, Err, IfOk, List, [], ◌∷◌, ◌++◌, map, take, drop, length, get_or, Bor, refl, sym, ap, subst, ◌∙◌, inl, inr}
use Rattle.std.proofs.Math.Seq.{drop-cons}
use Rattle.std.proofs.lemmas.Grind.{flat_map-append}
use Rattle.std.proofs.lemmas.List.{append-nil, map-append, take-append-drop, take_more}
use Rattle.std.specs.Prelude.{flat_map}
use Rattle.std.specs.Result.{IfErr, IsErrAnd}
use Rattle.std.specs.Fn.{Mut, Called, CalledAt}
use Rattle.lalrpop_norm_tree_parts.specs.Walks.{Answered, Ended}

-- what the exit of a `?` returns
pub if_err_is : {X E : Type 0} (Q : E → Type 0) (r : Result X E) (e : E) → IsErrAnd r (λ y. y ≡ e) → Q e → IfErr r Q
if_err_is Q (Ok x) e is q = tt
if_err_is Q (Err y) e is q = rw (is) q

pub if_err_has : {X E : Type 0} (P Q : E → Type 0) (r : Result X E) → IsErrAnd r P → ((e : E) → P e → Q e) → IfErr r Q
if_err_has P Q (Ok x) is q = tt
if_err_has P Q (Err y) is q = q y is

module _ {S T U E : Type 0} (Step : S → T → Result U E → S → Type 0) where
  pub answered_then : (s r s' : S) (ts vs : List T) (us ws : List U) → Answered Step s ts us r → Answered Step r vs ws s' → Answered Step s (ts ++ vs) (us ++ ws) s'
  answered_then s r s' [] vs [] ws is h = rw (← is) h
  answered_then s r s' [] vs (u ∷ us) ws away h = absurd away
  answered_then s r s' (t ∷ ts) vs [] ws away h = absurd away
  answered_then s r s' (t ∷ ts) vs (u ∷ us) ws a h = (a.0, a.1, answered_then a.0 r s' ts vs us ws a.2 h)

  -- as many answers as parts
  pub answered_all : (s s' : S) (ts : List T) (us : List U) → Answered Step s ts us s' → map (λ (u : U). tt {0}) us ≡ map (λ (t : T). tt {0}) ts
  answered_all s s' [] [] a = refl
  answered_all s s' [] (u ∷ us) away = absurd away
  answered_all s s' (t ∷ ts) [] away = absurd away
  answered_all s s' (t ∷ ts) (u ∷ us) a = ap (◌∷◌ (tt {0})) (answered_all a.0 s' ts us a.2)

  module _ (OfMemory : E → Type 0) where
    pub wanting : (s : S) (ts : List T) (e : E) → OfMemory e → Ended Step OfMemory s ts e s
    wanting s [] e m = (m, refl)
    wanting s (t ∷ ts) e m = inl (m, refl)

    pub ended_in : (s s' : S) (ts vs : List T) (e : E) → Ended Step OfMemory s ts e s' → Ended Step OfMemory s (ts ++ vs) e s'
    ended_in s s' [] vs e h = rw (h.1) (wanting s vs e h.0)
    ended_in s s' (t ∷ ts) vs e (inl h) = inl h
    ended_in s s' (t ∷ ts) vs e (inr (inl h)) = inr (inl h)
    ended_in s s' (t ∷ ts) vs e (inr (inr h)) = inr (inr (h.0, h.1, h.2, ended_in h.1 s' ts vs e h.3))

    pub ended_after : (s r s' : S) (ts vs : List T) (us : List U) (e : E) → Answered Step s ts us r → Ended Step OfMemory r vs e s' → Ended Step OfMemory s (ts ++ vs) e s'
    ended_after s r s' [] vs [] e is h = rw (← is) h
    ended_after s r s' [] vs (u ∷ us) e away h = absurd away
    ended_after s r s' (t ∷ ts) vs [] e away h = absurd away
    ended_after s r s' (t ∷ ts) vs (u ∷ us) e a h = inr (inr (u, a.0, a.1, ended_after a.0 r s' ts vs us e a.2 h))

-- a traversal of the parts of each of xs, which has reached index i
split_at : {X T : Type 0} (places : X → List T) (xs : List X) (i : ℕ) (x : X) → i < length xs → flat_map places xs ≡ flat_map places (take i xs) ++ (places (get_or xs i x) ++ flat_map places (drop (suc i) xs))
split_at places xs i x h =
    ap (flat_map places) (sym (take-append-drop i xs)) ∙ flat_map-append places (take i xs) (drop i xs)
    ∙ ap (λ r. flat_map places (take i xs) ++ flat_map places r) (drop-cons xs i x h)

-- one more element on both sides, of one shape
pub shape_more : {X Y V : Type 0} (v : X → V) (w : Y → V) (xs : List X) (ys : List Y) (i : ℕ) (x : X) (y : Y) → i < length xs → map w ys ≡ map v (take i xs) → w y ≡ v (get_or xs i x) → map w (ys ++ y ∷ []) ≡ map v (take (i + 1) xs)
shape_more v w xs ys i x y h same one =
    rw (take_more xs i x h, map-append w ys (y ∷ []), map-append v (take i xs) (get_or xs i x ∷ []), same, one) refl

module _ {S T U E X Y : Type 0} (Step : S → T → Result U E → S → Type 0) (places : X → List T) (results : Y → List U) where
  pub loop_answered : (s r s' : S) (xs : List X) (ys : List Y) (i : ℕ) (x : X) (y : Y) → i < length xs → Answered Step s (flat_map places (take i xs)) (flat_map results ys) r → Answered Step r (places (get_or xs i x)) (results y) s' → Answered Step s (flat_map places (take (i + 1) xs)) (flat_map results (ys ++ y ∷ [])) s'
  loop_answered s r s' xs ys i x y h a b =
      rw (take_more xs i x h, flat_map-append places (take i xs) (get_or xs i x ∷ []), flat_map-append results ys (y ∷ []), append-nil (places (get_or xs i x)), append-nil (results y))
      (answered_then Step s r s' (flat_map places (take i xs)) (places (get_or xs i x)) (flat_map results ys) (results y) a b)

  module _ (OfMemory : E → Type 0) where
    pub loop_ended : (s r s' : S) (xs : List X) (ys : List Y) (i : ℕ) (x : X) (e : E) → i < length xs → Answered Step s (flat_map places (take i xs)) (flat_map results ys) r → Ended Step OfMemory r (places (get_or xs i x)) e s' → Ended Step OfMemory s (flat_map places xs) e s'
    loop_ended s r s' xs ys i x e h a b =
        rw (split_at places xs i x h)
        (ended_after Step OfMemory s r s' (flat_map places (take i xs)) _ (flat_map results ys) e a (ended_in Step OfMemory r s' (places (get_or xs i x)) (flat_map places (drop (suc i) xs)) e b))

    -- the allocation fails for the result of the one at i
    pub loop_wanting : (s r s' : S) (xs : List X) (ys : List Y) (i : ℕ) (x : X) (y : Y) (e : E) → i < length xs → Answered Step s (flat_map places (take i xs)) (flat_map results ys) r → Answered Step r (places (get_or xs i x)) (results y) s' → OfMemory e → Ended Step OfMemory s (flat_map places xs) e s'
    loop_wanting s r s' xs ys i x y e h a b m =
        rw (split_at places xs i x h)
        (ended_after Step OfMemory s r s' (flat_map places (take i xs)) _ (flat_map results ys) e a
        (ended_after Step OfMemory r s' s' (places (get_or xs i x)) (flat_map places (drop (suc i) xs)) (results y) e b (wanting Step OfMemory s' _ e m)))

-- the case where each of ts is a part
list_split_at : {T : Type 0} (ts : List T) (i : ℕ) (t : T) → i < length ts → take i ts ++ get_or ts i t ∷ drop (suc i) ts ≡ ts
list_split_at ts i t h = ap (λ r. take i ts ++ r) (sym (drop-cons ts i t h)) ∙ take-append-drop i ts

-- calls at references
module _ {S T U E : Type 0} (g : Mut S (Bor T × Unit {0}) (Result U E)) where
  pub one_answered : (s s' : S) (y : Bor T) (r : Result U E) (u : U) → Called g s (y, tt) r s' → r ≡ Ok u → Answered (CalledAt g) s (y.now ∷ []) (u ∷ []) s'
  one_answered s s' y r u c is = (s', record { shown = y; shows = refl; called = rw (← is) c }, refl)

  pub one_ended : (OfMemory : E → Type 0) (s s' : S) (y : Bor T) (r : Result U E) (ts : List T) (e : E) → Called g s (y, tt) r s' → r ≡ Err e → Ended (CalledAt g) OfMemory s (y.now ∷ ts) e s'
  one_ended OfMemory s s' y r ts e c is = inr (inl (record { shown = y; shows = refl; called = rw (← is) c }))

  pub one_walked : (OfMemory : E → Type 0) (s s' : S) (y : Bor T) (r : Result U E) → Called g s (y, tt) r s' → IfOk r (λ u. Answered (CalledAt g) s (y.now ∷ []) (u ∷ []) s') × IfErr r (λ e. Ended (CalledAt g) OfMemory s (y.now ∷ []) e s')
  one_walked OfMemory s s' y (Ok u) c = (one_answered s s' y (Ok u) u c refl, tt)
  one_walked OfMemory s s' y (Err e) c = (tt, one_ended OfMemory s s' y (Err e) [] e c refl)

  module _ (s r s' : S) (ts : List T) (us : List U) (i : ℕ) (x : T) (y : Bor T) (a : Result U E) (h : i < length ts) (is : get_or ts i x ≡ y.now) (done : Answered (CalledAt g) s (take i ts) us r) (c : Called g r (y, tt) a s') where
    pub list_answered : (u : U) → a ≡ Ok u → Answered (CalledAt g) s (take (i + 1) ts) (us ++ u ∷ []) s'
    list_answered u ok = rw (take_more ts i x h, is) (answered_then (CalledAt g) s r s' (take i ts) (y.now ∷ []) us (u ∷ []) done (one_answered r s' y a u c ok))

    pub list_ended : (OfMemory : E → Type 0) (e : E) → a ≡ Err e → Ended (CalledAt g) OfMemory s ts e s'
    list_ended OfMemory e err =
        subst (λ l. Ended (CalledAt g) OfMemory s l e s') (list_split_at ts i x h)
        (ended_after (CalledAt g) OfMemory s r s' (take i ts) _ us e done (rw (is) (one_ended OfMemory r s' y a (drop (suc i) ts) e c err)))

    pub list_wanting : (OfMemory : E → Type 0) (u : U) (e : E) → a ≡ Ok u → OfMemory e → Ended (CalledAt g) OfMemory s ts e s'
    list_wanting OfMemory u e ok m =
        subst (λ l. Ended (CalledAt g) OfMemory s l e s') (list_split_at ts i x h)
        (ended_after (CalledAt g) OfMemory s r s' (take i ts) _ us e done
        (rw (is) (ended_after (CalledAt g) OfMemory r s' s' (y.now ∷ []) (drop (suc i) ts) (u ∷ []) e (one_answered r s' y a u c ok) (wanting (CalledAt g) OfMemory s' _ e m))))
