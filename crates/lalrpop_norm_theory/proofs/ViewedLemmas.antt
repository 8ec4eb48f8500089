-- Rounds of things that are compared by a view, as of symbols with their spans: seen through the view they are the rounds of
-- the views, and each thing is the first one reached of its view.
use Rattle.std.proofs.Common.{◌≡◌, ℕ, zero, suc, List, [], ◌∷◌, ◌++◌, Bool, true, false, map, reverse, refl, ap, ap₂, ◌∙◌}
use Rattle.std.specs.Prelude.{flat_map, ◌||◌, if◌then◌else◌}
use Rattle.std.proofs.lemmas.List.{map-append}
use mathlib.Core.List.{reverse-cons}
use Rattle.lalrpop_norm_theory.specs.Rounds.{is_in, fresh_of, Round, rounds}

module _ {A B : Type 0} (view : A → B) where
  map_reverse : (xs : List A) → map view (reverse xs) ≡ reverse (map view xs)
  map_reverse [] = refl
  map_reverse (x ∷ xs) = rw (reverse-cons x xs, reverse-cons (view x) (map view xs), map-append view (reverse xs) (x ∷ []), map_reverse xs) refl

module _ {A B : Type 0} (view : A → B) (same : B → B → Bool) where
  -- two things are the same where their views are
  abbrev pub same_view : A → A → Bool
  same_view a b = same (view a) (view b)

  pub is_in_viewed : (x : A) (xs : List A) → is_in same_view x xs ≡ is_in same (view x) (map view xs)
  is_in_viewed x [] = refl
  is_in_viewed x (y ∷ ys) = ap (λ b. same (view x) (view y) || b) (is_in_viewed x ys)

  pub fresh_viewed : (seen xs : List A) → map view (fresh_of same_view seen xs) ≡ fresh_of same (map view seen) (map view xs)
  fresh_viewed seen [] = refl
  fresh_viewed seen (x ∷ xs) =
      rw (← is_in_viewed x seen)
      (kept (is_in same_view x seen) (fresh_viewed seen xs) (fresh_viewed (x ∷ seen) xs))
    where
      kept : (b : Bool) → map view (fresh_of same_view seen xs) ≡ fresh_of same (map view seen) (map view xs) →
          map view (fresh_of same_view (x ∷ seen) xs) ≡ fresh_of same (map view (x ∷ seen)) (map view xs) →
          map view (if b then fresh_of same_view seen xs else x ∷ fresh_of same_view (x ∷ seen) xs) ≡
          (if b then fresh_of same (map view seen) (map view xs) else view x ∷ fresh_of same (view x ∷ map view seen) (map view xs))
      kept true e f = e
      kept false e f = ap (λ r. view x ∷ r) f

  module _ (meets : A → List A) (view_meets : B → List B) (agree : (a : A) → map view (meets a) ≡ view_meets (view a)) where
    pub met_viewed : (xs : List A) → map view (flat_map meets xs) ≡ flat_map view_meets (map view xs)
    met_viewed [] = refl
    met_viewed (x ∷ xs) = map-append view (meets x) (flat_map meets xs) ∙ ap₂ ◌++◌ (agree x) (met_viewed xs)

    -- each round, seen through the view, is the round of the views
    pub rounds_viewed : (start : List A) (k : ℕ) →
        (map view (rounds same_view meets start k).seen ≡ (rounds same view_meets (map view start) k).seen)
        × (map view (rounds same_view meets start k).fresh ≡ (rounds same view_meets (map view start) k).fresh)
    rounds_viewed start zero = (refl, fresh_viewed [] start)
    rounds_viewed start (suc k) =
        let r : Round A = rounds same_view meets start k in
        let (seen, fresh) = rounds_viewed start k in
        let all = map-append view r.seen r.fresh ∙ ap₂ ◌++◌ seen fresh in
        let met = met_viewed (reverse r.fresh) ∙ ap (flat_map view_meets) (map_reverse view r.fresh ∙ ap reverse fresh) in
        (all, fresh_viewed (r.seen ++ r.fresh) (flat_map meets (reverse r.fresh)) ∙ ap₂ (λ s m. fresh_of same s m) all met)
