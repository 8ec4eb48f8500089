-- Lists of copies.
use Rattle.std.proofs.Common.{◌≡◌, List, [], ◌∷◌, map, refl, ap₂}
use Rattle.std.specs.List.{AllZip}

-- where each copy is seen as what it was copied from, so are all
pub same_views : {A V : Type 0} (v : A → V) (xs ys : List A) → AllZip (λ x y. v y ≡ v x) xs ys → map v ys ≡ map v xs
same_views v [] [] h = refl
same_views v [] (y ∷ ys) h = absurd h
same_views v (x ∷ xs) [] h = absurd h
same_views v (x ∷ xs) (y ∷ ys) h = ap₂ ◌∷◌ h.0 (same_views v xs ys h.1)
