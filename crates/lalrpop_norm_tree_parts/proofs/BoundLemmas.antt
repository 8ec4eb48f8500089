-- One more element on both sides, seen through f.
use Rattle.std.proofs.Common.{List, [], ◌∷◌, ◌++◌, map}
use Rattle.std.specs.List.{AllZip}

pub all_zip_more : {X D : Type 0} (R : D → D → Type 0) (f : X → D) (xs ys : List X) (x y : X) → AllZip R (map f xs) (map f ys) → R (f x) (f y) → AllZip R (map f (xs ++ x ∷ [])) (map f (ys ++ y ∷ []))
all_zip_more R f [] [] x y h k = (k, tt)
all_zip_more R f [] (b ∷ ys) x y h k = absurd h
all_zip_more R f (a ∷ xs) [] x y h k = absurd h
all_zip_more R f (a ∷ xs) (b ∷ ys) x y h k = (h.0, all_zip_more R f xs ys x y h.1 k)
