-- What a walk answers where each call answers one function of its part.
use Rattle.std.proofs.Common.{◌≡◌, Result, Ok, List, [], ◌∷◌, map, refl}
use Rattle.lalrpop_norm_tree_parts.specs.Walks.{Answered}

-- each call keeps Is, and answers a value that v sees as g of the part
module _ {S T U E V : Type 0} (Step : S → T → Result U E → S → Type 0) (Is : S → Type 0) (v : U → V) (g : T → V)
    (each : (s s' : S) (t : T) (u : U) → Is s → Step s t (Ok u) s' → (v u ≡ g t) × Is s') where
  pub answered_mapped : (s s' : S) (ts : List T) (us : List U) → Is s → Answered Step s ts us s' → map v us ≡ map g ts
  answered_mapped s s' [] [] is a = refl
  answered_mapped s s' [] (u ∷ us) is a = absurd a
  answered_mapped s s' (t ∷ ts) [] is a = absurd a
  answered_mapped s s' (t ∷ ts) (u ∷ us) is a =
      let one = each s a.0 t u is a.1 in
      let first = one.0 in
      let rest = answered_mapped a.0 s' ts us one.1 a.2 in
      cc
