-- Loops that add to a list what each element gives.
use Rattle.std.proofs.Common.{◌≡◌, ◌<◌, ◌≤◌, ◌+◌, ◌++◌, ℕ, List, [], ◌∷◌, length, drop, get_or, append-nil, append_assoc, sym, ap, ◌∙◌}
use Rattle.std.proofs.lemmas.List.{at_drop_more, at_drop_all}

module _ {X Y : Type 0} (xs : List X) (i : ℕ) where
  -- what is left gives F, and behind the next element G
  pub one_further : (F G : List X → List Y) (x d : X) (here before now all : List Y) → i < length xs → x ≡ get_or xs i d →
      F (x ∷ drop (i + 1) xs) ≡ here ++ G (drop (i + 1) xs) → now ≡ before ++ here → before ++ F (drop i xs) ≡ all → now ++ G (drop (i + 1) xs) ≡ all
  one_further F G x d here before now all lt is step adds so_far =
      ap (λ (ys : List Y). ys ++ G (drop (i + 1) xs)) adds
      ∙ append_assoc before here (G (drop (i + 1) xs))
      ∙ ap (λ (ys : List Y). before ++ ys) (sym step ∙ ap (λ (y : X). F (y ∷ drop (i + 1) xs)) is ∙ sym (at_drop_more F xs i d lt))
      ∙ so_far

  pub all_through : (F : List X → List Y) (before all : List Y) → length xs ≤ i → F [] ≡ [] → before ++ F (drop i xs) ≡ all → before ≡ all
  all_through F before all le none so_far =
      sym (append-nil before) ∙ ap (λ (ys : List Y). before ++ ys) (sym none ∙ sym (at_drop_all F xs i le)) ∙ so_far
