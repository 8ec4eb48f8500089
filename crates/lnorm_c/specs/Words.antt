-- Arguments in one text.
use Rattle.std.specs.Prelude.{◌≡◌, ◌==◌, ℕ, List, [], ◌∷◌, ◌++◌, IsUtf8}
use Rattle.std.specs.List.{slice_split}

-- the text is these arguments, each ended by a zero byte
pub record AreWords (text : List ℕ) (words : List (List ℕ)) : Type 0 where
  pub utf8 : IsUtf8 text
  pub parts : slice_split (λ b. b == 0) text ≡ words ++ [] ∷ []
