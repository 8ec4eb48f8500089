-- What is in a buffer after a call.
use Rattle.std.specs.Prelude.{◌≡◌, ℕ, List, ◌++◌, length, take, drop, min}

-- The front of the text is in the buffer, as much of it as the buffer takes; what is behind it stays; and the count is the
-- length of the whole text.
pub record Takes (old new text : List ℕ) (count : ℕ) : Type 0 where
  pub size : count ≡ length text
  pub front : new ≡ take (min (length text) (length old)) text ++ drop (min (length text) (length old)) old
