-- Texts that are written one after the other.
use Rattle.std.proofs.Common.{◌≡◌, true, ◌++◌, List, ℕ, refl}
use Rattle.std.proofs.Output.{has_written_append}
use Rattle.std.specs.Fmt.{IsPlainFormatter, HasWritten}
use Rattle.std.specs.declared.fmt.Formatter.{Formatter}

-- a write that succeeded, and then another that did
pub and_then : {W : Type 0} (took : W → List ℕ → W → Type 0) (f g h : Formatter W) (a b : List ℕ) → (IsPlainFormatter f → true ≡ true → HasWritten took f a g)
    → (IsPlainFormatter g → true ≡ true → HasWritten took g b h) → IsPlainFormatter f → true ≡ true → HasWritten took f (a ++ b) h
and_then took f g h a b x y = λ plain ok. has_written_append took f a g b h (x plain refl) (y (x plain refl).plain refl)
