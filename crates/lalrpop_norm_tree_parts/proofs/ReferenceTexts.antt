-- What a reference begins with, written piece by piece.
use Rattle.std.proofs.Common.{◌≡◌, true, false, Bool, Option, Some, None, List, ◌++◌, ℕ, codes, refl, append_assoc}
use Rattle.std.proofs.lemmas.List.{append-nil}
use Rattle.std.proofs.Output.{has_written_append, has_written_of_eq}
use Rattle.std.specs.Fmt.{IsPlainFormatter, HasWritten}
use Rattle.std.specs.declared.fmt.Formatter.{Formatter}
use Rattle.lalrpop_norm_tree_names.specs.declared.names.Lifetime.{Lifetime}
use Rattle.lalrpop_norm_tree_parts.specs.TypeTexts.{reference_text}

-- all but `mut `
abbrev pub begun : Option Lifetime → List ℕ
begun None = codes "&"
begun (Some l) = codes "&" ++ (l.0 ++ codes " ")

mutable_text : (o : Option Lifetime) → begun o ++ codes "mut " ≡ reference_text o true
mutable_text None = refl
mutable_text (Some l) = simp append_assoc

immutable_text : (o : Option Lifetime) → begun o ≡ reference_text o false
immutable_text None = refl
immutable_text (Some l) = simp append-nil

module _ {W : Type 0} (took : W → List ℕ → W → Type 0) where
  abbrev pub Wrote : Formatter W → List ℕ → Formatter W → Type 0
  Wrote f a g = IsPlainFormatter f → true ≡ true → HasWritten took f a g

  pub with_lifetime : (f g h k m : Formatter W) (o : Option Lifetime) (l : Lifetime) → o ≡ Some l → Wrote f (codes "&") g → Wrote g l.0 h → Wrote h (codes " ") k → m ≡ k → Wrote f (begun o) m
  with_lifetime f g h k m o l is a b c e = λ plain ok.
      let first = a plain refl in
      let second = b first.plain refl in
      rw (is, e) (has_written_append took f (codes "&") g (l.0 ++ codes " ") k first (has_written_append took g l.0 h (codes " ") k second (c second.plain refl)))

  pub without_lifetime : (f g m : Formatter W) (o : Option Lifetime) → ((l : Lifetime) → o ≡ Some l → ⊥) → Wrote f (codes "&") g → m ≡ g → Wrote f (begun o) m
  without_lifetime f g m None n a e = λ plain ok. rw (e) (a plain refl)
  without_lifetime f g m (Some l) n a e = absurd (n l refl)

  pub not_mutable : (f m : Formatter W) (o : Option Lifetime) (b : Bool) → b ≡ false → Wrote f (begun o) m → Wrote f (reference_text o b) m
  not_mutable f m o b e a = λ plain ok. rw (e) (has_written_of_eq took f (begun o) (reference_text o false) m (immutable_text o) (a plain refl))

  pub mutable : (f m k : Formatter W) (o : Option Lifetime) (b : Bool) → b ≡ true → Wrote f (begun o) m → Wrote m (codes "mut ") k → Wrote f (reference_text o b) k
  mutable f m k o b e a c = λ plain ok.
      let first = a plain refl in
      rw (e) (has_written_of_eq took f (begun o ++ codes "mut ") (reference_text o true) k (mutable_text o) (has_written_append took f (begun o) m (codes "mut ") k first (c first.plain refl)))
