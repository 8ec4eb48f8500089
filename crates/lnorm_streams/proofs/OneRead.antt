-- One more read.
use Rattle.std.proofs.Common.{◌≡◌, ℕ, List, [], ◌++◌, Bool, Option, Result, Ok, Err, take, sym, subst, append-nil}
use Rattle.std.specs.Prelude.{OnOk}
use Rattle.std.specs.Io.KnownBytes.{Consumes}
use Rattle.std.proofs.KnownBytes.{Consumes-trans}
use Rattle.lnorm_streams.specs.Sources.{FailedSince}

pub more_read : (a b c : Option (List ℕ)) (bytes more all : List ℕ) → Consumes a b bytes → Consumes b c more → all ≡ bytes ++ more → Consumes a c all
more_read a b c bytes more all first next is = subst (Consumes a c) (sym is) (Consumes-trans a b c bytes more first next)

pub nothing_read : (a b c : Option (List ℕ)) (bytes buffer : List ℕ) (n : ℕ) → Consumes a b bytes → Consumes b c (take n buffer) → n ≡ 0 → Consumes a c bytes
nothing_read a b c bytes buffer n first next is =
    let none : Consumes b c [] = subst (λ k. Consumes b c (take k buffer)) is next in
    more_read a b c bytes [] bytes first none (sym (append-nil bytes))

pub none_failed : (P : Type 0) (a b c : Option Bool) → b ≡ a → c ≡ b → FailedSince a c → P
none_failed P a b c first next failed = cc

pub at_ok : {E : Type 0} (r : Result ℕ E) (n : ℕ) (a b : Option Bool) → OnOk r (a ≡ b) → r ≡ Ok n → a ≡ b
at_ok (Ok m) n a b same is = same
at_ok (Err e) n a b same is = cc
