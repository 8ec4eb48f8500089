-- A beginning of two texts, one behind the other.
use Rattle.std.proofs.Common.{ℕ, ◌+◌, ◌≤◌, List, ◌++◌, Option, length, take, sym, subst, arith, length-append}
use Rattle.std.proofs.Math.Seq.{take-append-add}
use Rattle.std.proofs.lemmas.List.{take-append-le}
use Rattle.std.specs.Io.KnownBytes.{Appends}
use Rattle.std.proofs.KnownBytes.{Appends-trans}
use Rattle.lnorm_streams.specs.Streams.{WritesFront}

-- no more than a beginning of the first
pub front_here : (a b : Option (List ℕ)) (first second : List ℕ) → WritesFront a b first → WritesFront a b (first ++ second)
front_here a b first second begun =
    let fits : begun.0 ≤ length first = begun.1 in (
      begun.0,
      omega (arith, length-append first second, fits),
      subst (Appends a b) (sym (take-append-le begun.0 first second fits)) begun.2,
    )

-- the first, and a beginning of the second
pub front_then : (a b c : Option (List ℕ)) (first second : List ℕ) → Appends a b first → WritesFront b c second → WritesFront a c (first ++ second)
front_then a b c first second done begun =
    let fits : begun.0 ≤ length second = begun.1 in (
      length first + begun.0,
      omega (arith, length-append first second, fits),
      subst (Appends a c) (sym (take-append-add first second begun.0)) (Appends-trans a b c first (take begun.0 second) done begun.2),
    )
