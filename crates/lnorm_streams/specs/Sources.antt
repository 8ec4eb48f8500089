-- Whether a read failed, of a source that reports it.
use Rattle.std.specs.Prelude.{◌≡◌, Bool, true, false, Option, None, Some}

-- that a read failed is known, where anything is
abbrev pub IsNoted : Option Bool → Type 0
IsNoted None = Unit {0}
IsNoted (Some failed) = failed ≡ true

-- no read had failed before, and one did since
abbrev pub FailedSince : Option Bool → Option Bool → Type 0
FailedSince old new = (old ≡ Some false) × (new ≡ Some true)
