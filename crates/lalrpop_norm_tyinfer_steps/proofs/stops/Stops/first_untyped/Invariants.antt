use Rattle.std.proofs.Common.{◌≡◌, ◌<◌, ◌≤◌, ℕ, true, Option, Some, slice_get}
use Rattle.lalrpop_norm_tyinfer_steps.specs.Stops.{is_typed}
use Rattle.lalrpop_norm_tyinfer_steps.proofs.stops.Stops.first_untyped.Given as goal

abbrev pub invariant-loop-place : goal.invariant-loop-place
invariant-loop-place l = (j : ℕ) (o : Option ℕ) → l.from ≤ j → j < l.place → slice_get l.numbers j ≡ Some o → is_typed l.self o ≡ true
