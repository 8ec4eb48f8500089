use Rattle.std.proofs.Common.{◌≡◌}
use Rattle.lalrpop_norm_names.specs.Numbers.{first_place}
use Rattle.lalrpop_norm_names.proofs.Places.{place_from}
use Rattle.lalrpop_norm_names.proofs.table.place_among.Given as goal

abbrev pub invariant-loop-place : goal.invariant-loop-place
invariant-loop-place l = place_from l.names l.place l.name ≡ first_place l.names l.name
