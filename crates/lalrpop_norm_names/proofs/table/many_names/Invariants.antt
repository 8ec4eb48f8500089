use Rattle.std.proofs.Common.{◌≡◌, ℕ, List, map, bytes_eq}
use Rattle.std.specs.HashMap.{get}
use Rattle.lalrpop_norm_names.proofs.Places.{place_from}
use Rattle.lalrpop_norm_names.proofs.table.many_names.Given as goal

abbrev pub invariant-loop-place : goal.invariant-loop-place
invariant-loop-place l = (name : List ℕ) → get bytes_eq l.many name ≡ place_from (map (λ n. n.0) l.names) l.place name
