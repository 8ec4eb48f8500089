use Rattle.std.proofs.Common.{◌≡◌, ◌++◌, drop, map}
use Rattle.lalrpop_norm_shared_types.specs.Table.{shared_table}
use Rattle.lalrpop_norm_lower.specs.Starts.{start_typed, typed_row}
use Rattle.lalrpop_norm_lower.proofs.start_types.typed_starts.Given as goal

abbrev pub invariant-loop-start : goal.invariant-loop-start
invariant-loop-start l = map typed_row l.typed.items ++ map (start_typed (shared_table l.types)) (drop l.start-index l.starts) ≡ map (start_typed (shared_table l.types)) l.starts
