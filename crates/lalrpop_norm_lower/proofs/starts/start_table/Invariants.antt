use Rattle.std.proofs.Common.{◌≡◌, [], drop, map}
use Rattle.lalrpop_norm_lower.specs.Lowering.{sorted_onto}
use Rattle.lalrpop_norm_lower.specs.Starts.{start_named}
use Rattle.lalrpop_norm_lower.proofs.starts.start_table.Given as goal

abbrev pub invariant-loop-start : goal.invariant-loop-start
invariant-loop-start l = sorted_onto l.table.entries (map start_named (drop l.start-index l.starts)) ≡ sorted_onto [] (map start_named l.starts)
