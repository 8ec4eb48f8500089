use Rattle.std.proofs.Common.{◌≡◌, ◌≤◌, length, map, drop}
use Rattle.lalrpop_norm_model.specs.Reading.{terminal_of}
use Rattle.lalrpop_norm_ambiguity.specs.Differences.{yield_difference}
use Rattle.lalrpop_norm_ambiguity.proofs.differences.first_difference.Given as goal

abbrev pub invariant-loop-index : goal.invariant-loop-index
invariant-loop-index l = record {
  within : l.index ≤ length l.other;
  same : yield_difference l.index (map terminal_of (drop l.index l.one)) (map terminal_of (drop l.index l.other))
      ≡ yield_difference 0 (map terminal_of l.one) (map terminal_of l.other);
}
