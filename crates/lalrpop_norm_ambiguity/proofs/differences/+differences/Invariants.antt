use Rattle.std.proofs.Common.{◌≡◌, drop}
use Rattle.std.specs.Prelude.{option_map}
use Rattle.lalrpop_norm_explain.specs.Trees.{written_views}
use Rattle.lalrpop_norm_ambiguity.specs.Differences.{children_difference, merged, upwards}
use Rattle.lalrpop_norm_ambiguity.proofs.differences.+differences.Given as goal

abbrev pub invariant-differences-loop-index : goal.invariant-differences-loop-index
invariant-differences-loop-index l =
    merged (option_map upwards l.found) (children_difference (written_views (drop l.index l.firsts)) (written_views (drop l.index l.seconds)) l.index)
    ≡ children_difference (written_views l.firsts) (written_views l.seconds) 0
