use Rattle.std.proofs.Common.{◌≡◌, ◌+◌, ◌++◌, length, map, drop}
use Rattle.lalrpop_norm_tree.specs.Items.{alternative_view}
use Rattle.lalrpop_norm_precedence_steps.specs.StatedLevels.{alternative_level_view}
use Rattle.lalrpop_norm_precedence.specs.Grouped.{marked_view, marked_with}
use Rattle.lalrpop_norm_precedence.proofs.precedence.groups.mark.Given as goal

abbrev pub invariant-loop-alternative : goal.invariant-loop-alternative
invariant-loop-alternative l = record {
  count : l.i + length l.alternative-iterator.rest.items ≡ length l.levels;
  value : map marked_view l.marked.items
      ++ marked_with (map alternative_level_view (drop l.i l.levels)) (map alternative_view l.alternative-iterator.rest.items)
      ≡ marked_with (map alternative_level_view l.levels) (map alternative_view l.fn.alternatives.items);
}
