use Rattle.std.proofs.Common.{◌≡◌, map}
use Rattle.lalrpop_norm_theory.specs.Rounds.{In}
use Rattle.lalrpop_norm_model.specs.Levels.{Leveled}
use Rattle.lalrpop_norm_model.specs.Stated.{IsRising}
use Rattle.lalrpop_norm_precedence.specs.Grouped.{LevelGroup, marked_view, group_view, filled_groups, grouped}
use Rattle.lalrpop_norm_precedence.proofs.precedence.groups.group_by_level.Given as goal

abbrev pub invariant-loop-alternative : goal.invariant-loop-alternative
invariant-loop-alternative l = record {
  rising : IsRising l.levels.items;
  levels : map (λ (g : LevelGroup). g.0) (map group_view l.groups.items) ≡ l.levels.items;
  there : (a : Leveled) → In a (map marked_view l.alternative-iterator.rest.items) → In a.level l.levels.items;
  value : filled_groups (map group_view l.groups.items) (map marked_view l.alternative-iterator.rest.items) ≡ grouped (map marked_view l.fn.marked.items);
}
