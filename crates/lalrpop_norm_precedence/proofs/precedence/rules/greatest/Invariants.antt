use Rattle.std.proofs.Common.{◌≡◌, map, drop}
use Rattle.lalrpop_norm_model.specs.Levels.{greatest}
use Rattle.lalrpop_norm_precedence.specs.Grouped.{LevelGroup, group_view}
use Rattle.lalrpop_norm_precedence.proofs.precedence.rules.greatest.Given as goal

abbrev pub invariant-loop-i : goal.invariant-loop-i
invariant-loop-i l = l.top ≡ greatest (map (λ (g : LevelGroup). g.0) (map group_view (drop l.i l.groups)))
