use Rattle.std.proofs.Common.{◌≡◌, map, drop}
use Rattle.lalrpop_norm_model.specs.Levels.{Leveled, rising}
use Rattle.lalrpop_norm_precedence.specs.Grouped.{marked_view}
use Rattle.lalrpop_norm_precedence.proofs.precedence.groups.distinct.Given as goal

abbrev pub invariant-loop-i : goal.invariant-loop-i
invariant-loop-i l = l.levels.keys ≡ rising (map (λ (a : Leveled). a.level) (map marked_view (drop l.i l.marked)))
