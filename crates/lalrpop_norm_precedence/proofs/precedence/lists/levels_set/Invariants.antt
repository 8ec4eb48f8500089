use Rattle.std.proofs.Common.{◌≡◌, drop}
use Rattle.lalrpop_norm_model.specs.Levels.{rising}
use Rattle.lalrpop_norm_precedence.specs.LevelLists.{levels_held}
use Rattle.lalrpop_norm_precedence.proofs.precedence.lists.levels_set.Given as goal

abbrev pub invariant-loop-i : goal.invariant-loop-i
invariant-loop-i l = l.set.keys ≡ rising (levels_held (drop l.i l.levels))
