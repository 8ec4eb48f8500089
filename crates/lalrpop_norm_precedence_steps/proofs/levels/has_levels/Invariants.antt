use Rattle.std.proofs.Common.{◌≡◌, Some, map, drop}
use Rattle.lalrpop_norm_tree.specs.Items.{alternative_view}
use Rattle.lalrpop_norm_model.specs.Levels.{has_levels}
use Rattle.lalrpop_norm_precedence_steps.proofs.levels.has_levels.Given as goal

abbrev pub invariant-loop-alternative : goal.invariant-loop-alternative
invariant-loop-alternative l =
    has_levels (map Some (map alternative_view (drop l.alternative-index l.alternatives))) ≡ has_levels (map Some (map alternative_view l.alternatives))
