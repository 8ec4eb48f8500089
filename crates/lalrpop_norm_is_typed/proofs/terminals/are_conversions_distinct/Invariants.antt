use Rattle.std.proofs.Common.{◌≡◌, drop, map}
use Rattle.lalrpop_norm_tree.specs.Items.{conversion_view}
use Rattle.lalrpop_norm_common.specs.Sessions.{features_view}
use Rattle.lalrpop_norm_is_typed.specs.Terminals.{are_conversions_distinct}
use Rattle.lalrpop_norm_is_typed.proofs.terminals.are_conversions_distinct.Given as goal

abbrev pub invariant-loop-i : goal.invariant-loop-i
invariant-loop-i g l = are_conversions_distinct (features_view l.session.features) (map conversion_view (drop l.i l.conversions)) ≡ are_conversions_distinct (features_view l.session.features) (map conversion_view l.conversions)
