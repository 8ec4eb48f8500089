use Rattle.std.proofs.Common.{◌≡◌, drop, map}
use Rattle.lalrpop_norm_tree.specs.Items.{conversion_view}
use Rattle.lalrpop_norm_common.specs.Sessions.{features_view}
use Rattle.lalrpop_norm_is_typed.specs.Terminals.{is_converted}
use Rattle.lalrpop_norm_is_typed.proofs.terminals.is_converted.Given as goal

abbrev pub invariant-loop-conversion : goal.invariant-loop-conversion
invariant-loop-conversion g l = is_converted (features_view l.session.features) (map conversion_view (drop l.conversion-index l.conversions)) l.terminal ≡ is_converted (features_view l.session.features) (map conversion_view l.conversions) l.terminal
