use Rattle.std.proofs.Common.{◌≡◌, drop, map}
use Rattle.std.specs.List.{list_all}
use Rattle.lalrpop_norm_tree.specs.Items.{alternative_view}
use Rattle.lalrpop_norm_common.specs.Sessions.{features_view}
use Rattle.lalrpop_norm_is_typed.specs.Terminals.{source_view}
use Rattle.lalrpop_norm_is_typed.specs.Used.{is_alternative_listed}
use Rattle.lalrpop_norm_is_typed.proofs.used.are_alternatives_listed.Given as goal

abbrev pub invariant-loop-alternative : goal.invariant-loop-alternative
invariant-loop-alternative g l = list_all (is_alternative_listed (features_view l.session.features) (source_view l.source)) (map alternative_view (drop l.alternative-index l.alternatives)) ≡ list_all (is_alternative_listed (features_view l.session.features) (source_view l.source)) (map alternative_view l.alternatives)
