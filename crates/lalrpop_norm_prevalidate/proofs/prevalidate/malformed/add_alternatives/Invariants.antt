use Rattle.std.proofs.Common.{◌≡◌, ◌++◌, map, drop}
use Rattle.std.specs.List.{flat_map}
use Rattle.lalrpop_norm_tree.specs.Items.{alternative_view}
use Rattle.lalrpop_norm_prevalidate.specs.MalformedCfgs.{malformed_on_alternative}
use Rattle.lalrpop_norm_prevalidate.proofs.prevalidate.malformed.add_alternatives.Given as goal

abbrev pub invariant-loop-alternative : goal.invariant-loop-alternative
invariant-loop-alternative l =
    l.spans.items ++ flat_map malformed_on_alternative (map alternative_view (drop l.alternative-index l.alternatives)) ≡ l.initial.spans.items ++ flat_map malformed_on_alternative (map alternative_view l.alternatives)
