use Rattle.std.proofs.Common.{◌≡◌, ◌++◌, drop, map}
use Rattle.lalrpop_norm_tree.specs.Items.{alternative_view}
use Rattle.lalrpop_norm_common.specs.Uses.{places_in_alternatives}
use Rattle.lalrpop_norm_common.proofs.uses.add_alternatives.Given as goal

abbrev pub invariant-loop-alternative : goal.invariant-loop-alternative
invariant-loop-alternative l =
    l.uses.items ++ places_in_alternatives (map alternative_view (drop l.alternative-index l.alternatives))
    ≡ l.initial.uses.items ++ places_in_alternatives (map alternative_view l.alternatives)
