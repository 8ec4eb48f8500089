use Rattle.std.proofs.Common.{◌≡◌, drop, map}
use Rattle.std.specs.List.{list_all}
use Rattle.lalrpop_norm_tree.specs.Items.{alternative_view}
use Rattle.lalrpop_norm_macro_expand.specs.Stays.{alternative_stays}
use Rattle.lalrpop_norm_macro_expand.proofs.macro_expand.stays.alternatives_stay.Given as goal

abbrev pub invariant-loop-alternative : goal.invariant-loop-alternative
invariant-loop-alternative l = list_all alternative_stays (map alternative_view (drop l.alternative-index l.alternatives)) ≡ list_all alternative_stays (map alternative_view l.alternatives)
