use Rattle.std.proofs.Common.{◌≡◌, drop, map}
use Rattle.std.specs.List.{list_any}
use Rattle.lalrpop_norm_tree.specs.Items.{alternative_view}
use Rattle.lalrpop_norm_lower.specs.Carried.{any_error}
use Rattle.lalrpop_norm_lower.proofs.recovery.some_error.Given as goal

abbrev pub invariant-loop-alternative : goal.invariant-loop-alternative
invariant-loop-alternative l = list_any (λ a. any_error a.parts) (map alternative_view (drop l.alternative-index l.alternatives)) ≡ list_any (λ a. any_error a.parts) (map alternative_view l.alternatives)
