use Rattle.std.proofs.Common.{◌≡◌, drop, map}
use Rattle.std.specs.List.{flat_map}
use Rattle.lalrpop_norm_tyinfer_steps.specs.Numbered.{numbered_table}
use Rattle.lalrpop_norm_tyinfer_steps.specs.TableFaults.{untyped_in}
use Rattle.lalrpop_norm_tyinfer_steps.specs.Visits.{plain_rule_view}
use Rattle.lalrpop_norm_tyinfer_steps.proofs.grounded.check_typed.Given as goal

abbrev pub invariant-loop-number : goal.invariant-loop-number
invariant-loop-number l = flat_map (untyped_in (numbered_table l.types)) (map plain_rule_view (drop l.number l.rules)) ≡ flat_map (untyped_in (numbered_table l.types)) (map plain_rule_view l.rules)
