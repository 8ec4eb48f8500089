use Rattle.std.proofs.Common.{◌≡◌, drop, map}
use Rattle.std.specs.List.{flat_map}
use Rattle.lalrpop_norm_tyinfer_steps.specs.TableFaults.{lacking_seen}
use Rattle.lalrpop_norm_tyinfer_steps.specs.Visits.{rule_seen}
use Rattle.lalrpop_norm_tyinfer_steps.proofs.grounded.check_clauses.Given as goal

abbrev pub invariant-loop-rule : goal.invariant-loop-rule
invariant-loop-rule l = flat_map lacking_seen (map rule_seen (drop l.rule-index l.rules)) ≡ flat_map lacking_seen (map rule_seen l.rules)
