use Rattle.std.proofs.Common.{◌≡◌, ◌++◌, drop, map}
use Rattle.lalrpop_norm_tyinfer_steps.specs.Needs.{names_seen}
use Rattle.lalrpop_norm_tyinfer_steps.specs.Visits.{rule_seen}
use Rattle.lalrpop_norm_tyinfer_steps.proofs.rules.names_of_rules.Given as goal

abbrev pub invariant-loop-rule : goal.invariant-loop-rule
invariant-loop-rule l = map (λ n. n.0) l.names.items ++ names_seen (map rule_seen (drop l.rule-index l.rules)) ≡ names_seen (map rule_seen l.rules)
