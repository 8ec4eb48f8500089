use Rattle.std.proofs.Common.{take, map}
use Rattle.lalrpop_norm_names.specs.Numbers.{number_in_table}
use Rattle.lalrpop_norm_tyinfer_steps.specs.Needs.{AreNeeds}
use Rattle.lalrpop_norm_tyinfer_steps.specs.Visits.{rule_seen}
use Rattle.lalrpop_norm_tyinfer_steps.proofs.needs.needs_of.Given as goal

abbrev pub invariant-loop-rule : goal.invariant-loop-rule
invariant-loop-rule l = AreNeeds (number_in_table l.names) l.parameters (map rule_seen (take l.rule l.rules)) l.needs.items
