use Rattle.std.proofs.Common.{◌-◌, length, map}
use Rattle.lalrpop_norm_tyinfer_steps.specs.Numbered.{numbered_table, NumbersRules}
use Rattle.lalrpop_norm_tyinfer_steps.specs.Visits.{rule_seen}
use Rattle.lalrpop_norm_tyinfer_steps.proofs.RoundLemmas.{Midway}
use Rattle.lalrpop_norm_tyinfer.proofs.tyinfer.rounds.round.Given as goal

abbrev pub invariant-loop-place : goal.invariant-loop-place
invariant-loop-place l = record {
  midway : Midway l.inference.parameters.now (numbered_table l.initial.types) (numbered_table l.types) (map rule_seen l.inference.rules.now) l.stops l.from l.now l.next;
  numbered : NumbersRules l.types (map rule_seen l.inference.rules.now);
}

abbrev pub decreases-loop-place : goal.decreases-loop-place
decreases-loop-place l = length l.inference.rules.now - l.from
