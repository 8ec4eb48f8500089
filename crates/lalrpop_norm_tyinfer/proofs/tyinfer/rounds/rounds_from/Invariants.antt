use Rattle.lalrpop_norm_tyinfer_steps.specs.Numbered.{numbered_table}
use Rattle.lalrpop_norm_tyinfer_steps.specs.Visits.{EndsRounds}
use Rattle.lalrpop_norm_tyinfer.specs.Rounds.{rules_seen, IsBetween}
use Rattle.lalrpop_norm_tyinfer.proofs.tyinfer.rounds.rounds_from.Given as goal

abbrev pub invariant-loop-count : goal.invariant-loop-count
invariant-loop-count l = record {
  between : IsBetween l.inference l.types l.stops l.now;
  ends : EndsRounds l.inference.parameters.now (numbered_table l.initial.types) (numbered_table l.types) (rules_seen l.inference) l.count;
}
