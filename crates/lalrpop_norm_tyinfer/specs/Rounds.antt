-- What holds between two rounds of inference.
use Rattle.std.specs.Prelude.{List, map}
use Rattle.lalrpop_norm_theory.specs.Rounds.{IsDistinct}
use Rattle.lalrpop_norm_tyinfer_steps.specs.declared.numbered.Numbered.{Numbered}
use Rattle.lalrpop_norm_tyinfer_steps.specs.declared.stops.Stops.{Stops}
use Rattle.lalrpop_norm_tyinfer_steps.specs.declared.waiting.Waiting.{Waiting}
use Rattle.lalrpop_norm_tyinfer_steps.specs.Needs.{names_seen}
use Rattle.lalrpop_norm_tyinfer_steps.specs.Numbered.{numbered_table, NumbersRules}
use Rattle.lalrpop_norm_tyinfer_steps.specs.Visits.{Seen, rule_seen}
use Rattle.lalrpop_norm_tyinfer_steps.specs.Waiting.{Waits, Watches}
use Rattle.lalrpop_norm_tyinfer.specs.declared.tyinfer.rounds.Inference.{Inference}

-- the rules, with their clauses
abbrev pub rules_seen : Inference → List Seen
rules_seen i = map rule_seen i.rules.now

-- The rules are numbered, and their names distinct; the stops know which of them have types, and the others that may take one in the
-- next round are on its worklist.
pub record IsBetween (i : Inference) (types : Numbered) (stops : Stops) (waiting : Waiting) : Type 0 where
  pub distinct : IsDistinct (names_seen (rules_seen i))
  pub numbered : NumbersRules types (rules_seen i)
  pub watches : Watches i.parameters.now (numbered_table types) (rules_seen i) stops
  pub waits : Waits i.parameters.now (numbered_table types) (rules_seen i) waiting
