use Rattle.std.proofs.Common.{◌≡◌, ◌++◌}
use Rattle.lalrpop_norm_tyinfer_steps.specs.Numbered.{rows_of_rules}
use Rattle.lalrpop_norm_tyinfer_steps.proofs.numbered.rows_with_types.Given as goal

abbrev pub invariant-loop-rule : goal.invariant-loop-rule
invariant-loop-rule l = l.rows.items ++ rows_of_rules l.rule-iterator.rest.items ≡ rows_of_rules l.fn.rules.items
