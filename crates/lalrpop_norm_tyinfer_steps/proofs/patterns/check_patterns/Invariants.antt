use Rattle.std.proofs.Common.{◌≡◌, drop, map}
use Rattle.std.specs.List.{flat_map}
use Rattle.lalrpop_norm_tyinfer_steps.specs.Numbered.{numbered_table}
use Rattle.lalrpop_norm_model.specs.TuplePatterns.{rule_misfits}
use Rattle.lalrpop_norm_tyinfer_steps.specs.TableValues.{type_by_name}
use Rattle.lalrpop_norm_tyinfer_steps.specs.Visits.{plain_rule_view}
use Rattle.lalrpop_norm_tyinfer_steps.proofs.patterns.check_patterns.Given as goal

abbrev pub invariant-loop-rule : goal.invariant-loop-rule
invariant-loop-rule l = flat_map (rule_misfits (type_by_name (numbered_table l.types))) (map plain_rule_view (drop l.rule-index l.rules)) ≡ flat_map (rule_misfits (type_by_name (numbered_table l.types))) (map plain_rule_view l.rules)
