use Rattle.std.proofs.Common.{◌≡◌, List, drop, map}
use Rattle.std.specs.List.{flat_map}
use Rattle.lalrpop_norm_tree_names.specs.declared.names.TypeParameter.{TypeParameter}
use Rattle.lalrpop_norm_tyinfer_steps.specs.Numbered.{numbered_table}
use Rattle.lalrpop_norm_tyinfer_steps.specs.TableFaults.{others_in, AgreeAlone}
use Rattle.lalrpop_norm_tyinfer_steps.specs.Visits.{plain_rule_view, rule_seen}
use Rattle.lalrpop_norm_tyinfer.proofs.tyinfer.agreement.check_agreement.Given as goal

abbrev pub invariant-loop-rule : goal.invariant-loop-rule
invariant-loop-rule l = (ps : List TypeParameter) → AgreeAlone ps (numbered_table l.types) (map rule_seen l.rules) → flat_map (others_in ps (numbered_table l.types)) (map plain_rule_view (drop l.rule-index l.rules)) ≡ flat_map (others_in ps (numbered_table l.types)) (map plain_rule_view l.rules)
