use Rattle.std.proofs.Common.{◌≡◌, drop, map}
use Rattle.std.specs.List.{flat_map}
use Rattle.lalrpop_norm_tree.specs.Items.{alternative_view}
use Rattle.lalrpop_norm_tyinfer_steps.specs.Numbered.{numbered_table}
use Rattle.lalrpop_norm_model.specs.TuplePatterns.{alternative_misfits}
use Rattle.lalrpop_norm_tyinfer_steps.specs.TableValues.{type_by_name}
use Rattle.lalrpop_norm_tyinfer_steps.proofs.patterns.check_alternatives.Given as goal

abbrev pub invariant-loop-alternative : goal.invariant-loop-alternative
invariant-loop-alternative l = flat_map (alternative_misfits (type_by_name (numbered_table l.types))) (map alternative_view (drop l.alternative-index l.alternatives)) ≡ flat_map (alternative_misfits (type_by_name (numbered_table l.types))) (map alternative_view l.alternatives)
