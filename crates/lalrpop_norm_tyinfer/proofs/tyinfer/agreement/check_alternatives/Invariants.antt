use Rattle.std.proofs.Common.{◌≡◌, List, drop, map}
use Rattle.std.specs.List.{flat_map}
use Rattle.lalrpop_norm_tree_names.specs.declared.names.TypeParameter.{TypeParameter}
use Rattle.lalrpop_norm_tree.specs.Items.{alternative_view}
use Rattle.lalrpop_norm_tyinfer_steps.specs.Numbered.{numbered_table}
use Rattle.lalrpop_norm_tyinfer_steps.specs.TableFaults.{other_in}
use Rattle.lalrpop_norm_tyinfer.proofs.tyinfer.agreement.check_alternatives.Given as goal

abbrev pub invariant-loop-alternative : goal.invariant-loop-alternative
invariant-loop-alternative l = (ps : List TypeParameter) → flat_map (other_in ps (numbered_table l.types) l.name.0) (map alternative_view (drop l.alternative-index l.alternatives)) ≡ flat_map (other_in ps (numbered_table l.types) l.name.0) (map alternative_view l.alternatives)
