use Rattle.std.proofs.Common.{◌≡◌, drop, map}
use Rattle.std.specs.Prelude.{option_map}
use Rattle.lalrpop_norm_shared_types.specs.Shared.{shared_view}
use Rattle.lalrpop_norm_tree.specs.Types.{types_view}
use Rattle.lalrpop_norm_tyinfer_steps.specs.Numbered.{numbered_table}
use Rattle.lalrpop_norm_tyinfer_steps.specs.TableValues.{types_in}
use Rattle.lalrpop_norm_tyinfer_steps.proofs.ValueLemmas.{before}
use Rattle.lalrpop_norm_tyinfer_steps.proofs.values.+value.Given as goal

abbrev pub invariant-all_values-loop-inner : goal.invariant-all_values-loop-inner
invariant-all_values-loop-inner l =
    option_map (before (map shared_view l.values.items)) (types_in l.parameters (numbered_table l.types) (types_view (drop l.inner-index l.written)))
    ≡ types_in l.parameters (numbered_table l.types) (types_view l.written)
