use Rattle.std.proofs.Common.{◌≡◌, ◌++◌, drop, map}
use Rattle.lalrpop_norm_tree.specs.Types.{types_view}
use Rattle.lalrpop_norm_names.specs.Numbers.{number_in_table}
use Rattle.lalrpop_norm_tyinfer_steps.specs.Needs.{needed_types}
use Rattle.lalrpop_norm_tyinfer_steps.proofs.needs.+written.Given as goal

abbrev pub invariant-add_types-loop-inner : goal.invariant-add_types-loop-inner
invariant-add_types-loop-inner l =
    l.numbers.items ++ map (number_in_table l.names) (needed_types l.parameters (types_view (drop l.inner-index l.written)))
    ≡ l.initial.numbers.items ++ map (number_in_table l.names) (needed_types l.parameters (types_view l.written))
