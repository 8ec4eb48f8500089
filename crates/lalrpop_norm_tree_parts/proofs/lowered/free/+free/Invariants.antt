use Rattle.std.proofs.Common.{◌≡◌, drop}
use Rattle.std.specs.Prelude.{filter}
use Rattle.lalrpop_norm_tree_parts.specs.FreeVariables.{is_parameter_among, met_in_all, with_parameters}
use Rattle.lalrpop_norm_tree_parts.specs.Reprs.{reprs_view}
use Rattle.lalrpop_norm_tree_parts.proofs.lowered.free.+free.Given as goal

abbrev pub invariant-add_free_of_all-loop-ty : goal.invariant-add_free_of_all-loop-ty
invariant-add_free_of_all-loop-ty l =
    with_parameters l.all.items (filter (is_parameter_among l.listed) (met_in_all (reprs_view (drop l.ty-index l.ty-items))))
    ≡ with_parameters l.fn.all.items (filter (is_parameter_among l.listed) (met_in_all (reprs_view l.ty-items)))
