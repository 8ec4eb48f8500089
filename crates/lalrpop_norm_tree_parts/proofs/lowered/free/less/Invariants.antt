use Rattle.std.proofs.Common.{◌≡◌, take, not}
use Rattle.std.specs.Prelude.{filter}
use Rattle.lalrpop_norm_tree_parts.specs.FreeVariables.{is_parameter_among}
use Rattle.lalrpop_norm_tree_parts.proofs.lowered.free.less.Given as goal

abbrev pub invariant-loop-parameter : goal.invariant-loop-parameter
invariant-loop-parameter l = l.unbound.items ≡ filter (λ p. not (is_parameter_among l.bound.items p)) (take l.parameter-index l.listed)
