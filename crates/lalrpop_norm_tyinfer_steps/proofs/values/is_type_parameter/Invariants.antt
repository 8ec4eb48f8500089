use Rattle.std.proofs.Common.{◌≡◌, drop}
use Rattle.lalrpop_norm_model.specs.TypeRelation.{is_type_parameter}
use Rattle.lalrpop_norm_tyinfer_steps.proofs.values.is_type_parameter.Given as goal

abbrev pub invariant-loop-parameter : goal.invariant-loop-parameter
invariant-loop-parameter l = is_type_parameter (drop l.parameter-index l.parameters) l.name ≡ is_type_parameter l.parameters l.name
