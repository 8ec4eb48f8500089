use Rattle.std.proofs.Common.{◌≡◌, drop}
use Rattle.lalrpop_norm_model.specs.SameTypes.{all_same, same_parameter}
use Rattle.lalrpop_norm_tyinfer_steps.proofs.same.are_same_parameters.Given as goal

abbrev pub invariant-loop-i : goal.invariant-loop-i
invariant-loop-i l = all_same same_parameter (drop l.i l.a) (drop l.i l.b) ≡ all_same same_parameter l.a l.b
