use Rattle.std.proofs.Common.{◌≡◌, bytes_eq, drop}
use Rattle.lalrpop_norm_model.specs.SameTypes.{all_same}
use Rattle.lalrpop_norm_tyinfer_steps.proofs.same.are_same_names.Given as goal

abbrev pub invariant-loop-i : goal.invariant-loop-i
invariant-loop-i l = all_same bytes_eq (drop l.i l.a) (drop l.i l.b) ≡ all_same bytes_eq l.a l.b
