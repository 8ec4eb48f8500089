-- The errors of reading levels.
use Rattle.std.proofs.Common.{List, Result, Ok, Err}
use Rattle.lalrpop_norm_faults.specs.declared.failure.NormFailure.{NormFailure}
use Rattle.lalrpop_norm_faults.specs.Faults.{Fault, Refuses, RefusesOr}
use Rattle.lalrpop_norm_precedence_steps.specs.StatedLevels.{without_value}

pub refuses_without : {T : Type 0} (r : Result T NormFailure) (fs : List Fault) (P : T → Type 0) → RefusesOr r fs P → Refuses (without_value r) fs
refuses_without (Ok x) fs P h = h.0
refuses_without (Err e) fs P h = h
