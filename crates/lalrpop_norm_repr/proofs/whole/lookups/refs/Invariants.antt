use Rattle.std.proofs.Common.{◌≡◌, map, take}
use Rattle.std.specs.Prelude.{string_bytes}
use Rattle.lalrpop_norm_repr.specs.Lookups.{parameter_refs}
use Rattle.lalrpop_norm_repr.specs.Lowered.{lowered_parameter_view}
use Rattle.lalrpop_norm_repr.proofs.whole.lookups.refs.Given as goal

abbrev pub invariant-loop-parameter : goal.invariant-loop-parameter
invariant-loop-parameter l = string_bytes l.text ≡ parameter_refs (map lowered_parameter_view (take l.parameter-index l.parameters))
