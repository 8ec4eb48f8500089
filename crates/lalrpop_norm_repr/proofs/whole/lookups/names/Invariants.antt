use Rattle.std.proofs.Common.{◌≡◌, ◌++◌, drop, map}
use Rattle.std.specs.Prelude.{filter}
use Rattle.lalrpop_norm_repr.specs.Lookups.{is_type_name}
use Rattle.lalrpop_norm_repr.proofs.whole.lookups.names.Given as goal

abbrev pub invariant-loop-parameter : goal.invariant-loop-parameter
invariant-loop-parameter l = map (λ p. p.now) l.names.items ++ filter is_type_name (drop l.parameter-index l.parameters) ≡ filter is_type_name l.parameters
