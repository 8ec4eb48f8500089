use Rattle.std.proofs.Common.{◌≡◌, drop}
use Rattle.std.specs.List.{list_any}
use Rattle.lalrpop_norm_model.specs.TokenFaults.{is_input_lifetime}
use Rattle.lalrpop_norm_token_check.proofs.token_check.input.has_input_lifetime.Given as goal

abbrev pub invariant-loop-parameter : goal.invariant-loop-parameter
invariant-loop-parameter l = list_any is_input_lifetime (drop l.parameter-index l.parameters) ≡ list_any is_input_lifetime l.parameters
