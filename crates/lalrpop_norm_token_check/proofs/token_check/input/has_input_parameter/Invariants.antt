use Rattle.std.proofs.Common.{◌≡◌, drop, map, bytes_eq, codes}
use Rattle.std.specs.List.{list_any}
use Rattle.lalrpop_norm_tree.specs.Types.{parameter_view}
use Rattle.lalrpop_norm_token_check.proofs.token_check.input.has_input_parameter.Given as goal

abbrev pub invariant-loop-parameter : goal.invariant-loop-parameter
invariant-loop-parameter l =
    list_any (λ p. bytes_eq p.name (codes "input")) (map parameter_view (drop l.parameter-index l.parameters))
    ≡ list_any (λ p. bytes_eq p.name (codes "input")) (map parameter_view l.parameters)
