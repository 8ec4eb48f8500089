use Rattle.std.proofs.Common.{◌≡◌, map, drop}
use Rattle.lalrpop_norm_model.specs.Features.{is_one_of}
use Rattle.lalrpop_norm_prevalidate.proofs.prevalidate.tokens.is_among.Given as goal

abbrev pub invariant-loop-ty : goal.invariant-loop-ty
invariant-loop-ty l = is_one_of l.name (map (λ t. t.type_name) (drop l.ty-index l.before)) ≡ is_one_of l.name (map (λ t. t.type_name) l.before)
