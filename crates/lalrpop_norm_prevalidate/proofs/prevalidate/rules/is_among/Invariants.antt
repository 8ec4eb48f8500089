use Rattle.std.proofs.Common.{◌≡◌, map, drop}
use Rattle.lalrpop_norm_model.specs.Features.{is_one_of}
use Rattle.lalrpop_norm_prevalidate.proofs.prevalidate.rules.is_among.Given as goal

abbrev pub invariant-loop-attribute : goal.invariant-loop-attribute
invariant-loop-attribute l = is_one_of l.name (map (λ a. a.id) (drop l.attribute-index l.before)) ≡ is_one_of l.name (map (λ a. a.id) l.before)
