-- The weights of a list of types, as it grows.
use Rattle.std.proofs.Common.{◌≡◌, ◌+◌, ◌++◌, List, [], ◌∷◌, arith}
use Rattle.lalrpop_norm_shared_types.specs.Shared.{shared_view}
use Rattle.lalrpop_norm_shared_types.specs.Weights.{weight, all_weights}
use Rattle.lalrpop_norm_shared_types.specs.declared.shared.SharedType.{SharedType}

pub joined : (ts us : List SharedType) → all_weights (ts ++ us) ≡ all_weights ts + all_weights us
joined [] us = omega arith
joined (t ∷ ts) us = omega (arith, joined ts us)

pub pushed : (ts : List SharedType) (t : SharedType) → all_weights (ts ++ (t ∷ [])) ≡ all_weights ts + weight (shared_view t)
pushed ts t = omega (arith, joined ts (t ∷ []))
