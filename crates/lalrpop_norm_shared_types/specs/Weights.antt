-- How many levels types have, one that is shared as often as it stands in them.
use Rattle.std.specs.Prelude.{ℕ, suc, ◌+◌, List, Option, option_map}
use Rattle.lalrpop_norm_tree_parts.specs.Reprs.{ReprData, Reprs, MaybeRepr, no_reprs, repr_and, no_repr, returns, maybe_repr_of}
use Rattle.lalrpop_norm_tree_parts.specs.Reprs.{tuple, slice, nominal, associated, of_lifetime, reference, trait_object, function}
use Rattle.lalrpop_norm_shared_types.specs.Shared.{shared_view, shared_all}
use Rattle.lalrpop_norm_shared_types.specs.declared.shared.SharedType.{SharedType}
use Rattle.lalrpop_norm_shared_types.specs.declared.shared.release.Inside.{Inside}
use Rattle.lalrpop_norm_shared_types.specs.declared.shared.release.Inside.TheVariants as inside

abbrev mutual
  pub weight : ReprData → ℕ
  weight (tuple ts) = suc (weights ts)
  weight (slice x) = suc (weight x)
  weight (nominal p ts) = suc (weights ts)
  weight (associated p a) = 1
  weight (of_lifetime l) = 1
  weight (reference l m x) = suc (weight x)
  weight (trait_object p ts) = suc (weights ts)
  weight (function fs p ts r) = suc (weights ts + weight_returned r)

  pub weights : Reprs → ℕ
  weights no_reprs = 0
  weights (repr_and x xs) = weight x + weights xs

  pub weight_returned : MaybeRepr → ℕ
  weight_returned no_repr = 0
  weight_returned (returns x) = weight x

-- of types that share their parts
abbrev pub all_weights : List SharedType → ℕ
all_weights ts = weights (shared_all ts)

abbrev pub maybe_weight : Option SharedType → ℕ
maybe_weight r = weight_returned (maybe_repr_of (option_map shared_view r))

abbrev pub inside_weight : Inside → ℕ
inside_weight inside.Nothing = 0
inside_weight (inside.One t) = weight (shared_view t)
inside_weight (inside.Listed ts r) = all_weights ts.items + maybe_weight r
