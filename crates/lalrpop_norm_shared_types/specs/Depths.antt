-- How deep types nest.
use Rattle.std.specs.Prelude.{ℕ, List, Option, None, Some, max}
use denote.Param.Weighed.{most}
use Rattle.lalrpop_norm_shared_types.specs.declared.shared.SharedType.{SharedType}
use Rattle.lalrpop_norm_shared_types.specs.declared.shared.TypeNode.TheViews.{size-SharedType}
use Rattle.lalrpop_norm_shared_types.specs.declared.shared.release.Inside.{Inside}
use Rattle.lalrpop_norm_shared_types.specs.declared.shared.release.Inside.TheVariants as inside

abbrev pub maybe_depth : Option SharedType → ℕ
maybe_depth None = 0
maybe_depth (Some t) = size-SharedType t

-- the depth of the deepest of them
abbrev pub deepest : List SharedType → Option SharedType → ℕ
deepest ts r = max (most size-SharedType ts) (maybe_depth r)

abbrev pub inside_depth : Inside → ℕ
inside_depth inside.Nothing = 0
inside_depth (inside.One t) = size-SharedType t
inside_depth (inside.Listed ts r) = deepest ts.items r
