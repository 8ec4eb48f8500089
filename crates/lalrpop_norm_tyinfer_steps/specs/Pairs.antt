-- Pairs of types that are left to be compared.
use Rattle.std.specs.Prelude.{ℕ, Bool, true, ◌&&◌, ◌+◌, List, [], ◌∷◌}
use Rattle.std.specs.Borrow.{Bor}
use Rattle.lalrpop_norm_tree_parts.specs.Reprs.{Applied}
use Rattle.lalrpop_norm_shared_types.specs.Shared.{shared_view}
use Rattle.lalrpop_norm_shared_types.specs.Weights.{weight}
use Rattle.lalrpop_norm_shared_types.specs.declared.shared.SharedType.{SharedType}
use Rattle.lalrpop_norm_model.specs.SameTypes.{same_path, same_type, same_types}

-- the types of each pair are equal
abbrev pub same_pairs : List (Bor SharedType × Bor SharedType) → Bool
same_pairs [] = true
same_pairs (p ∷ ps) = same_type (shared_view p.0.now) (shared_view p.1.now) && same_pairs ps

-- the weight of the first types
abbrev pub pair_weights : List (Bor SharedType × Bor SharedType) → ℕ
pair_weights [] = 0
pair_weights (p ∷ ps) = weight (shared_view p.0.now) + pair_weights ps

-- whether two paths with their arguments are equal
abbrev pub same_applied : Applied → Applied → Bool
same_applied a b = same_path a.0 b.0 && same_types a.1 b.1
