-- Lists of written types, one by one.
use Rattle.std.proofs.Common.{◌≡◌, ◌||◌, List, [], ◌∷◌, map, refl, ap}
use Rattle.std.specs.List.{list_any}
use Rattle.lalrpop_norm_tree.specs.declared.types.TypeRef.{TypeRef}
use Rattle.lalrpop_norm_tree.specs.LoweredTypes.{holds_symbol, any_holds_symbol, repr_of, all_reprs_of}
use Rattle.lalrpop_norm_tree_parts.specs.Reprs.{reprs_of, repr_and}
use Rattle.lalrpop_norm_tree.specs.Types.{type_view, types_view}

-- one of the types contains a symbol
pub any_of_them : (ts : List TypeRef) → any_holds_symbol (types_view ts) ≡ list_any (λ t. holds_symbol (type_view t)) ts
any_of_them [] = refl
any_of_them (t ∷ ts) = ap (λ b. holds_symbol (type_view t) || b) (any_of_them ts)

-- the lowered types, one by one
pub lowered_one_by_one : (ts : List TypeRef) → reprs_of (map (λ t. repr_of (type_view t)) ts) ≡ all_reprs_of (types_view ts)
lowered_one_by_one [] = refl
lowered_one_by_one (t ∷ ts) = ap (λ rs. repr_and (repr_of (type_view t)) rs) (lowered_one_by_one ts)
