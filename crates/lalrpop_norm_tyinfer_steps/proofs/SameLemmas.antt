-- Lowered types that are compared: rows of other lengths.
use Rattle.std.proofs.Common.{◌≡◌, suc, false, List, [], ◌∷◌, ◌&&◌, Bool, true, length, refl, ap}
use Rattle.lalrpop_norm_shared_types.specs.Shared.{shared_view, shared_all}
use Rattle.lalrpop_norm_shared_types.specs.declared.shared.SharedType.{SharedType}
use Rattle.lalrpop_norm_model.specs.SameTypes.{same_type, same_types}

and_false : (a b : Bool) → false ≡ b → false ≡ (a && b)
and_false true b e = e
and_false false b e = refl

pub other_lengths : (a b : List SharedType) → (length a ≡ length b → ⊥) → false ≡ same_types (shared_all a) (shared_all b)
other_lengths [] [] e = absurd (e refl)
other_lengths [] (y ∷ b) e = refl
other_lengths (x ∷ a) [] e = refl
other_lengths (x ∷ a) (y ∷ b) e = and_false (same_type (shared_view x) (shared_view y)) (same_types (shared_all a) (shared_all b)) (other_lengths a b (λ same. e (ap suc same)))
