-- Loops that reject by the first fault of a list, and loops that collect.
use Rattle.std.proofs.Common.{◌≡◌, ◌<◌, ◌+◌, ℕ, true, false, Result, Option, Some, None, refl, List, [], ◌∷◌, length, drop, get_or, map, sym, ◌∙◌}
use Rattle.std.specs.List.{flat_map}
use Rattle.std.specs.Prelude.{is_none, is_some}
use Rattle.std.specs.Result.{IsErrAnd}
use Rattle.lalrpop_norm_faults.specs.declared.failure.NormFailure.{NormFailure}
use Rattle.lalrpop_norm_faults.specs.Faults.{Fault, IsFirst, Refuses, fault_if}
use Rattle.lalrpop_norm_faults.proofs.FaultLemmas.{exit_at, at_drop_item}

-- the exit by `?` of a loop over a list, each element of which has its faults as it is seen
pub exit_loop : {X Y T : Type 0} (view : X → Y) (f : Y → List Fault) (xs : List X) (i : ℕ) (x : X) (r : Result T NormFailure) (e : NormFailure) →
    i < length xs → x ≡ get_or xs i x → IsErrAnd r (λ y. y ≡ e) → IsFirst (f (view x)) e → flat_map f (map view (drop i xs)) ≡ flat_map f (map view xs) →
    Refuses r (flat_map f (map view xs))
exit_loop view f xs i x r e lt is from h same =
    exit_at r e (f (view x)) (flat_map f (map view (drop (i + 1) xs))) (flat_map f (map view xs)) from h
    (sym same ∙ at_drop_item (λ ys. flat_map f (map view ys)) xs i x lt is)

-- ---- a fault where something is not there

pub there_lacks_not : {A : Type 0} (o : Option A) (f : Fault) → is_some o ≡ true → fault_if (is_none o) f ≡ []
there_lacks_not (Some y) f e = refl
there_lacks_not None f e = absurd (cc e)

pub absent_lacks : {A : Type 0} (o : Option A) (f : Fault) → is_some o ≡ false → fault_if (is_none o) f ≡ f ∷ []
absent_lacks (Some y) f e = absurd (cc e)
absent_lacks None f e = refl
