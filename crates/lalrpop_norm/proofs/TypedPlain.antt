-- The conversions of an enabled enum are all active.
use Rattle.std.proofs.Common.{◌≡◌, Bool, true, false, List, [], ◌∷◌, refl, ap}
use Rattle.std.specs.Prelude.{filter, if◌then◌else◌}
use Rattle.lalrpop_norm_tree.specs.Items.{ConversionData, EnumTokenData}
use Rattle.lalrpop_norm_model.specs.Features.{Features, is_active}
use Rattle.lalrpop_norm_model.specs.Enabled.{enabled_enum}

-- the conversions of an enum are all active
pub record IsAllActive (fs : Features) (u : EnumTokenData) : Type 0 where
  pub active : filter (λ (c : ConversionData). is_active fs c.attributes) u.conversions ≡ u.conversions

-- filtering twice is filtering once
filtered_once : {A : Type 0} (p : A → Bool) (xs : List A) → filter p (filter p xs) ≡ filter p xs
filtered_once p [] = refl
filtered_once p (x ∷ xs) = by (p x) refl (filtered_once p xs)
  where
    by : (b : Bool) → p x ≡ b → filter p (filter p xs) ≡ filter p xs → filter p (if b then x ∷ filter p xs else filter p xs) ≡ (if b then x ∷ filter p xs else filter p xs)
    by true e h = rw e (ap (λ ys. x ∷ ys) h)
    by false e h = h

-- those of an enabled enum are
pub enabled_active : (fs : Features) (u : EnumTokenData) → IsAllActive fs (enabled_enum fs u)
enabled_active fs u = record { active = filtered_once (λ (c : ConversionData). is_active fs c.attributes) u.conversions }
