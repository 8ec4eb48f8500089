-- Enabled alternatives are the active ones.
use Rattle.std.proofs.Common.{◌≡◌, ℕ, zero, suc, List, [], ◌∷◌, map, Option, Some, None, Bool, true, false, refl, ap, arith}
use Rattle.std.specs.Prelude.{slice_get, filter, if◌then◌else◌}
use Rattle.lalrpop_norm_tree.specs.Items.{AlternativeData}
use Rattle.lalrpop_norm_model.specs.Features.{Features, is_active}
use Rattle.lalrpop_norm_model.specs.Enabled.{if_active, present}
use Rattle.lalrpop_norm_model.specs.Laws.{EnabledAreActive}

pub kept : (a : AlternativeData) (b : Bool) (xs : List (Option AlternativeData)) (ys : List AlternativeData) → present xs ≡ ys →
    present ((if b then Some a else None) ∷ xs) ≡ (if b then a ∷ ys else ys)
kept a true xs ys e = ap (λ zs. a ∷ zs) e
kept a false xs ys e = e

active_present : (fs : Features) (xs : List AlternativeData) → present (map (if_active fs) xs) ≡ filter (λ a. is_active fs a.attributes) xs
active_present fs [] = refl
active_present fs (x ∷ xs) = kept x (is_active fs x.attributes) (map (if_active fs) xs) (filter (λ a. is_active fs a.attributes) xs) (active_present fs xs)

active_here : (fs : Features) (x a : AlternativeData) (b : Bool) → is_active fs x.attributes ≡ b → (if b then Some x else None) ≡ Some a →
    (x ≡ a) × (is_active fs a.attributes ≡ true)
active_here fs x a true e h = let same : x ≡ a = cc h in (same, rw (← same) e)
active_here fs x a false e h = absurd (grind arith)

active_at : (fs : Features) (xs : List AlternativeData) (k : ℕ) (a : AlternativeData) → slice_get (map (if_active fs) xs) k ≡ Some (Some a) →
    (slice_get xs k ≡ Some a) × (is_active fs a.attributes ≡ true)
active_at fs [] k a h = absurd (grind arith)
active_at fs (x ∷ xs) zero a h = let r = active_here fs x a (is_active fs x.attributes) refl (cc h) in (ap Some r.0, r.1)
active_at fs (x ∷ xs) (suc k) a h = active_at fs xs k a h

at_active : (fs : Features) (xs : List AlternativeData) (k : ℕ) (a : AlternativeData) → slice_get xs k ≡ Some a → is_active fs a.attributes ≡ true →
    slice_get (map (if_active fs) xs) k ≡ Some (Some a)
at_active fs [] k a h e = absurd (grind arith)
at_active fs (x ∷ xs) zero a h e = let same : x ≡ a = cc h in rw (same, e) refl
at_active fs (x ∷ xs) (suc k) a h e = at_active fs xs k a h e

pub enabled_are_active : EnabledAreActive
enabled_are_active fs r = (
  active_present fs r.alternatives,
  λ k a. ((λ h. active_at fs r.alternatives k a h), λ h. at_active fs r.alternatives k a h.0 h.1),
)
