-- Lists of what is kept.
use Rattle.std.proofs.Common.{◌≡◌, Bool, true, false, List, [], ◌∷◌, map, refl, sym, ap}
use Rattle.std.specs.Prelude.{filter, if◌then◌else◌}
use Rattle.lalrpop_norm_tree.specs.Items.{AlternativeData}
use Rattle.lalrpop_norm_model.specs.Features.{Features, is_active}
use Rattle.lalrpop_norm_model.specs.Enabled.{if_active}
use Rattle.lalrpop_norm_model.proofs.EnabledLemmas.{kept}
use Rattle.lalrpop_norm_prevalidate_attributes.specs.EnabledAlternatives.{active_alternatives}

kept_viewed : {X Y : Type 0} (view : X → Y) (x : X) (b : Bool) (xs : List X) (ys : List Y) → map view xs ≡ ys →
    map view (if b then x ∷ xs else xs) ≡ (if b then view x ∷ ys else ys)
kept_viewed view x true xs ys e = ap (λ zs. view x ∷ zs) e
kept_viewed view x false xs ys e = e

-- what is kept by a test of the view
pub filter_viewed : {X Y : Type 0} (view : X → Y) (test : Y → Bool) (xs : List X) → map view (filter (λ x. test (view x)) xs) ≡ filter test (map view xs)
filter_viewed view test [] = refl
filter_viewed view test (x ∷ xs) = kept_viewed view x (test (view x)) (filter (λ y. test (view y)) xs) (filter test (map view xs)) (filter_viewed view test xs)

-- the alternatives at indices that are enabled are the active ones
pub active_kept : (fs : Features) (xs : List AlternativeData) → filter (λ a. is_active fs a.attributes) xs ≡ active_alternatives fs xs
active_kept fs [] = refl
active_kept fs (x ∷ xs) =
    sym (kept x (is_active fs x.attributes) (map (if_active fs) xs) (filter (λ a. is_active fs a.attributes) xs) (sym (active_kept fs xs)))
