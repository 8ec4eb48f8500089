-- Values of types in a row.
use Rattle.std.proofs.Common.{◌≡◌, ◌<◌, ◌≤◌, ◌+◌, ℕ, List, [], ◌∷◌, ◌++◌, length, drop, get_or, map, Option, Some, None, refl, sym, ap, ◌∙◌}
use Rattle.std.specs.Prelude.{option_map}
use Rattle.std.proofs.lemmas.List.{map-append, drop_all}
use Rattle.lalrpop_norm_faults.proofs.FaultLemmas.{at_drop_item}
use Rattle.lalrpop_norm_shared_types.specs.Shared.{shared_view, shared_all}
use Rattle.lalrpop_norm_shared_types.specs.declared.shared.SharedType.{SharedType}
use Rattle.lalrpop_norm_tree_parts.specs.Reprs.{ReprData, Reprs, repr_and, no_reprs, reprs_of}
use Rattle.lalrpop_norm_model.specs.TypeTables.{both}

-- some types before the others
abbrev pub before : List ReprData → Reprs → Reprs
before [] xs = xs
before (y ∷ ys) xs = repr_and y (before ys xs)

-- before any of them
pub before_nothing : (o : Option Reprs) → option_map (before []) o ≡ o
before_nothing None = refl
before_nothing (Some xs) = refl

before_none : (xs : List ReprData) → before xs no_reprs ≡ reprs_of xs
before_none [] = refl
before_none (x ∷ xs) = ap (repr_and x) (before_none xs)

before_last : (xs : List ReprData) (y : ReprData) (zs : Reprs) → before (xs ++ y ∷ []) zs ≡ before xs (repr_and y zs)
before_last [] y zs = refl
before_last (x ∷ xs) y zs = ap (repr_and x) (before_last xs y zs)

-- one more value
one_more : (xs : List ReprData) (y : ReprData) (v : Option ReprData) (w : Option Reprs) → Some y ≡ v →
    option_map (before xs) (both repr_and v w) ≡ option_map (before (xs ++ y ∷ [])) w
one_more xs y None w e = absurd cc
one_more xs y (Some z) None e = refl
one_more xs y (Some z) (Some zs) e =
    let same : y ≡ z = cc in
    ap Some (ap (λ a. before xs (repr_and a zs)) (sym same) ∙ sym (before_last xs y zs))

-- Loops over a list of which F makes the values in a row, v those of its elements.
module _ {X : Type 0} (F : List X → Option Reprs) (v : X → Option ReprData) where
  -- one more of them has a value
  pub next_value : ((x : X) (xs : List X) → F (x ∷ xs) ≡ both repr_and (v x) (F xs)) →
      (xs : List X) (i : ℕ) (x : X) (vs : List SharedType) (y : SharedType) (w : Option Reprs) →
      i < length xs → x ≡ get_or xs i x → Some (shared_view y) ≡ v x → option_map (before (map shared_view vs)) (F (drop i xs)) ≡ w →
      option_map (before (map shared_view (vs ++ y ∷ []))) (F (drop (i + 1) xs)) ≡ w
  next_value more xs i x vs y w lt is value before_it =
      ap (λ ys. option_map (before ys) (F (drop (i + 1) xs))) (map-append shared_view vs (y ∷ []))
      ∙ (sym (one_more (map shared_view vs) (shared_view y) (v x) (F (drop (i + 1) xs)) value)
      ∙ (ap (option_map (before (map shared_view vs))) (sym (more x (drop (i + 1) xs)))
      ∙ (sym (at_drop_item (λ ys. option_map (before (map shared_view vs)) (F ys)) xs i x lt is)
      ∙ before_it)))

  -- all of them have one
  pub last_value : F [] ≡ Some no_reprs → (xs : List X) (i : ℕ) (vs : List SharedType) (w : Option Reprs) →
      length xs ≤ i → option_map (before (map shared_view vs)) (F (drop i xs)) ≡ w → Some (shared_all vs) ≡ w
  last_value none xs i vs w le before_it =
      ap Some (sym (before_none (map shared_view vs)))
      ∙ (ap (option_map (before (map shared_view vs))) (sym none ∙ ap F (sym (drop_all i xs le))) ∙ before_it)
