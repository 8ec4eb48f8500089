-- Loops over lists, element by element.
use Rattle.std.proofs.Common.{◌≡◌, ℕ, ◌+◌, ◌<◌, ◌≤◌, List, [], ◌∷◌, ◌++◌, Option, Some, None, map, take, drop, length, get_or, sym, ap, ◌∙◌}
use Rattle.std.specs.Prelude.{option_map}
use Rattle.std.specs.List.{flat_map}
use Rattle.std.proofs.lemmas.List.{map-append, take_more, drop_all, at_drop_all}
use Rattle.lalrpop_norm_tree_parts.specs.Reprs.{ReprData, Reprs, repr_and}
use Rattle.lalrpop_norm_tree.specs.Accessors.{or_else}
use Rattle.lalrpop_norm_faults.specs.Faults.{Fault}
use Rattle.lalrpop_norm_faults.proofs.FaultLemmas.{at_drop_item}
use Rattle.lalrpop_norm_repr.specs.Tables.{TypeTable}
use Rattle.lalrpop_norm_model.specs.TypeTables.{both}
use Rattle.lalrpop_norm_tyinfer_steps.specs.declared.type_sources.TypeSource.{TypeSource}
use Rattle.lalrpop_norm_tyinfer_steps.specs.Clauses.{clause_view, clause_in, first_in}
use Rattle.lalrpop_norm_tyinfer_steps.proofs.ValueLemmas.{before}

pub next_mapped : {X Y Z : Type 0} (f : X → Z) (g : Y → Z) (ys : List Y) (i : ℕ) (y : Y) (xs : List X) (x : X) → i < length ys → y ≡ get_or ys i y → f x ≡ g y →
    map f xs ≡ map g (take i ys) → map f (xs ++ x ∷ []) ≡ map g (take (i + 1) ys)
next_mapped f g ys i y xs x lt is same so_far =
    map-append f xs (x ∷ [])
    ∙ ap (λ zs. zs ++ f x ∷ []) so_far
    ∙ ap (λ z. map g (take i ys) ++ z ∷ []) (same ∙ ap g is)
    ∙ sym (ap (map g) (take_more ys i y lt) ∙ map-append g (take i ys) (get_or ys i y ∷ []))

-- ---- the first clause that makes a type

module _ (ps : _) (tt : TypeTable) (cs : List TypeSource) (i : ℕ) where
  pub none_first : (v : Option ReprData) → length cs ≤ i → first_in ps tt (map clause_view (drop i cs)) ≡ v → None ≡ v
  none_first v done here = sym (ap (λ (ds : List TypeSource). first_in ps tt (map clause_view ds)) (drop_all i cs done)) ∙ here

  module _ (c : TypeSource) (v : Option ReprData) (lt : i < length cs) (is : c ≡ get_or cs i c) (here : first_in ps tt (map clause_view (drop i cs)) ≡ v) where
    met : or_else (clause_in ps tt (clause_view c)) (first_in ps tt (map clause_view (drop (i + 1) cs))) ≡ v
    met = sym (at_drop_item (λ (ds : List TypeSource). first_in ps tt (map clause_view ds)) cs i c lt is) ∙ here

    pub next_first : None ≡ clause_in ps tt (clause_view c) → first_in ps tt (map clause_view (drop (i + 1) cs)) ≡ v
    next_first none = ap (λ o. or_else o (first_in ps tt (map clause_view (drop (i + 1) cs)))) none ∙ met

    pub found_first : (x : ReprData) → Some x ≡ clause_in ps tt (clause_view c) → Some x ≡ v
    found_first x some = ap (λ o. or_else o (first_in ps tt (map clause_view (drop (i + 1) cs)))) some ∙ met

-- ---- lists of faults

module _ {X Y : Type 0} (view : X → Y) (f : Y → List Fault) (xs : List X) (i : ℕ) where
  -- an element without a fault is passed
  pub passed_on : (x : X) → i < length xs → x ≡ get_or xs i x → f (view x) ≡ [] → flat_map f (map view (drop i xs)) ≡ flat_map f (map view xs) →
      flat_map f (map view (drop (i + 1) xs)) ≡ flat_map f (map view xs)
  passed_on x lt is none here =
      ap (λ ys. ys ++ flat_map f (map view (drop (i + 1) xs))) (sym none)
      ∙ (sym (at_drop_item (λ (ys : List X). flat_map f (map view ys)) xs i x lt is) ∙ here)

  -- all are
  pub all_passed : length xs ≤ i → flat_map f (map view (drop i xs)) ≡ flat_map f (map view xs) → flat_map f (map view xs) ≡ []
  all_passed done here = sym here ∙ at_drop_all (λ (ys : List X). flat_map f (map view ys)) xs i done

-- ---- values in a row

pub lacks_value : {X : Type 0} (F : List X → Option Reprs) (v : X → Option ReprData) → ((x : X) (xs : List X) → F (x ∷ xs) ≡ both repr_and (v x) (F xs)) →
    (xs : List X) (i : ℕ) (x : X) (vs : List ReprData) (w : Option Reprs) → i < length xs → x ≡ get_or xs i x → None ≡ v x → option_map (before vs) (F (drop i xs)) ≡ w → None ≡ w
lacks_value F v more xs i x vs w lt is none here =
    ap (λ o. option_map (before vs) (both repr_and o (F (drop (i + 1) xs)))) none
    ∙ (ap (option_map (before vs)) (sym (more x (drop (i + 1) xs)))
    ∙ (sym (at_drop_item (λ ys. option_map (before vs) (F ys)) xs i x lt is) ∙ here))
