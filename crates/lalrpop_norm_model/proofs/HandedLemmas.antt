-- Levels and associativities are inherited from index to index, and disabled alternatives do not matter for them.
use Rattle.std.proofs.Common.{◌≡◌, ℕ, suc, List, [], ◌∷◌, ◌++◌, map, take, length, Option, Some, None, Bool, true, false, refl, sym, ap, ap₂, ◌∙◌, append_assoc}
use Rattle.std.specs.Prelude.{option_map, unwrap_or, is_some, if◌then◌else◌}
use Rattle.std.proofs.lemmas.List.{map-append}
use Rattle.lalrpop_norm_tree.specs.Accessors.{or_else}
use Rattle.lalrpop_norm_tree.specs.Items.{AlternativeData}
use Rattle.lalrpop_norm_model.specs.Enabled.{PlacedAlternatives, present}
use Rattle.lalrpop_norm_model.specs.Levels.{Side, every, level_stated, side_stated, last_stated, some_states_level, since_level, level_at, side_at, leveled_at, map_numbered}
use Rattle.lalrpop_norm_model.specs.Stated.{level_after, side_after, with_stated, handed_on}
use Rattle.lalrpop_norm_model.specs.Laws.{LevelsAreHandedOn, DisabledAreNoMatter}
use Rattle.lalrpop_norm_tree.proofs.FirstLemmas.{or_else_assoc}

pub or_else_none : {A : Type 0} (a : Option A) → or_else a None ≡ a
or_else_none None = refl
or_else_none (Some x) = refl

last_behind : {A : Type 0} (xs : List (Option A)) (x : Option A) → last_stated (xs ++ x ∷ []) ≡ or_else x (last_stated xs)
last_behind [] x = sym (or_else_none x)
last_behind (y ∷ xs) x = ap (λ o. or_else o y) (last_behind xs x) ∙ or_else_assoc x (last_stated xs) y

module _ (p : Option AlternativeData) where
  level_behind : (qs : PlacedAlternatives) → last_stated (map level_stated (qs ++ p ∷ [])) ≡ level_after (last_stated (map level_stated qs)) p
  level_behind qs = ap last_stated (map-append level_stated qs (p ∷ [])) ∙ last_behind (map level_stated qs) (level_stated p)

  -- what counts for associativities, once p is behind
  abbrev counting : Bool → PlacedAlternatives → PlacedAlternatives
  counting b qs = if b then p ∷ [] else since_level qs ++ p ∷ []

  one_more : (o : Option ℕ) → level_stated p ≡ o → (q : Option AlternativeData) (qs : PlacedAlternatives) →
      since_level (qs ++ p ∷ []) ≡ counting (is_some o) qs → since_level ((q ∷ qs) ++ p ∷ []) ≡ counting (is_some o) (q ∷ qs)
  one_more (Some v) e q qs h =
      ap (λ (o : Option ℕ). if is_some o then since_level (qs ++ p ∷ []) else q ∷ (qs ++ p ∷ []))
      (level_behind qs ∙ ap (λ o. or_else o (last_stated (map level_stated qs))) e) ∙ h
  one_more None e q qs h =
      ap (λ (o : Option ℕ). if is_some o then since_level (qs ++ p ∷ []) else q ∷ (qs ++ p ∷ []))
      (level_behind qs ∙ ap (λ o. or_else o (last_stated (map level_stated qs))) e) ∙ by (some_states_level qs)
    where
      by : (b : Bool) → (if b then since_level (qs ++ p ∷ []) else q ∷ (qs ++ p ∷ [])) ≡ (if b then since_level qs else q ∷ qs) ++ p ∷ []
      by true = h
      by false = refl

  first_one : (b : Bool) → since_level (p ∷ []) ≡ counting b []
  first_one true = refl
  first_one false = refl

  since_behind : (qs : PlacedAlternatives) → since_level (qs ++ p ∷ []) ≡ counting (is_some (level_stated p)) qs
  since_behind [] = first_one (is_some (level_stated p))
  since_behind (q ∷ qs) = one_more (level_stated p) refl q qs (since_behind qs)

  side_by : (qs : PlacedAlternatives) (b : Bool) → last_stated (map side_stated (counting b qs))
      ≡ (if b then side_stated p else or_else (side_stated p) (last_stated (map side_stated (since_level qs))))
  side_by qs true = refl
  side_by qs false =
      ap last_stated (map-append side_stated (since_level qs) (p ∷ [])) ∙ last_behind (map side_stated (since_level qs)) (side_stated p)

  side_behind : (qs : PlacedAlternatives) → last_stated (map side_stated (since_level (qs ++ p ∷ []))) ≡ side_after (last_stated (map side_stated (since_level qs))) p
  side_behind qs = ap (λ xs. last_stated (map side_stated xs)) (since_behind qs) ∙ side_by qs (is_some (level_stated p))

taken_to : {A : Type 0} (qs : List A) (p : A) (rest : List A) → take (suc (length qs)) (qs ++ p ∷ rest) ≡ qs ++ p ∷ []
taken_to [] p rest = refl
taken_to (q ∷ qs) p rest = ap (λ xs. q ∷ xs) (taken_to qs p rest)

leveled_here : (o : Option ℕ) (s : Option Side) (ps : PlacedAlternatives) (k : ℕ) (p : Option AlternativeData) → level_at ps k ≡ unwrap_or o 0 → side_at ps k ≡ unwrap_or s every →
    leveled_at ps k p ≡ option_map (with_stated o s) p
leveled_here o s ps k None e d = refl
leveled_here o s ps k (Some a) e d = ap₂ (λ l side. Some (record { level = l; side = side; alternative = a })) e d

longer : {A : Type 0} (qs : List A) (p : A) → length (qs ++ p ∷ []) ≡ suc (length qs)
longer [] p = refl
longer (q ∷ qs) p = ap suc (longer qs p)

-- the indices after some others
handed : (qs ps : PlacedAlternatives) →
    map_numbered (leveled_at (qs ++ ps)) (length qs) ps ≡ handed_on (last_stated (map level_stated qs)) (last_stated (map side_stated (since_level qs))) ps
handed qs [] = refl
handed qs (p ∷ ps) =
    ap₂ ◌∷◌
    (leveled_here (level_after (last_stated (map level_stated qs)) p) (side_after (last_stated (map side_stated (since_level qs))) p) (qs ++ p ∷ ps) (length qs) p
    (ap (λ xs. unwrap_or (last_stated (map level_stated xs)) 0) (taken_to qs p ps) ∙ ap (λ o. unwrap_or o 0) (level_behind p qs))
    (ap (λ xs. unwrap_or (last_stated (map side_stated (since_level xs))) every) (taken_to qs p ps) ∙ ap (λ o. unwrap_or o every) (side_behind p qs)))
    (ap₂ (λ xs k. map_numbered (leveled_at xs) k ps) (sym (append_assoc qs (p ∷ []) ps)) (sym (longer qs p))
    ∙ handed (qs ++ p ∷ []) ps
    ∙ ap₂ (λ o s. handed_on o s ps) (level_behind p qs) (side_behind p qs))

pub levels_are_handed_on : LevelsAreHandedOn
levels_are_handed_on ps = handed [] ps

enabled_handed : (level : Option ℕ) (side : Option Side) (ps : PlacedAlternatives) → present (handed_on level side ps) ≡ present (handed_on level side (map Some (present ps)))
enabled_handed level side [] = refl
enabled_handed level side (None ∷ ps) = enabled_handed level side ps
enabled_handed level side (Some a ∷ ps) =
    ap (λ xs. with_stated (level_after level (Some a)) (side_after side (Some a)) a ∷ xs) (enabled_handed (level_after level (Some a)) (side_after side (Some a)) ps)

pub disabled_are_no_matter : DisabledAreNoMatter
disabled_are_no_matter ps =
    ap present (levels_are_handed_on ps) ∙ enabled_handed None None ps ∙ ap present (sym (levels_are_handed_on (map Some (present ps))))
