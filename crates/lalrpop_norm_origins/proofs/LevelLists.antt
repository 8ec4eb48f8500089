-- The lists of the levels of a rule are the origins of the rules of its references.
use Rattle.std.proofs.Common.{◌≡◌, inl, inr, ℕ, zero, suc, ◌+◌, Bool, true, false, nat_eq, List, [], ◌∷◌, ◌++◌, length, map, refl, sym, ap, ap₂, ◌∙◌, arith}
use Rattle.std.specs.Prelude.{Option, Some, None, option_map, slice_get, flat_map, if◌then◌else◌, ◌||◌, not}
use Rattle.std.proofs.lemmas.List.{map-append, append-nil}
use Rattle.lalrpop_norm_theory.specs.Symbols.{Name, ClosedSymbol, ClosedSymbols, reference}
use Rattle.lalrpop_norm_theory.specs.Meaning.{Meaning}
use Rattle.lalrpop_norm_theory.specs.LoweredTrees.{Origin, written}
use Rattle.lalrpop_norm_theory.specs.Clauses.{Clause, clause_and, numbered, own_clauses, step_clauses}
use Rattle.lalrpop_norm_theory.specs.Rounds.{In}
use Rattle.lalrpop_norm_model.specs.Enabled.{present}
use Rattle.lalrpop_norm_model.specs.Levels.{Leveled, levels_of, previous_level}
use Rattle.lalrpop_norm_model.specs.WrittenRules.{WrittenRule, rule_named}
use Rattle.lalrpop_norm_model.specs.Reading.{read_all}
use Rattle.lalrpop_norm_model.specs.Grammars.{ConditionValue, meaning, has_arguments, references, rule_references, parts_at, is_own_level, rule_reader}
use Rattle.lalrpop_norm_model.specs.Origins.{rule_origins}
use Rattle.lalrpop_norm_origins.specs.EnabledOrigins.{places_from}
use Rattle.lalrpop_norm_origins.specs.LeveledOrigins.{levels_there, picked, step_origins, level_origins}
use Rattle.lalrpop_norm_origins.specs.Laws.{written_level_origins, LevelOriginsAreRuleOrigins}

abbrev origins_of : List Clause → List Origin
origins_of cs = map (λ (c : Clause). c.origin) cs

module _ (rs : List WrittenRule) (w : WrittenRule) (n : Name) (passes : ℕ → Bool) (f : ℕ → Option ClosedSymbols) where
  -- f gives the parts of what is at each index from k on
  abbrev Tells : ℕ → List (Option Leveled) → Type 0
  Tells k ps = (j : ℕ) → f (k + j) ≡ parts_at rs w passes (slice_get ps j)

  tells_here : (k : ℕ) (p : Option Leveled) (ps : List (Option Leveled)) → Tells k (p ∷ ps) → f k ≡ parts_at rs w passes (Some p)
  tells_here k p ps h = let z : k + 0 ≡ k = omega arith in ap f (sym z) ∙ h 0

  tells_next : (k : ℕ) (p : Option Leveled) (ps : List (Option Leveled)) → Tells k (p ∷ ps) → Tells (suc k) ps
  tells_next k p ps h j = let s : suc k + j ≡ k + suc j = omega arith in ap f s ∙ h (suc j)

  -- of one level
  own_picked : (l : ℕ) → ((m : ℕ) → passes m ≡ nat_eq m l) → (k : ℕ) (ps : List (Option Leveled)) → Tells k ps →
      origins_of (numbered n f k (length ps)) ≡ picked l (levels_there ps) (places_from n k ps)
  own_picked l same k [] h = refl
  own_picked l same k (None ∷ ps) h = rw (tells_here k None ps h) (own_picked l same (suc k) ps (tells_next k None ps h))
  own_picked l same k (Some a ∷ ps) h = at (nat_eq a.level l) (same a.level) (own_picked l same (suc k) ps (tells_next k (Some a) ps h))
    where
      at : (b : Bool) → passes a.level ≡ b → origins_of (numbered n f (suc k) (length ps)) ≡ picked l (levels_there ps) (places_from n (suc k) ps) →
          origins_of (clause_and n k (f k) (numbered n f (suc k) (length ps)))
          ≡ (if b then written n k ∷ picked l (levels_there ps) (places_from n (suc k) ps) else picked l (levels_there ps) (places_from n (suc k) ps))
      at true t ih =
          let here : f k ≡ Some (read_all (rule_reader rs w a) a.alternative.parts) = (tells_here k (Some a) ps h ∙ rw t refl) in
          rw here (ap (λ os. written n k ∷ os) ih)
      at false t ih =
          let here : f k ≡ None = (tells_here k (Some a) ps h ∙ rw t refl) in
          rw here ih

  -- whatever the level
  all_kept : ((m : ℕ) → passes m ≡ true) → (k : ℕ) (ps : List (Option Leveled)) → Tells k ps → origins_of (numbered n f k (length ps)) ≡ places_from n k ps
  all_kept every k [] h = refl
  all_kept every k (None ∷ ps) h = rw (tells_here k None ps h) (all_kept every (suc k) ps (tells_next k None ps h))
  all_kept every k (Some a ∷ ps) h =
      let here : f k ≡ Some (read_all (rule_reader rs w a) a.alternative.parts) = (tells_here k (Some a) ps h ∙ rw (every a.level) refl) in
      rw here (ap (λ os. written n k ∷ os) (all_kept every (suc k) ps (tells_next k (Some a) ps h)))

step_taken : (n : Name) (o : Option ℕ) → origins_of (step_clauses n (option_map Some o)) ≡ step_origins o
step_taken n None = refl
step_taken n (Some l) = refl

module _ (value : ConditionValue) (rs : List WrittenRule) (w : WrittenRule) (found : rule_named rs w.name ≡ Some w) (plain : has_arguments w ≡ false) where
  abbrev M : Meaning
  M = meaning value rs

  own_tells : (b : Option ℕ) → Tells rs w w.name (is_own_level b w) (M.own_parts w.name b) 0 w.places
  own_tells b j = let z : 0 + j ≡ j = omega arith in rw (z, found, plain) refl

  counted : M.reference_count w.name ≡ length w.places
  counted = rw found refl

  leveled_list : w.has_levels ≡ true → (l : ℕ) →
      rule_origins M (reference w.name (Some l)) ≡ picked l (levels_there w.places) (places_from w.name 0 w.places) ++ step_origins (previous_level w.places l)
  leveled_list e l =
      let below : M.previous w.name (Some l) ≡ option_map Some (previous_level w.places l) = rw (found, e, plain) refl in
      map-append (λ (c : Clause). c.origin) (own_clauses M w.name (Some l)) (step_clauses w.name (M.previous w.name (Some l)))
      ∙ ap₂ (λ (xs ys : List Origin). xs ++ ys)
      (ap (λ m. origins_of (numbered w.name (M.own_parts w.name (Some l)) 0 m)) counted
      ∙ own_picked rs w w.name (is_own_level (Some l) w) (M.own_parts w.name (Some l)) l (λ m. rw e refl) 0 w.places (own_tells (Some l)))
      (ap (λ o. origins_of (step_clauses w.name o)) below ∙ step_taken w.name (previous_level w.places l))

  flat_list : w.has_levels ≡ false → rule_origins M (reference w.name None) ≡ places_from w.name 0 w.places
  flat_list e =
      let below : M.previous w.name None ≡ None = rw (found, e) refl in
      map-append (λ (c : Clause). c.origin) (own_clauses M w.name None) (step_clauses w.name (M.previous w.name None))
      ∙ ap₂ (λ (xs ys : List Origin). xs ++ ys)
      (ap (λ m. origins_of (numbered w.name (M.own_parts w.name None) 0 m)) counted
      ∙ all_kept rs w w.name (is_own_level None w) (M.own_parts w.name None) (λ m. rw e refl) 0 w.places (own_tells None))
      (ap (λ o. origins_of (step_clauses w.name o)) below)
      ∙ append-nil (places_from w.name 0 w.places)

  leveled_each : w.has_levels ≡ true → (ls : List ℕ) →
      map (λ l. picked l (levels_there w.places) (places_from w.name 0 w.places) ++ step_origins (previous_level w.places l)) ls
      ≡ map (rule_origins M) (map (λ l. reference w.name (Some l)) ls)
  leveled_each e [] = refl
  leveled_each e (l ∷ ls) = ap₂ (λ (x : List Origin) xs. x ∷ xs) (sym (leveled_list e l)) (leveled_each e ls)

  by_levels : (b : Bool) → w.has_levels ≡ b → level_origins b w.places (places_from w.name 0 w.places)
      ≡ map (rule_origins M) (if b then map (λ l. reference w.name (Some l)) (levels_of w.places) else reference w.name None ∷ [])
  by_levels true e = leveled_each e (levels_of w.places)
  by_levels false e = ap (λ (x : List Origin). x ∷ []) (sym (flat_list e))

rule_lists : (value : ConditionValue) (rs : List WrittenRule) (w : WrittenRule) → rule_named rs w.name ≡ Some w → (b : Bool) → has_arguments w ≡ b →
    (if b then [] else level_origins w.has_levels w.places (places_from w.name 0 w.places))
    ≡ map (rule_origins (meaning value rs))
    (if b then [] else (if w.has_levels then map (λ l. reference w.name (Some l)) (levels_of w.places) else reference w.name None ∷ []))
rule_lists value rs w found true e = refl
rule_lists value rs w found false e = by_levels value rs w found e w.has_levels refl

all_lists : (value : ConditionValue) (rs ws : List WrittenRule) → ((w : WrittenRule) → In w ws → rule_named rs w.name ≡ Some w) →
    flat_map written_level_origins ws ≡ map (rule_origins (meaning value rs)) (references ws)
all_lists value rs [] found = refl
all_lists value rs (w ∷ ws) found =
    ap₂ (λ (xs ys : List (List Origin)). xs ++ ys) (rule_lists value rs w (found w (inl refl)) (has_arguments w) refl)
    (all_lists value rs ws (λ v i. found v (inr i)))
    ∙ sym (map-append (rule_origins (meaning value rs)) (rule_references w) (references ws))

pub level_lists : LevelOriginsAreRuleOrigins
level_lists value rs found = all_lists value rs rs found
