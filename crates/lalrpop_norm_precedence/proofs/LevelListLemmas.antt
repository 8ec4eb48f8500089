-- Origins put into the lists of their levels.
use Rattle.std.proofs.Common.{◌≡◌, inl, inr, ℕ, zero, suc, ◌+◌, ◌-◌, ◌<◌, ◌≤◌, Bool, true, false, nat_eq, List, [], ◌∷◌, ◌++◌, Vec, Global, length, map, set, get_or, drop, Decides, refl, sym, ap, ap₂, ◌∙◌, subst, arith, append_assoc, append-nil, add-one, drop-cons}
use Rattle.std.specs.Prelude.{slice_get, Option, Some, None, if◌then◌else◌}
use Rattle.std.specs.Ordering.{nat_cmp}
use Rattle.std.specs.BTreeSet.{insert_key}
use Rattle.std.proofs.lemmas.Bool.Decides.{Decides-eqb}
use Rattle.std.proofs.lemmas.List.{length-map}
use Rattle.lalrpop_norm_theory.specs.Rounds.{In}
use Rattle.lalrpop_norm_theory.specs.LoweredTrees as theory
use Rattle.lalrpop_norm_tree.specs.Items.{RuleData}
use Rattle.lalrpop_norm_model.specs.Enabled.{all_places, present}
use Rattle.lalrpop_norm_model.specs.Levels.{Leveled, greatest, below, has_levels, with_levels, levels_of, previous_level, rising}
use Rattle.lalrpop_norm_model.specs.Stated.{IsRising}
use Rattle.lalrpop_norm_model.proofs.LevelLemmas.{in_rising, rising_rises}
use Rattle.lalrpop_norm_precedence_steps.specs.declared.levels.AlternativeLevel.{AlternativeLevel}
use Rattle.lalrpop_norm_precedence_steps.specs.StatedLevels.{alternative_level_view}
use Rattle.lalrpop_norm_origins.specs.declared.origin.Origin.{Origin}
use Rattle.lalrpop_norm_origins.specs.Origins.{origin_view, origins_view, origin_lists}
use Rattle.lalrpop_norm_precedence.specs.Handed.{handed_levels}
use Rattle.lalrpop_norm_precedence.specs.LevelLists.{levels_held, levels_there, picked, pushed_origin, filled_lists, step_origins, level_origins, stepped_lists, rule_level_lists}
use Rattle.lalrpop_norm_precedence.proofs.GroupLemmas.{in_got}
use Rattle.lalrpop_norm_precedence.proofs.ReadLemmas.{levels_read, first_of_pairs}
use Rattle.lalrpop_norm_precedence.proofs.RuleLemmas.{rising_front, below_is_front, greatest_last}

-- ---- one origin

unlike_level : (l m : ℕ) (o : theory.Origin) (ms : List ℕ) (os : List theory.Origin) (b : Bool) → Decides b (m ≡ l) → (m ≡ l → ⊥) →
    (if b then o ∷ picked l ms os else picked l ms os) ≡ picked l ms os
unlike_level l m o ms os true d apart = absurd (apart (d.0 refl))
unlike_level l m o ms os false d apart = refl

other_level : (l m : ℕ) (o : theory.Origin) (ms : List ℕ) (os : List theory.Origin) → (m ≡ l → ⊥) → picked l (m ∷ ms) (o ∷ os) ≡ picked l ms os
other_level l m o ms os apart = unlike_level l m o ms os (nat_eq m l) (Decides-eqb m l) apart

like_level : (l m : ℕ) (o : theory.Origin) (ms : List ℕ) (os : List theory.Origin) (b : Bool) → Decides b (m ≡ l) → m ≡ l →
    (if b then o ∷ picked l ms os else picked l ms os) ≡ o ∷ picked l ms os
like_level l m o ms os true d e = refl
like_level l m o ms os false d e = let differs = d.1 e in cc

same_level : (l m : ℕ) (o : theory.Origin) (ms : List ℕ) (os : List theory.Origin) → m ≡ l → picked l (m ∷ ms) (o ∷ os) ≡ o ∷ picked l ms os
same_level l m o ms os e = like_level l m o ms os (nat_eq m l) (Decides-eqb m l) e

-- lists of higher levels
others_filled : (gs : List (List theory.Origin)) (ls : List ℕ) (m : ℕ) (o : theory.Origin) (ms : List ℕ) (os : List theory.Origin) →
    ((l : ℕ) → In l ls → m < l) → filled_lists gs ls ms os ≡ filled_lists gs ls (m ∷ ms) (o ∷ os)
others_filled [] ls m o ms os h = refl
others_filled (g ∷ gs) [] m o ms os h = refl
others_filled (g ∷ gs) (l ∷ ls) m o ms os h =
    ap₂ (λ ys hs. (g ++ ys) ∷ hs) (sym (other_level l m o ms os (λ e. let lt = h l (inl refl) in absurd (omega arith))))
    (others_filled gs ls m o ms os (λ k i. h k (inr i)))

pub fill_step : (gs : List (List theory.Origin)) (ls : List ℕ) (i m : ℕ) (o : theory.Origin) (ms : List ℕ) (os : List theory.Origin) →
    IsRising ls → slice_get ls i ≡ Some m → filled_lists (pushed_origin gs i o) ls ms os ≡ filled_lists gs ls (m ∷ ms) (o ∷ os)
fill_step [] ls i m o ms os r e = refl
fill_step (g ∷ gs) [] i m o ms os r e = absurd (cc e)
fill_step (g ∷ gs) (l ∷ ls) zero m o ms os r e =
    let here : m ≡ l = cc in
    ap₂ (λ (ys : List theory.Origin) hs. ys ∷ hs)
    (append_assoc g (o ∷ []) (picked l ms os) ∙ ap (λ ys. g ++ ys) (sym (same_level l m o ms os here)))
    (others_filled gs ls m o ms os (λ k j. let P : ℕ → Type 0 = λ n. n < k in subst P (sym here) (r.0 k j)))
fill_step (g ∷ gs) (l ∷ ls) (suc i) m o ms os r e =
    ap₂ (λ ys hs. (g ++ ys) ∷ hs)
    (sym (other_level l m o ms os (λ same. let lt = r.0 m (in_got ls i m e) in absurd (omega arith))))
    (fill_step gs ls i m o ms os r.1 e)

-- ---- before the first origin, and after the last

pub filled_first : (ls ms : List ℕ) (os : List theory.Origin) → filled_lists (map (λ (l : ℕ). []) ls) ls ms os ≡ map (λ l. picked l ms os) ls
filled_first [] ms os = refl
filled_first (l ∷ ls) ms os = ap (λ gs. picked l ms os ∷ gs) (filled_first ls ms os)

none_picked : (l : ℕ) (ms : List ℕ) → picked l ms [] ≡ []
none_picked l [] = refl
none_picked l (m ∷ ms) = refl

pub filled_last : (gs : List (List theory.Origin)) (ls ms : List ℕ) → length gs ≡ length ls → filled_lists gs ls ms [] ≡ gs
filled_last [] ls ms e = refl
filled_last (g ∷ gs) [] ms e = absurd (omega arith)
filled_last (g ∷ gs) (l ∷ ls) ms e = ap₂ (λ ys hs. (g ++ ys) ∷ hs) (none_picked l ms) refl ∙ ap₂ (λ (ys : List theory.Origin) hs. ys ∷ hs) (append-nil g) (filled_last gs ls ms (omega arith))

-- ---- the code

pub pushed_lists : (gs : List (Vec Origin Global)) (i : ℕ) (x y : Vec Origin Global) (o : theory.Origin) → i < length gs → x ≡ get_or gs i x →
    origins_view y.items ≡ origins_view x.items ++ o ∷ [] → origin_lists (set gs i y) ≡ pushed_origin (origin_lists gs) i o
pushed_lists [] i x y o lt is new = absurd (omega arith)
pushed_lists (g ∷ gs) zero x y o lt is new = ap (λ v. v ∷ origin_lists gs) (new ∙ ap (λ (z : Vec Origin Global). origins_view z.items ++ o ∷ []) is)
pushed_lists (g ∷ gs) (suc i) x y o lt is new = ap (λ vs. origins_view g.items ∷ vs) (pushed_lists gs i x y o (omega arith) is new)

-- the levels that were read are those of the rule
held_of_views : (xs : List AlternativeLevel) → levels_held xs ≡ map (λ p. p.0) (map alternative_level_view xs)
held_of_views [] = refl
held_of_views (a ∷ xs) = ap (λ ls. a.level ∷ ls) (held_of_views xs)

pub levels_are_read : (r : RuleData) (xs : List AlternativeLevel) → map alternative_level_view xs ≡ handed_levels None None r.alternatives → levels_held xs ≡ levels_there (with_levels (all_places r))
levels_are_read r xs e =
    held_of_views xs ∙ ap (map (λ p. p.0)) (e ∙ sym (levels_read r)) ∙ first_of_pairs (present (with_levels (all_places r)))

pub in_levels : (ls ms : List ℕ) → ls ≡ rising ms → (l : ℕ) → In l ms → In l ls
in_levels ls ms same l i = subst (λ (ns : List ℕ). In l ns) (sym same) (in_rising l ms i)

-- ---- loops and calls

next_at : (xs : List AlternativeLevel) (i : ℕ) (d : AlternativeLevel) → i < length xs → levels_held (drop i xs) ≡ (get_or xs i d).level ∷ levels_held (drop (i + 1) xs)
next_at xs i d lt =
    let e : drop i xs ≡ get_or xs i d ∷ drop (i + 1) xs = rw add-one (drop-cons xs i d lt) in
    ap levels_held e

pub set_step : (xs : List AlternativeLevel) (i : ℕ) (d : AlternativeLevel) (before after : List ℕ) → 0 < i → i ≤ length xs →
    before ≡ rising (levels_held (drop i xs)) → after ≡ insert_key nat_cmp before (get_or xs (i - 1) d).level → after ≡ rising (levels_held (drop (i - 1) xs))
set_step xs zero d before after lt le e new = absurd (omega arith)
set_step xs (suc i) d before after lt le e new =
    let next : levels_held (drop i xs) ≡ (get_or xs i d).level ∷ levels_held (drop (suc i) xs) = rw add-one at (next_at xs i d (omega arith)) in
    let down : suc i - 1 ≡ i = omega arith in
    new
    ∙ ap (λ k. insert_key nat_cmp before (get_or xs k d).level) down
    ∙ ap (λ ls. insert_key nat_cmp ls (get_or xs i d).level) e
    ∙ ap rising (sym next)
    ∙ ap (λ k. rising (levels_held (drop k xs))) (sym down)

lists_end : (gs : List (Vec Origin Global)) (v : Vec Origin Global) (rest : List (List theory.Origin)) → v.items ≡ [] →
    origin_lists (gs ++ v ∷ []) ++ rest ≡ origin_lists gs ++ [] ∷ rest
lists_end [] v rest e = ap (λ (os : List Origin). origins_view os ∷ rest) e
lists_end (g ∷ gs) v rest e = ap (λ vs. origins_view g.items ∷ vs) (lists_end gs v rest e)

pub empty_step : (gs after : List (Vec Origin Global)) (v : Vec Origin Global) (ls : List ℕ) (i : ℕ) → i < length ls → v.items ≡ [] → after ≡ gs ++ v ∷ [] →
    origin_lists gs ++ map (λ (l : ℕ). []) (drop i ls) ≡ map (λ (l : ℕ). []) ls → origin_lists after ++ map (λ (l : ℕ). []) (drop (i + 1) ls) ≡ map (λ (l : ℕ). []) ls
empty_step gs after v ls i lt bare new h =
    let next : drop i ls ≡ get_or ls i 0 ∷ drop (i + 1) ls = rw add-one (drop-cons ls i 0 lt) in
    ap (λ vs. origin_lists vs ++ map (λ (l : ℕ). []) (drop (i + 1) ls)) new
    ∙ lists_end gs v (map (λ (l : ℕ). []) (drop (i + 1) ls)) bare
    ∙ ap (λ ms. origin_lists gs ++ map (λ (l : ℕ). []) ms) (sym next)
    ∙ h

pub lists_first : (gs : List (Vec Origin Global)) (ls : List ℕ) (xs : List AlternativeLevel) (rest own : List Origin) → origin_lists gs ≡ map (λ (l : ℕ). []) ls → rest ≡ own →
    filled_lists (origin_lists gs) ls (levels_held xs) (origins_view rest) ≡ map (λ m. picked m (levels_held xs) (origins_view own)) ls
lists_first gs ls xs rest own e same =
    ap (λ hs. filled_lists hs ls (levels_held xs) (origins_view rest)) e
    ∙ filled_first ls (levels_held xs) (origins_view rest)
    ∙ ap (λ os. map (λ m. picked m (levels_held xs) (origins_view os)) ls) same

pub lists_count : (gs : List (Vec Origin Global)) (ls : List ℕ) → origin_lists gs ≡ map (λ (l : ℕ). []) ls → length gs ≡ length ls
lists_count gs ls e = sym (length-map gs (λ (v : Vec Origin Global). origins_view v.items)) ∙ ap length e ∙ length-map ls (λ l. [])

pushed_length : (gs : List (List theory.Origin)) (i : ℕ) (o : theory.Origin) → length (pushed_origin gs i o) ≡ length gs
pushed_length [] i o = refl
pushed_length (g ∷ gs) zero o = refl
pushed_length (g ∷ gs) (suc i) o = ap suc (pushed_length gs i o)

pub pushed_count : (old new : List (Vec Origin Global)) (i : ℕ) (o : theory.Origin) → origin_lists new ≡ pushed_origin (origin_lists old) i o → length new ≡ length old
pushed_count old new i o e =
    sym (length-map new (λ (v : Vec Origin Global). origins_view v.items)) ∙ ap length e ∙ pushed_length (origin_lists old) i o
    ∙ length-map old (λ (v : Vec Origin Global). origins_view v.items)

pub held_at : (xs : List AlternativeLevel) (i : ℕ) (d : AlternativeLevel) → i < length xs → In (get_or xs i d).level (levels_held xs)
held_at [] i d lt = absurd (omega arith)
held_at (x ∷ xs) zero d lt = inl refl
held_at (x ∷ xs) (suc i) d lt = inr (held_at xs i d (omega arith))

pub lists_step : (old new : List (Vec Origin Global)) (ls : List ℕ) (xs : List AlternativeLevel) (i place : ℕ) (d : AlternativeLevel) (o : Origin) (before rest : List Origin)
    (all : List (List theory.Origin)) → IsRising ls → i < length xs → slice_get ls place ≡ Some (get_or xs i d).level →
    origin_lists new ≡ pushed_origin (origin_lists old) place (origin_view o) → before ≡ o ∷ rest →
    filled_lists (origin_lists old) ls (levels_held (drop i xs)) (origins_view before) ≡ all →
    filled_lists (origin_lists new) ls (levels_held (drop (i + 1) xs)) (origins_view rest) ≡ all
lists_step old new ls xs i place d o before rest all r lt found more same h =
    let ms = levels_held (drop (i + 1) xs) in
    ap (λ gs. filled_lists gs ls ms (origins_view rest)) more
    ∙ fill_step (origin_lists old) ls place (get_or xs i d).level (origin_view o) ms (origins_view rest) r found
    ∙ ap (λ ks. filled_lists (origin_lists old) ls ks (origin_view o ∷ origins_view rest)) (sym (next_at xs i d lt))
    ∙ ap (λ os. filled_lists (origin_lists old) ls (levels_held (drop i xs)) (origins_view os)) (sym same)
    ∙ h

pub lists_last : (gs : List (Vec Origin Global)) (ls ms : List ℕ) (rest : List Origin) (all : List (List theory.Origin)) → length gs ≡ length ls → rest ≡ [] →
    filled_lists (origin_lists gs) ls ms (origins_view rest) ≡ all → origin_lists gs ≡ all
lists_last gs ls ms rest all count none h =
    sym (filled_last (origin_lists gs) ls ms (length-map gs (λ (v : Vec Origin Global). origins_view v.items) ∙ count))
    ∙ ap (λ os. filled_lists (origin_lists gs) ls ms (origins_view os)) (sym none)
    ∙ h

-- ---- a rule with levels

-- the step of a level is there where a lower level is
module _ (ps : List (Option Leveled)) (f : ℕ → List theory.Origin) where
  higher_stepped : (xs : List ℕ) (k : ℕ) (back : List ℕ) → levels_of ps ≡ (xs ++ k ∷ []) ++ back → IsRising ((xs ++ k ∷ []) ++ back) →
      stepped_lists true (map f back) ≡ map (λ l. f l ++ step_origins (previous_level ps l)) back
  higher_stepped xs k [] e h = refl
  higher_stepped xs k (l ∷ back) e h =
      let front = xs ++ k ∷ [] in
      let previous : previous_level ps l ≡ Some k =
      ap (λ ls. greatest (below l ls)) e ∙ ap greatest (below_is_front l front back h) ∙ greatest_last xs k (rising_front front (l ∷ back) h) in
      let on : (front ++ l ∷ []) ++ back ≡ front ++ l ∷ back = append_assoc front (l ∷ []) back in
      ap₂ (λ (os : List theory.Origin) oss. os ∷ oss) (ap (λ o. f l ++ step_origins o) (sym previous))
      (higher_stepped front l back (e ∙ sym on) (subst IsRising (sym on) h))

  steps_of_levels : (ls : List ℕ) → levels_of ps ≡ ls → IsRising ls → stepped_lists false (map f ls) ≡ map (λ l. f l ++ step_origins (previous_level ps l)) ls
  steps_of_levels [] e h = refl
  steps_of_levels (l ∷ back) e h =
      let none : previous_level ps l ≡ None = ap (λ ls. greatest (below l ls)) e ∙ ap greatest (below_is_front l [] back h) in
      ap₂ (λ (os : List theory.Origin) oss. os ∷ oss) (sym (ap (λ o. f l ++ step_origins o) none ∙ append-nil (f l)))
      (higher_stepped [] l back e h)

pub stepped_are_levels : (r : RuleData) (xs : List AlternativeLevel) (ls : List ℕ) (os : List theory.Origin) (oss : List (List theory.Origin)) →
    has_levels (all_places r) ≡ true → map alternative_level_view xs ≡ handed_levels None None r.alternatives → ls ≡ rising (levels_held xs) →
    oss ≡ map (λ l. picked l (levels_held xs) os) ls → stepped_lists false oss ≡ rule_level_lists r os
stepped_are_levels r xs ls os oss leveled read up e =
    let ps = with_levels (all_places r) in
    let held : levels_held xs ≡ levels_there ps = levels_are_read r xs read in
    ap (stepped_lists false)
    (e ∙ ap (λ ks. map (λ l. picked l (levels_held xs) os) ks) up ∙ ap (λ ms. map (λ l. picked l ms os) (rising ms)) held)
    ∙ steps_of_levels ps (λ l. picked l (levels_there ps) os) (levels_of ps) refl (rising_rises (levels_there ps))
    ∙ ap (λ b. level_origins b ps os) (sym leveled)
