-- Whether a rule has several levels, by the levels of its alternatives in order.
use Rattle.std.proofs.Common.{◌≡◌, ◌≢◌, inl, inr, ℕ, ◌<◌, List, [], ◌∷◌, map, length, None, Bool, true, false, Decides, refl, sym, ap, ◌∙◌, arith}
use Rattle.std.specs.Prelude.{not, ◌||◌, nat_eq, nat_lt}
use Rattle.std.specs.List.{list_any}
use Rattle.std.proofs.lemmas.Bool.Decides.{Decides-eqb, Decides-ltb}
use Rattle.lalrpop_norm_theory.specs.Rounds.{In}
use Rattle.lalrpop_norm_tree.specs.Items.{RuleData}
use Rattle.lalrpop_norm_model.specs.Enabled.{all_places, present}
use Rattle.lalrpop_norm_model.specs.Levels.{Side, Leveled, rising, with_levels, levels_of}
use Rattle.lalrpop_norm_model.specs.Stated.{IsRising}
use Rattle.lalrpop_norm_model.proofs.LevelLemmas.{in_rising, of_rising, rising_rises}
use Rattle.lalrpop_norm_precedence_steps.specs.declared.levels.AlternativeLevel.{AlternativeLevel}
use Rattle.lalrpop_norm_precedence_steps.specs.StatedLevels.{alternative_level_view, differ}
use Rattle.lalrpop_norm_precedence.specs.Handed.{handed_levels}
use Rattle.lalrpop_norm_precedence.proofs.ReadLemmas.{levels_read, first_of_pairs, first_of_views}

-- ---- one level or more

none_other : (l : ℕ) (ls : List ℕ) → list_any (λ m. not (nat_eq m l)) ls ≡ false → (k : ℕ) → In k ls → k ≡ l
none_other l [] h k i = absurd i
none_other l (m ∷ ls) h k i = by (nat_eq m l) (Decides-eqb m l) (λ e j. none_other l ls e k j) h i
  where
    by : (b : Bool) → Decides b (m ≡ l) → (list_any (λ m. not (nat_eq m l)) ls ≡ false → In k ls → k ≡ l) →
        (not b || list_any (λ m. not (nat_eq m l)) ls) ≡ false → In k (m ∷ ls) → k ≡ l
    by true d f e (inl s) = s ∙ d.0 refl
    by true d f e (inr j) = f e j
    by false d f e j = absurd (cc e)

some_other : (l : ℕ) (ls : List ℕ) → list_any (λ m. not (nat_eq m l)) ls ≡ true → (k : ℕ) × In k ls × (k ≢ l)
some_other l [] h = absurd (cc h)
some_other l (m ∷ ls) h = by (nat_eq m l) (Decides-eqb m l) (some_other l ls) h
  where
    by : (b : Bool) → Decides b (m ≡ l) → (list_any (λ m. not (nat_eq m l)) ls ≡ true → (k : ℕ) × In k ls × (k ≢ l)) →
        (not b || list_any (λ m. not (nat_eq m l)) ls) ≡ true → (k : ℕ) × In k (m ∷ ls) × (k ≢ l)
    by true d f e = let (k, i, other) = f e in (k, inr i, other)
    by false d f e = (m, inl refl, λ same. absurd (cc (d.1 same)))

at_most_one : (l : ℕ) (ls : List ℕ) → IsRising ls → ((k : ℕ) → In k ls → k ≡ l) → nat_lt 1 (length ls) ≡ false
at_most_one l [] r h = refl
at_most_one l (m ∷ []) r h = refl
at_most_one l (m ∷ k ∷ ls) r h =
    let less : m < k = r.0 k (inl refl) in
    let one : m ≡ l = h m (inl refl) in
    let two : k ≡ l = h k (inr (inl refl)) in
    absurd (omega arith)

two_or_more : (l k : ℕ) (ls : List ℕ) → In l ls → In k ls → k ≢ l → nat_lt 1 (length ls) ≡ true
two_or_more l k [] i j other = absurd i
two_or_more l k (m ∷ []) (inl e) (inl f) other = absurd (other (f ∙ sym e))
two_or_more l k (m ∷ []) (inl e) (inr j) other = absurd j
two_or_more l k (m ∷ []) (inr i) j other = absurd i
two_or_more l k (m ∷ n ∷ ls) i j other = (Decides-ltb 1 (length (m ∷ n ∷ ls))).1 (omega arith)

differ_rising : (ls : List ℕ) → differ ls ≡ nat_lt 1 (length (rising ls))
differ_rising [] = refl
differ_rising (l ∷ ls) = by (list_any (λ m. not (nat_eq m l)) (l ∷ ls)) refl
  where
    by : (b : Bool) → list_any (λ m. not (nat_eq m l)) (l ∷ ls) ≡ b → list_any (λ m. not (nat_eq m l)) (l ∷ ls) ≡ nat_lt 1 (length (rising (l ∷ ls)))
    by true e =
        let (k, i, other) = some_other l (l ∷ ls) e in
        e ∙ sym (two_or_more l k (rising (l ∷ ls)) (in_rising l (l ∷ ls) (inl refl)) (in_rising k (l ∷ ls) i) other)
    by false e =
        e ∙ sym (at_most_one l (rising (l ∷ ls)) (rising_rises (l ∷ ls)) (λ k i. none_other l (l ∷ ls) e k (of_rising k (l ∷ ls) i)))

pub several_read : (r : RuleData) (xs : List AlternativeLevel) → map alternative_level_view xs ≡ handed_levels None None r.alternatives →
    differ (map (λ (l : AlternativeLevel). (alternative_level_view l).0) xs) ≡ nat_lt 1 (length (levels_of (with_levels (all_places r))))
several_read r xs e =
    ap differ (first_of_views xs ∙ ap (map (λ (p : ℕ × Side). p.0)) (e ∙ sym (levels_read r)) ∙ first_of_pairs (present (with_levels (all_places r))))
    ∙ differ_rising (map (λ (a : Leveled). a.level) (present (with_levels (all_places r))))
