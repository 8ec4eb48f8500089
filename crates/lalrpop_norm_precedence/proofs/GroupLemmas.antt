-- Alternatives put into the groups of their levels.
use Rattle.std.proofs.Common.{◌≡◌, inl, inr, ℕ, zero, suc, ◌<◌, ◌≤◌, List, [], ◌∷◌, ◌++◌, length, map, set, get_or, cond, Some, Bool, true, false, Decides, refl, sym, ap, ap₂, ◌∙◌, subst, arith, append_assoc, append-nil}
use Rattle.std.specs.Prelude.{slice_get, nat_eq}
use Rattle.std.specs.Prelude.{Err}
use Rattle.std.specs.Ordering.{nat_cmp}
use Rattle.std.specs.List.Sorted.{IsBinarySearchResult}
use Rattle.std.proofs.lemmas.Bool.{cases_lt}
use Rattle.std.proofs.lemmas.Bool.Decides.{Decides-eqb}
use Rattle.std.proofs.lemmas.List.{length-map}
use Rattle.std.proofs.lemmas.List.Sorted.{searched}
use Rattle.std.proofs.lemmas.Option.{slice_get_within}
use Rattle.lalrpop_norm_theory.specs.Rounds.{In}
use Rattle.lalrpop_norm_model.specs.Levels.{Leveled, rising}
use Rattle.lalrpop_norm_model.specs.LevelRules.{of_level}
use Rattle.lalrpop_norm_model.specs.Stated.{IsRising}
use Rattle.lalrpop_norm_model.proofs.LevelLemmas.{in_map, in_rising, rising_rises}
use Rattle.lalrpop_norm_precedence.specs.declared.precedence.groups.Group.{Group}
use Rattle.lalrpop_norm_precedence.specs.Grouped.{LevelGroup, group_view, pushed, filled_groups, groups_at, grouped}

abbrev levels_in : List LevelGroup → List ℕ
levels_in gs = map (λ (g : LevelGroup). g.0) gs

-- an alternative of another level is no matter
not_there : (l : ℕ) (a : Leveled) (xs : List Leveled) (b : Bool) → Decides b (a.level ≡ l) → (a.level ≡ l → ⊥) → cond b (a ∷ of_level l xs) (of_level l xs) ≡ of_level l xs
not_there l a xs true d apart = absurd (apart (d.0 refl))
not_there l a xs false d apart = refl

other_level : (l : ℕ) (a : Leveled) (xs : List Leveled) → (a.level ≡ l → ⊥) → of_level l (a ∷ xs) ≡ of_level l xs
other_level l a xs apart = not_there l a xs (nat_eq a.level l) (Decides-eqb a.level l) apart

is_there : (l : ℕ) (a : Leveled) (xs : List Leveled) (b : Bool) → Decides b (a.level ≡ l) → a.level ≡ l → cond b (a ∷ of_level l xs) (of_level l xs) ≡ a ∷ of_level l xs
is_there l a xs true d e = refl
is_there l a xs false d e = let differs = d.1 e in cc

same_level : (l : ℕ) (a : Leveled) (xs : List Leveled) → a.level ≡ l → of_level l (a ∷ xs) ≡ a ∷ of_level l xs
same_level l a xs e = is_there l a xs (nat_eq a.level l) (Decides-eqb a.level l) e

-- groups of higher levels
others_filled : (gs : List LevelGroup) (a : Leveled) (rest : List Leveled) → ((l : ℕ) → In l (levels_in gs) → a.level < l) → filled_groups gs rest ≡ filled_groups gs (a ∷ rest)
others_filled [] a rest h = refl
others_filled (g ∷ gs) a rest h =
    ap₂ (λ ys hs. (g.0, g.1 ++ ys) ∷ hs)
    (sym (other_level g.0 a rest (λ e. let lt = h g.0 (inl refl) in absurd (omega arith))))
    (others_filled gs a rest (λ l i. h l (inr i)))

pub in_got : (ls : List ℕ) (i l : ℕ) → slice_get ls i ≡ Some l → In l ls
in_got [] i l e = absurd (cc)
in_got (m ∷ ls) zero l e = inl (cc)
in_got (m ∷ ls) (suc i) l e = inr (in_got ls i l e)

pub fill_step : (gs : List LevelGroup) (i : ℕ) (a : Leveled) (rest : List Leveled) → IsRising (levels_in gs) → slice_get (levels_in gs) i ≡ Some a.level →
    filled_groups (pushed gs i a) rest ≡ filled_groups gs (a ∷ rest)
fill_step [] i a rest r e = refl
fill_step (g ∷ gs) zero a rest r e =
    let here : a.level ≡ g.0 = cc in
    ap₂ (λ ys hs. (g.0, ys) ∷ hs)
    (append_assoc g.1 (a ∷ []) (of_level g.0 rest) ∙ ap (λ ys. g.1 ++ ys) (sym (same_level g.0 a rest here)))
    (others_filled gs a rest (λ l j. let P : ℕ → Type 0 = λ k. k < l in subst P (sym here) (r.0 l j)))
fill_step (g ∷ gs) (suc i) a rest r e =
    ap₂ (λ ys hs. (g.0, g.1 ++ ys) ∷ hs)
    (sym (other_level g.0 a rest (λ same. let lt = r.0 a.level (in_got (levels_in gs) i a.level e) in absurd (omega arith))))
    (fill_step gs i a rest r.1 e)

-- pushing keeps the levels
pub pushed_levels : (gs : List LevelGroup) (i : ℕ) (a : Leveled) → levels_in (pushed gs i a) ≡ levels_in gs
pushed_levels [] i a = refl
pushed_levels (g ∷ gs) zero a = refl
pushed_levels (g ∷ gs) (suc i) a = ap (λ ls. g.0 ∷ ls) (pushed_levels gs i a)

-- before the first alternative, and after the last
pub filled_first : (ls : List ℕ) (xs : List Leveled) → filled_groups (map (λ l. (l, [])) ls) xs ≡ groups_at ls xs
filled_first [] xs = refl
filled_first (l ∷ ls) xs = ap (λ gs. (l, of_level l xs) ∷ gs) (filled_first ls xs)

pub filled_last : (gs : List LevelGroup) → filled_groups gs [] ≡ gs
filled_last [] = refl
filled_last (g ∷ gs) = ap₂ (λ ys hs. (g.0, ys) ∷ hs) (append-nil g.1) (filled_last gs)

pub levels_first : (ls : List ℕ) → levels_in (map (λ l. (l, [])) ls) ≡ ls
levels_first [] = refl
levels_first (l ∷ ls) = ap (λ ms. l ∷ ms) (levels_first ls)

-- ---- the index of a level

in_at : (xs : List ℕ) (i : ℕ) → i < length xs → In (get_or xs i 0) xs
in_at [] i lt = absurd (omega arith)
in_at (x ∷ xs) zero lt = inl refl
in_at (x ∷ xs) (suc i) lt = inr (in_at xs i (omega arith))

place_of : (x : ℕ) (xs : List ℕ) → In x xs → (i : ℕ) × (i < length xs) × (get_or xs i 0 ≡ x)
place_of x [] h = absurd h
place_of x (y ∷ ys) (inl e) = (0, omega arith, sym e)
place_of x (y ∷ ys) (inr h) = let (i, lt, e) = place_of x ys h in (suc i, omega arith, e)

never_falls : (xs : List ℕ) → IsRising xs → (i j : ℕ) → i ≤ j → j < length xs → get_or xs i 0 ≤ get_or xs j 0
never_falls [] r i j le lt = absurd (omega arith)
never_falls (x ∷ xs) r zero zero le lt = omega arith
never_falls (x ∷ xs) r zero (suc j) le lt = let up = r.0 (get_or xs j 0) (in_at xs j (omega arith)) in omega arith
never_falls (x ∷ xs) r (suc i) zero le lt = absurd (omega arith)
never_falls (x ∷ xs) r (suc i) (suc j) le lt = never_falls xs r.1 i j (omega arith) (omega arith)

nowhere : (xs : List ℕ) (x i : ℕ) → In x xs → ((k : ℕ) → k < i → get_or xs k 0 < x) → ((k : ℕ) → i ≤ k → k < length xs → x < get_or xs k 0) → ⊥
nowhere xs x i h front back =
    let (k, lt, e) = place_of x xs h in
    elim (cases_lt k i) [ inl before ↦ (let less = front k before in omega arith) | inr after ↦ (let more = back k after lt in omega arith) ]

pub place_not_found : (xs : List ℕ) (x i : ℕ) → IsBinarySearchResult (λ y. nat_cmp y x) xs (Err i) → IsRising xs → In x xs → slice_get xs i ≡ Some x
place_not_found xs x i h r there = let f = searched xs x (Err i) h (never_falls xs r) in absurd (nowhere xs x i there f.1 f.2)

-- ---- the loop

pub pushed_at : (gs : List Group) (i : ℕ) (x y : Group) (a : Leveled) → i < length gs → x ≡ get_or gs i x →
    group_view y ≡ ((group_view x).0, (group_view x).1 ++ a ∷ []) → map group_view (set gs i y) ≡ pushed (map group_view gs) i a
pushed_at [] i x y a lt is new = absurd (omega arith)
pushed_at (g ∷ gs) zero x y a lt is new = ap (λ v. v ∷ map group_view gs) (new ∙ ap (λ z. ((group_view z).0, (group_view z).1 ++ a ∷ [])) is)
pushed_at (g ∷ gs) (suc i) x y a lt is new = ap (λ vs. group_view g ∷ vs) (pushed_at gs i x y a (omega arith) is new)

pub group_step : (gs : List LevelGroup) (i : ℕ) (a : Leveled) (rest : List Leveled) (ls : List ℕ) (all : List LevelGroup) → IsRising ls →
    map (λ (g : LevelGroup). g.0) gs ≡ ls → slice_get ls i ≡ Some a.level → filled_groups gs (a ∷ rest) ≡ all → filled_groups (pushed gs i a) rest ≡ all
group_step gs i a rest ls all r e found h =
    fill_step gs i a rest (subst IsRising (sym e) r) (ap (λ ms. slice_get ms i) e ∙ found) ∙ h

pub group_first : (gs : List LevelGroup) (ls : List ℕ) (xs : List Leveled) → gs ≡ map (λ l. (l, [])) ls → ls ≡ rising (map (λ (a : Leveled). a.level) xs) →
    filled_groups gs xs ≡ grouped xs
group_first gs ls xs e same = ap (λ hs. filled_groups hs xs) e ∙ filled_first ls xs ∙ ap (λ ms. groups_at ms xs) same

pub levels_there : (ls : List ℕ) (xs : List Leveled) → ls ≡ rising (map (λ (a : Leveled). a.level) xs) → (a : Leveled) → In a xs → In a.level ls
levels_there ls xs same a i =
    subst (λ (ms : List ℕ). In a.level ms) (sym same) (in_rising a.level _ (in_map (λ (b : Leveled). b.level) a xs i))

pub levels_rise : (ls ms : List ℕ) → ls ≡ rising ms → IsRising ls
levels_rise ls ms same = subst IsRising (sym same) (rising_rises ms)

pub group_within : (gs : List Group) (ls : List ℕ) (i l : ℕ) → map (λ (g : LevelGroup). g.0) (map group_view gs) ≡ ls → slice_get ls i ≡ Some l → i < length gs
group_within gs ls i l e found =
    let count : length ls ≡ length gs = sym (ap length e) ∙ length-map (map group_view gs) (λ (g : LevelGroup). g.0) ∙ length-map gs group_view in
    let within : i < length ls = slice_get_within ls i l found in
    omega arith

pub none_left : {A : Type 0} (xs : List A) → length xs ≡ 0 → xs ≡ []
none_left [] e = refl
none_left (x ∷ xs) e = absurd (omega arith)
