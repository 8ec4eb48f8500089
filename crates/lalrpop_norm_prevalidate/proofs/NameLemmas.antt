-- The least name that two symbols have is the first of the sorted names that the next one equals.
use Rattle.std.proofs.Common.{◌≡◌, ℕ, suc, ◌+◌, ◌≤◌, Bool, true, false, cond, ltb, List, [], ◌∷◌, ◌++◌, map, Bor, Option, Some, None, get_or, length, is_some, option_map, option_to_list, bytes_eq, count_by, IsPermutation, IsSorted}
use Rattle.std.proofs.Common.{Ordering, Less, Equal, Greater, nat_cmp, is_eq, is_lt, refl, sym, ap, ap₂, subst, ◌∙◌, arith, zero-le, true≢false, lt-ltb, ltb-false, le-ltb}
use Rattle.std.specs.Prelude.{⊤, if◌then◌else◌}
use Rattle.std.specs.Ordering.{ordering_reverse}
use Rattle.std.specs.Cmp.Lexicographic.{slice_cmp}
use Rattle.std.proofs.lemmas.Cmp.{nat_list_cmp_total}
use Rattle.std.proofs.lemmas.Bool.Decides.{nat_tests}
use Rattle.std.proofs.lemmas.List.Sums.{sum_by-cons}
use Rattle.std.proofs.lemmas.List.Sorted.{sum_by-IsPermutation, IsPermutation-map}
use Rattle.std.proofs.lemmas.Map.Text.{is_eq-slice_cmp}
use Rattle.lalrpop_norm_tree_names.specs.declared.names.Span.{Span}
use Rattle.lalrpop_norm_tree.specs.Symbols.{Parts, no_parts, part_and, at}
use Rattle.lalrpop_norm_theory.proofs.SameLemmas.{text_sound, text_same}
use Rattle.lalrpop_norm_prevalidate.specs.SymbolFaults.{name_of, is_that_name, named_at, second_at, placed, again, lesser_name, symbol_names, first_repeated, least_twice}

abbrev Name : Type 0
Name = List ℕ

abbrev name_cmp : Name → Name → Ordering
name_cmp = slice_cmp nat_cmp

-- how often a name stands in a list
abbrev times : Name → List Name → ℕ
times m ns = count_by (bytes_eq m) ns

-- ---- the order of names

same_name : (n m : Name) → name_cmp n m ≡ Equal → n ≡ m
same_name n m e = text_sound n m (sym (is_eq-slice_cmp n m) ∙ ap is_eq e)

below_differs : (n m : Name) → name_cmp n m ≡ Less → bytes_eq n m ≡ false
below_differs n m e = sym (is_eq-slice_cmp n m) ∙ ap is_eq e

turned : (n m : Name) (o : Ordering) → name_cmp n m ≡ o → name_cmp m n ≡ ordering_reverse o
turned n m o e = nat_list_cmp_total.antisymm m n ∙ ap ordering_reverse e

is_below : (o : Ordering) → is_lt o ≡ true → o ≡ Less
is_below Less e = refl
is_below Equal e = absurd (cc e)
is_below Greater e = absurd (cc e)

-- m is below n, and n is not above p
below_through : (m n p : Name) (o : Ordering) → name_cmp n p ≡ o → is_lt (name_cmp p n) ≡ false → name_cmp m n ≡ Less → name_cmp m p ≡ Less
below_through m n p Less e up low = nat_list_cmp_total.trans m n p low e
below_through m n p Equal e up low = subst (λ x. name_cmp m x ≡ Less) (same_name n p e) low
below_through m n p Greater e up low = absurd (true≢false (sym (ap is_lt (turned n p Greater e)) ∙ up))

-- neighbours that differ rise
rises : (n m : Name) (o : Ordering) → name_cmp n m ≡ o → is_lt (name_cmp m n) ≡ false → bytes_eq n m ≡ false → name_cmp n m ≡ Less
rises n m Less e up other = e
rises n m Equal e up other = absurd (true≢false (sym (ap is_eq e) ∙ is_eq-slice_cmp n m ∙ other))
rises n m Greater e up other = absurd (true≢false (sym (ap is_lt (turned n m Greater e)) ∙ up))

-- ---- a sorted list

abbrev Rises : List Name → Type 0
Rises [] = ⊤
Rises (n ∷ []) = ⊤
Rises (n ∷ m ∷ ns) = (is_lt (name_cmp m n) ≡ false) × Rises (m ∷ ns)

rises_from_sorted : (ns : List (Bor Name)) → IsSorted (λ a b. name_cmp a.now b.now) ns → Rises (map (λ a. a.now) ns)
rises_from_sorted [] sorted = tt
rises_from_sorted (n ∷ []) sorted = tt
rises_from_sorted (n ∷ m ∷ ns) sorted = (
  sorted 0 n (omega arith) (omega arith),
  rises_from_sorted (m ∷ ns) (λ k d low high.
      let next : suc k + 1 ≡ suc (k + 1) = omega arith in
      subst (λ i. is_lt (name_cmp (get_or (n ∷ m ∷ ns) i d).now (get_or (m ∷ ns) k d).now) ≡ false) next (sorted (suc k) d (omega arith) (omega arith))),
)

times-cons : (m n : Name) (ns : List Name) → times m (n ∷ ns) ≡ cond (bytes_eq m n) 1 0 + times m ns
times-cons m n ns = sum_by-cons (λ x. cond (bytes_eq m x) 1 0) n ns

none_below : (m n : Name) (ns : List Name) → Rises (n ∷ ns) → name_cmp m n ≡ Less → times m (n ∷ ns) ≡ 0
none_below m n [] up low = times-cons m n [] ∙ ap (λ b. cond b 1 0 + 0) (below_differs m n low)
none_below m n (p ∷ ns) up low =
    times-cons m n (p ∷ ns) ∙ ap₂ (λ b k. cond b 1 0 + k) (below_differs m n low) (none_below m p ns up.1 (below_through m n p _ refl up.0 low))

-- no name, or the least of those that stand twice
abbrev IsLeastRepeated : List Name → Option Name → Type 0
IsLeastRepeated ns None = (m : Name) → times m ns ≤ 1
IsLeastRepeated ns (Some n) = (2 ≤ times n ns) × ((m : Name) → name_cmp m n ≡ Less → times m ns ≤ 1)

at_most : (b : Bool) → cond b 1 0 ≤ 1
at_most true = omega arith
at_most false = omega arith

module _ (n p : Name) (ns : List Name) (up : Rises (p ∷ ns)) where
  one_more : (m : Name) (b : Bool) → bytes_eq m n ≡ b → name_cmp n p ≡ Less → times m (p ∷ ns) ≤ 1 → times m (n ∷ p ∷ ns) ≤ 1
  one_more m true e less once =
      let none : times m (p ∷ ns) ≡ 0 = none_below m p ns up (subst (λ x. name_cmp x p ≡ Less) (sym (text_sound m n e)) less) in
      let whole = times-cons m n (p ∷ ns) in
      let one = at_most (bytes_eq m n) in
      omega arith
  one_more m false e less once =
      let whole = times-cons m n (p ∷ ns) ∙ ap (λ b. cond b 1 0 + times m (p ∷ ns)) e in
      omega arith

  rest_told : (o : Option Name) → name_cmp n p ≡ Less → IsLeastRepeated (p ∷ ns) o → IsLeastRepeated (n ∷ p ∷ ns) o
  rest_told None less h = λ m. one_more m _ refl less (h m)
  rest_told (Some q) less h = (let whole = times-cons q n (p ∷ ns) in omega (arith, h.0), λ m low. one_more m _ refl less (h.1 m low))

  step_told : (b : Bool) → bytes_eq n p ≡ b → is_lt (name_cmp p n) ≡ false → IsLeastRepeated (p ∷ ns) (first_repeated (p ∷ ns)) → IsLeastRepeated (n ∷ p ∷ ns) (if b then Some p else first_repeated (p ∷ ns))
  step_told true e first h =
      let both : times p (n ∷ p ∷ ns) ≡ 1 + (1 + times p ns) =
      times-cons p n (p ∷ ns) ∙ ap₂ (λ b k. cond b 1 0 + k) (ap (bytes_eq p) (text_sound n p e) ∙ text_same p) (times-cons p p ns ∙ ap (λ b. cond b 1 0 + times p ns) (text_same p)) in
      let others : (m : Name) → name_cmp m p ≡ Less → times m (n ∷ p ∷ ns) ≤ 1 =
      λ m low. let none = none_below m p ns up low in let whole = times-cons m n (p ∷ ns) in let one = at_most (bytes_eq m n) in omega arith in
      (omega arith, others)
  step_told false e first h = rest_told _ (rises n p _ refl first e) h

least_repeated : (ns : List Name) → Rises ns → IsLeastRepeated ns (first_repeated ns)
least_repeated [] up = λ m. zero-le
least_repeated (n ∷ []) up = λ m. let whole = times-cons m n [] in let one = at_most (bytes_eq m n) in omega arith
least_repeated (n ∷ p ∷ ns) up = step_told n p ns up.1 _ refl up.0 (least_repeated (p ∷ ns) up.1)

pub one_left : (ns : List Name) → length ns ≤ 1 → None ≡ first_repeated ns
one_left [] short = refl
one_left (n ∷ []) short = refl
one_left (n ∷ m ∷ ns) short = absurd (omega arith)

-- ---- how many symbols have a name

times_named : (m : Name) (o : Option Name) (ns : List Name) → times m (option_to_list o ++ ns) ≡ cond (is_that_name m o) 1 0 + times m ns
times_named m None ns = omega arith
times_named m (Some n) ns = times-cons m n ns

module _ (m : Name) (s : Span) (ps : Parts) (k : ℕ) where
  named_step : (b : Bool) → is_some (named_at m ps) ≡ ltb 0 k → is_some (if b then Some s else named_at m ps) ≡ ltb 0 (cond b 1 0 + k)
  named_step true h = sym (lt-ltb 0 (1 + k) (omega arith))
  named_step false h = h ∙ ap (ltb 0) (omega arith)

  second_step : (b : Bool) → is_some (named_at m ps) ≡ ltb 0 k → is_some (second_at m ps) ≡ ltb 1 k → is_some (if b then named_at m ps else second_at m ps) ≡ ltb 1 (cond b 1 0 + k)
  second_step true first h = first ∙ grind (arith, nat_tests)
  second_step false first h = h ∙ ap (ltb 1) (omega arith)

named_told : (m : Name) (ps : Parts) → is_some (named_at m ps) ≡ ltb 0 (times m (symbol_names ps))
named_told m no_parts = refl
named_told m (part_and (at s k) ps) =
    named_step m s ps _ (is_that_name m (name_of k)) (named_told m ps) ∙ ap (ltb 0) (sym (times_named m (name_of k) (symbol_names ps)))

second_told : (m : Name) (ps : Parts) → is_some (second_at m ps) ≡ ltb 1 (times m (symbol_names ps))
second_told m no_parts = refl
second_told m (part_and (at s k) ps) =
    second_step m s ps _ (is_that_name m (name_of k)) (named_told m ps) (second_told m ps) ∙ ap (ltb 1) (sym (times_named m (name_of k) (symbol_names ps)))

none_from : {X : Type 0} (o : Option X) → is_some o ≡ false → o ≡ None
none_from None e = refl
none_from (Some x) e = absurd (true≢false e)

none_second : (m : Name) (ps : Parts) → times m (symbol_names ps) ≤ 1 → second_at m ps ≡ None
none_second m ps once = none_from _ (second_told m ps ∙ le-ltb 1 _ once)

not_named : (m : Name) (ps : Parts) → named_at m ps ≡ None → second_at m ps ≡ None
not_named m ps e = let none = ltb-false 0 (times m (symbol_names ps)) (sym (named_told m ps) ∙ ap is_some e) in none_second m ps (omega arith)

-- ---- the least of the names that two symbols have

abbrev IsLeast : (Name → Option Span) → Option (Name × Span) → Type 0
IsLeast second None = (m : Name) → second m ≡ None
IsLeast second (Some r) = (second r.0 ≡ Some r.1) × ((m : Name) → name_cmp m r.0 ≡ Less → second m ≡ None)

alike : (f g : Name → Option Span) → ((m : Name) → f m ≡ g m) → (r : Option (Name × Span)) → IsLeast g r → IsLeast f r
alike f g same None h = λ m. same m ∙ h m
alike f g same (Some r) h = (same r.0 ∙ h.0, λ m low. same m ∙ h.1 m low)

module _ (ps : Parts) where
  module _ (n : Name) where
    abbrev with_name : Name → Option Span
    with_name m = if bytes_eq m n then named_at m ps else second_at m ps

    other_name : (m : Name) → bytes_eq m n ≡ false → with_name m ≡ second_at m ps
    other_name m e = ap (λ b. if b then named_at m ps else second_at m ps) e

    this_name : with_name n ≡ named_at n ps
    this_name = ap (λ b. if b then named_at n ps else second_at n ps) (text_same n)

    once_named : named_at n ps ≡ None → (m : Name) (b : Bool) → bytes_eq m n ≡ b → with_name m ≡ second_at m ps
    once_named none m true e =
        let same = text_sound m n e in
        ap with_name same ∙ this_name ∙ none ∙ sym (not_named n ps none) ∙ ap (λ x. second_at x ps) (sym same)
    once_named none m false e = other_name m e

    lesser_told : (s : Span) → named_at n ps ≡ Some s → (r : Name × Span) → IsLeast (λ m. second_at m ps) (Some r) → (b : Bool) → is_lt (name_cmp r.0 n) ≡ b → IsLeast with_name (if b then Some r else Some (n, s))
    lesser_told s is r h true e =
        let low = is_below _ e in
        (other_name r.0 (below_differs r.0 n low) ∙ h.0, λ m less. other_name m (below_differs m n (nat_list_cmp_total.trans m r.0 n less low)) ∙ h.1 m less)
    lesser_told s is r h false e = (this_name ∙ is, λ m less. other_name m (below_differs m n less) ∙ h.1 m (below_through m n r.0 _ refl e less))

    found_step : (found : Option Span) → named_at n ps ≡ found → (r : Option (Name × Span)) → IsLeast (λ m. second_at m ps) r → IsLeast with_name (lesser_name (option_map (λ s. (n, s)) found) r)
    found_step None is r h = alike with_name (λ m. second_at m ps) (λ m. once_named is m _ refl) r h
    found_step (Some s) is None h = (this_name ∙ is, λ m less. other_name m (below_differs m n less) ∙ h m)
    found_step (Some s) is (Some r) h = lesser_told s is r h _ refl

  least_step : (o : Option Name) (r : Option (Name × Span)) → IsLeast (λ m. second_at m ps) r → IsLeast (λ m. if is_that_name m o then named_at m ps else second_at m ps) (lesser_name (again o ps) r)
  least_step None r h = h
  least_step (Some n) r h = found_step n _ refl r h

is_least : (ps : Parts) → IsLeast (λ m. second_at m ps) (least_twice ps)
is_least no_parts = λ m. refl
is_least (part_and (at s k) ps) = least_step ps (name_of k) (least_twice ps) (is_least ps)

module _ (ps : Parts) (names : List Name) (moved : IsPermutation (symbol_names ps) names) where
  once : (m : Name) → times m names ≤ 1 → second_at m ps ≡ None
  once m few = let same = sum_by-IsPermutation (λ x. cond (bytes_eq m x) 1 0) (symbol_names ps) names moved in none_second m ps (omega arith)

  not_none : (m : Name) → 2 ≤ times m names → second_at m ps ≡ None → ⊥
  not_none m twice none =
      let same = sum_by-IsPermutation (λ x. cond (bytes_eq m x) 1 0) (symbol_names ps) names moved in
      true≢false (sym (lt-ltb 1 (times m (symbol_names ps)) (omega arith)) ∙ sym (second_told m ps) ∙ ap is_some none)

  not_some : (m : Name) (s : Span) → second_at m ps ≡ Some s → times m names ≤ 1 → ⊥
  not_some m s is few = true≢false (sym (ap is_some is) ∙ ap is_some (once m few))

  by_order : (r : Name × Span) → IsLeast (λ m. second_at m ps) (Some r) → (n : Name) → IsLeastRepeated names (Some n) → (o : Ordering) → name_cmp n r.0 ≡ o → Some r ≡ placed (λ m. second_at m ps) (Some n)
  by_order r h n g Less e = absurd (not_none n g.0 (h.1 n e))
  by_order r h n g Equal e = sym (ap (λ x. placed (λ m. second_at m ps) (Some x)) (same_name n r.0 e) ∙ ap (option_map (λ s. (r.0, s))) h.0)
  by_order r h n g Greater e = absurd (not_some r.0 r.1 h.0 (g.1 r.0 (turned n r.0 Greater e)))

  join : (r : Option (Name × Span)) → IsLeast (λ m. second_at m ps) r → (o : Option Name) → IsLeastRepeated names o → r ≡ placed (λ m. second_at m ps) o
  join None h None g = refl
  join None h (Some n) g = sym (ap (option_map (λ s. (n, s))) (h n))
  join (Some r) h None g = absurd (not_some r.0 r.1 h.0 (g r.0))
  join (Some r) h (Some n) g = by_order r h n g _ refl

-- Of the sorted names of symbols, the first that the next one equals is the least that two symbols have.
pub least_of_sorted : (ps : Parts) (names sorted lent : List (Bor Name)) (found : Option Name) → map (λ a. a.now) names ≡ symbol_names ps → IsPermutation names sorted
    → IsSorted (λ a b. name_cmp a.now b.now) sorted → lent ≡ sorted → found ≡ first_repeated (map (λ a. a.now) lent) → placed (λ m. second_at m ps) found ≡ least_twice ps
least_of_sorted ps names sorted lent found listed moved ascends same is =
    let texts = map (λ a. a.now) sorted in
    let kept : IsPermutation (symbol_names ps) texts = subst (λ ns. IsPermutation ns texts) listed (IsPermutation-map (λ a. a.now) names sorted moved) in
    let least = join ps texts kept (least_twice ps) (is_least ps) (first_repeated texts) (least_repeated texts (rises_from_sorted sorted ascends)) in
    ap (placed (λ m. second_at m ps)) (is ∙ ap (λ ns. first_repeated (map (λ a. a.now) ns)) same) ∙ sym least
