-- Numbers of rules, and what clauses need.
use Rattle.std.proofs.Common.{◌≡◌, ◌<◌, ◌+◌, ◌++◌, ◌⊎◌, inl, inr, ℕ, zero, suc, List, [], ◌∷◌, Option, Some, length, map, take, get_or, slice_get, append_assoc, refl, sym, ap, ◌∙◌, subst, arith}
use Rattle.std.specs.Prelude.{Result, Ok, Err, OnOk}
use Rattle.std.proofs.lemmas.List.{length-map, length-append, map-append, take_more}
use Rattle.std.proofs.lemmas.Option.{slice_get_within}
use Rattle.lalrpop_norm_tree_names.specs.declared.names.TypeParameter.{TypeParameter}
use Rattle.lalrpop_norm_theory.specs.Rounds.{In, IsDistinct}
use Rattle.lalrpop_norm_theory.proofs.ListLemmas.{in_one}
use Rattle.lalrpop_norm_theory.proofs.RoundsLemmas.{in_left, in_right, in_cases}
use Rattle.lalrpop_norm_model.specs.TypeRelation.{TypeClause}
use Rattle.lalrpop_norm_tyinfer_steps.specs.declared.needs.Need.{Need}
use Rattle.lalrpop_norm_tyinfer_steps.specs.Needs.{needed_in, names_seen, AreRuleNumbers, IsNeedOf, AddsNeeds, AreNeeds}
use Rattle.lalrpop_norm_tyinfer_steps.specs.Stops.{NeedsBelow}
use Rattle.lalrpop_norm_tyinfer_steps.specs.Visits.{Seen}
use Rattle.lalrpop_norm_model.proofs.LevelLemmas.{at_in}

-- ---- elements of lists

pub get_before_last : {X : Type 0} (xs : List X) (x : X) (k : ℕ) (y : X) → slice_get (xs ++ x ∷ []) k ≡ Some y → (slice_get xs k ≡ Some y) ⊎ ((k ≡ length xs) × (x ≡ y))
get_before_last [] x zero y e = inr (refl, cc)
get_before_last [] x (suc k) y e = absurd cc
get_before_last (z ∷ xs) x zero y e = inl e
get_before_last (z ∷ xs) x (suc k) y e = elim (get_before_last xs x k y e) [ inl h ↦ inl h | inr w ↦ inr (ap suc w.0, w.1) ]

pub at_of : {X : Type 0} (xs : List X) (x : X) → In x xs → (j : ℕ) × (slice_get xs j ≡ Some x)
at_of [] x h = absurd h
at_of (y ∷ xs) x (inl e) = (0, ap Some (sym e))
at_of (y ∷ xs) x (inr h) = let r = at_of xs x h in (suc r.0, r.1)

pub of_map : {X Y : Type 0} (f : X → Y) (xs : List X) (y : Y) → In y (map f xs) → (x : X) × In x xs × (y ≡ f x)
of_map f [] y h = absurd h
of_map f (x ∷ xs) y (inl e) = (x, inl refl, e)
of_map f (x ∷ xs) y (inr h) = let r = of_map f xs y h in (r.0, inr r.1, r.2)

pub of_mapped_at : {X Y : Type 0} (f : X → Y) (xs : List X) (j : ℕ) (y : Y) → slice_get (map f xs) j ≡ Some y → (x : X) × (slice_get xs j ≡ Some x) × (f x ≡ y)
of_mapped_at f [] j y e = absurd (cc e)
of_mapped_at f (x ∷ xs) zero y e = (x, refl, cc)
of_mapped_at f (x ∷ xs) (suc j) y e = of_mapped_at f xs j y e

-- in a list of distinct things each is at one index
pub one_place : {X : Type 0} (xs : List X) (x : X) (i j : ℕ) → IsDistinct xs → slice_get xs i ≡ Some x → slice_get xs j ≡ Some x → i ≡ j
one_place [] x i j d e h = absurd (cc e)
one_place (y ∷ xs) x zero zero d e h = refl
one_place {X} (y ∷ xs) x zero (suc j) d e h = let same : y ≡ x = cc in absurd (d.0 (subst (λ (z : X). In z xs) (sym same) (at_in xs j x h)))
one_place {X} (y ∷ xs) x (suc i) zero d e h = let same : y ≡ x = cc in absurd (d.0 (subst (λ (z : X). In z xs) (sym same) (at_in xs i x e)))
one_place (y ∷ xs) x (suc i) (suc j) d e h = ap suc (one_place xs x i j d.1 e h)

-- ---- loops

-- one more element
pub mapped_more : {X Y : Type 0} (f : X → Y) (xs : List X) (i : ℕ) (x : X) → i < length xs → x ≡ get_or xs i x → map f (take (i + 1) xs) ≡ map f (take i xs) ++ f x ∷ []
mapped_more f xs i x lt is =
    ap (map f) (take_more xs i x lt)
    ∙ (map-append f (take i xs) (get_or xs i x ∷ []) ∙ ap (λ y. map f (take i xs) ++ f y ∷ []) (sym is))

-- what is made of some, and then of others, is behind
pub added_both : {X Y T E : Type 0} (f : X → Y) (old mid new : List Y) (xs ys : List X) (r : Result T E) → mid ≡ old ++ map f xs → OnOk r (new ≡ mid ++ map f ys) → OnOk r (new ≡ old ++ map f (xs ++ ys))
added_both f old mid new xs ys (Ok x) one two =
    two ∙ (ap (λ zs. zs ++ map f ys) one ∙ (append_assoc old (map f xs) (map f ys) ∙ ap (λ zs. old ++ zs) (sym (map-append f xs ys))))
added_both f old mid new xs ys (Err x) one two = two

-- ---- what clauses need

pub adds_none : (f : List ℕ → Option ℕ) (ps : List TypeParameter) (before : List Need) (rule : ℕ) → AddsNeeds f ps before before [] rule
adds_none f ps before rule = record {
  kept = λ n h. h;
  all = λ c no. absurd no;
  only = λ n h. inl h;
}

pub adds_more : (f : List ℕ → Option ℕ) (ps : List TypeParameter) (before mid : List Need) (cs : List TypeClause) (c : TypeClause) (rule : ℕ) (n : Need) → AddsNeeds f ps before mid cs rule →
    IsNeedOf f ps c rule n → AddsNeeds f ps before (mid ++ n ∷ []) (cs ++ c ∷ []) rule
adds_more f ps before mid cs c rule n a is = record {
  kept = λ m h. in_left m mid (n ∷ []) (a.kept m h);
  all = λ d h. elim (in_cases d cs (c ∷ []) h) [
    | inl i ↦ let r = a.all d i in (r.0, in_left r.0 mid (n ∷ []) r.1, r.2)
    | inr i ↦ (n, in_right n mid (n ∷ []) (inl refl), subst (λ (x : TypeClause). IsNeedOf f ps x rule n) (sym (in_one d c i)) is)
  ];
  only = λ m h. elim (in_cases m mid (n ∷ []) h) [
    | inl i ↦ a.only m i
    | inr i ↦ inr (c, subst (λ (x : Need). IsNeedOf f ps c rule x) (sym (in_one m n i)) is)
  ];
}

pub needs_none : (f : List ℕ → Option ℕ) (ps : List TypeParameter) → AreNeeds f ps [] []
needs_none f ps = record {
  all = λ k s c here. absurd (cc here);
  only = λ n no. absurd no;
}

own_need : (f : List ℕ → Option ℕ) (ps : List TypeParameter) (c : TypeClause) (rule : ℕ) (n : Need) → IsNeedOf f ps c rule n → IsNeedOf f ps c n.rule n
own_need f ps c rule n is = record { rule_is = refl; numbers_are = is.numbers_are }

-- one more rule
pub needs_more : (f : List ℕ → Option ℕ) (ps : List TypeParameter) (ss : List Seen) (s : Seen) (old new : List Need) (rule : ℕ) → rule ≡ length ss → AreNeeds f ps ss old →
    AddsNeeds f ps old new s.1 rule → AreNeeds f ps (ss ++ s ∷ []) new
needs_more f ps ss s old new rule last a adds = record {
  all = λ k r c here i. elim (get_before_last ss s k r here) [
    | inl h ↦ let w = a.all k r c h i in (w.0, adds.kept w.0 w.1, w.2)
    | inr h ↦
        let at : rule ≡ k = last ∙ sym h.0 in
        let w = adds.all c (subst (λ (q : Seen). In c q.1) (sym h.1) i) in
        (w.0, w.1, subst (λ j. IsNeedOf f ps c j w.0) at w.2)
  ];
  only = λ n h. elim (adds.only n h) [
    | inl i ↦ let w = a.only n i in let low = w.0 in (omega (arith, length-append ss (s ∷ [])), w.1)
    | inr w ↦ let is = w.1.rule_is in (omega (arith, length-append ss (s ∷ [])), (w.0, own_need f ps w.0 rule n w.1))
  ];
}

-- the numbers are those of rules
pub need_fits : (f : List ℕ → Option ℕ) (ps : List TypeParameter) (ss : List Seen) (needs : List Need) → AreRuleNumbers f (names_seen ss) → AreNeeds f ps ss needs → (n : Need) → In n needs → NeedsBelow (length ss) n
need_fits f ps ss needs numbers a n h =
    let w = a.only n h in record {
      rule = w.0;
      numbers = λ q i.
          let m = of_map f (needed_in ps w.1.0) (Some q) (subst (λ os. In (Some q) os) w.1.1.numbers_are i) in
          subst (λ l. q < l) (length-map ss (λ (s : Seen). s.0.name.0)) (slice_get_within (names_seen ss) q m.0 (numbers.right m.0 q (sym m.2)));
    }
