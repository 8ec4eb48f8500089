-- Walks over recursive occurrences.
use Rattle.std.proofs.Common.{◌≡◌, ℕ, zero, suc, ◌+◌, ◌<◌, ◌≤◌, List, [], ◌∷◌, ◌++◌, length, map, take, drop, set, get_or, cond, Bool, true, false, refl, sym, ap, ap₂, ◌∙◌, arith, append_assoc, append-nil}
use Rattle.std.proofs.lemmas.List.{take_more_set, take-set, take_more, take_all, drop_all, drop_more, drop-set, drop-set-lt, map-append}
use Rattle.lalrpop_norm_tree.specs.declared.symbol.Symbol.{Symbol}
use Rattle.lalrpop_norm_tree.specs.Symbols.{Kind, Part, Parts, group, nonterminal, call, repeated, chosen, named, tupled, at, part_and, no_parts, parts_of, symbol_view}
use Rattle.lalrpop_norm_model.specs.Occurrences.{count_part, count_parts}
use Rattle.lalrpop_norm_model.specs.LevelRules.{leveled_kind, leveled_part, leveled_parts}
use Rattle.lalrpop_norm_precedence_steps.specs.declared.occurrences.Direction.TheVariants.{Forward, Backward}
use Rattle.lalrpop_norm_precedence_steps.specs.Substitutions.{Plan, occurrence, met_kind}
use Rattle.lalrpop_norm_precedence.specs.Occurrences.{leveled_in_turn, count_each, once_met}

pub count_one_by_one : (own : List ℕ → Bool) (ps : List Part) → count_parts own (parts_of ps) ≡ count_each own ps
count_one_by_one own [] = refl
count_one_by_one own (p ∷ ps) = ap (λ k. count_part own p + k) (count_one_by_one own ps)

pub leveled_one_by_one : (own : List ℕ → Bool) (name : ℕ → ℕ → Kind) (b a : ℕ) (ps : List Part) →
    leveled_parts own name b a (parts_of ps) ≡ parts_of (leveled_in_turn own name b a ps)
leveled_one_by_one own name b a [] = refl
leveled_one_by_one own name b a (p ∷ ps) =
    rw (count_one_by_one own ps) (ap (λ qs. part_and (leveled_part own name b (a + count_each own ps) p) qs) (leveled_one_by_one own name (b + count_part own p) a ps))

-- f counts from a once_met index than g
abbrev pub Shifts : (ℕ → ℕ → Kind) → (ℕ → ℕ → Kind) → ℕ → ℕ → Type 0
Shifts f g k m = (b a : ℕ) → f b a ≡ g (b + k) (a + m)

mutual
  pub kind_shift : (own : List ℕ → Bool) (f g : ℕ → ℕ → Kind) (k m : ℕ) → Shifts f g k m → (b a c d : ℕ) → c ≡ b + k → d ≡ a + m →
      (s : Kind) → leveled_kind own f b a s ≡ leveled_kind own g c d s
  kind_shift own f g k m h b a c d e e' (nonterminal x) =
      rw (e, e') (ap (λ t. cond (own x) t (nonterminal x)) (h b a))
  kind_shift own f g k m h b a c d e e' (group ps) = ap group (parts_shift own f g k m h b a c d e e' ps)
  kind_shift own f g k m h b a c d e e' (call x ps) = ap (call x) (parts_shift own f g k m h b a c d e e' ps)
  kind_shift own f g k m h b a c d e e' (repeated op p) = ap (repeated op) (part_shift own f g k m h b a c d e e' p)
  kind_shift own f g k m h b a c d e e' (chosen p) = ap chosen (part_shift own f g k m h b a c d e e' p)
  kind_shift own f g k m h b a c d e e' (named x p) = ap (named x) (part_shift own f g k m h b a c d e e' p)
  kind_shift own f g k m h b a c d e e' (tupled x p) = ap (tupled x) (part_shift own f g k m h b a c d e e' p)
  kind_shift own f g k m h b a c d e e' _ = refl

  pub part_shift : (own : List ℕ → Bool) (f g : ℕ → ℕ → Kind) (k m : ℕ) → Shifts f g k m → (b a c d : ℕ) → c ≡ b + k → d ≡ a + m →
      (p : Part) → leveled_part own f b a p ≡ leveled_part own g c d p
  part_shift own f g k m h b a c d e e' (at s x) = ap (at s) (kind_shift own f g k m h b a c d e e' x)

  pub parts_shift : (own : List ℕ → Bool) (f g : ℕ → ℕ → Kind) (k m : ℕ) → Shifts f g k m → (b a c d : ℕ) → c ≡ b + k → d ≡ a + m →
      (ps : Parts) → leveled_parts own f b a ps ≡ leveled_parts own g c d ps
  parts_shift own f g k m h b a c d e e' no_parts = refl
  parts_shift own f g k m h b a c d e e' (part_and p ps) =
      ap₂ part_and (part_shift own f g k m h b (a + count_parts own ps) c (d + count_parts own ps) e (omega arith) p)
      (parts_shift own f g k m h (b + count_part own p) a (c + count_part own p) d (omega arith) e' ps)

pub each_shift : (own : List ℕ → Bool) (f g : ℕ → ℕ → Kind) (k m : ℕ) → Shifts f g k m → (b a c d : ℕ) → c ≡ b + k → d ≡ a + m →
    (ps : List Part) → leveled_in_turn own f b a ps ≡ leveled_in_turn own g c d ps
each_shift own f g k m h b a c d e e' [] = refl
each_shift own f g k m h b a c d e e' (p ∷ ps) =
    ap₂ (λ q qs. q ∷ qs) (part_shift own f g k m h b (a + count_each own ps) c (d + count_each own ps) e (omega arith) p)
    (each_shift own f g k m h (b + count_part own p) a (c + count_part own p) d (omega arith) e' ps)

-- what is left of a plan
occurrence_on : (p : Plan) (s : Bool) (k i : ℕ) → occurrence p (once_met s k) i ≡ occurrence p s (i + k)
occurrence_on p s zero i = let e : i ≡ i + 0 = omega arith in ap (occurrence p s) e
occurrence_on p true (suc k) i = refl
occurrence_on p false (suc k) i = let e : i + suc k ≡ suc (i + k) = omega arith in rw e refl

pub met_both : (s : Bool) (k m : ℕ) → once_met (once_met s k) m ≡ once_met s (k + m)
met_both s zero m = let e : m ≡ 0 + m = omega arith in ap (once_met s) e
met_both s (suc k) zero = let e : suc k ≡ suc k + 0 = omega arith in ap (once_met s) e
met_both s (suc k) (suc m) = let e : suc k + suc m ≡ suc (k + suc m) = omega arith in rw e refl

forward_shift : (p : Plan) (s : Bool) (k m : ℕ) → Shifts (met_kind p Forward (once_met s k)) (met_kind p Forward s) k m
forward_shift p s k m b a = occurrence_on p s k b

backward_shift : (p : Plan) (s : Bool) (k m : ℕ) → Shifts (met_kind p Backward (once_met s m)) (met_kind p Backward s) k m
backward_shift p s k m b a = occurrence_on p s m a

-- one more symbol, forwards
pub forward_first : (own : List ℕ → Bool) (p : Plan) (s : Bool) (x : Part) (xs : List Part) →
    leveled_in_turn own (met_kind p Forward s) 0 0 (x ∷ xs)
    ≡ leveled_part own (met_kind p Forward s) 0 0 x ∷ leveled_in_turn own (met_kind p Forward (once_met s (count_part own x))) 0 0 xs
forward_first own p s x xs =
    ap₂ (λ q qs. q ∷ qs)
    (sym (part_shift own (met_kind p Forward s) (met_kind p Forward s) 0 (count_each own xs) (forward_shift p s 0 (count_each own xs)) 0 0 0 (0 + count_each own xs) (omega arith) (omega arith) x))
    (sym (each_shift own (met_kind p Forward (once_met s (count_part own x))) (met_kind p Forward s) (count_part own x) 0 (forward_shift p s (count_part own x) 0) 0 0 (0 + count_part own x) 0 (omega arith) (omega arith) xs))

-- and backwards
count_last : (own : List ℕ → Bool) (xs : List Part) (x : Part) → count_each own (xs ++ x ∷ []) ≡ count_each own xs + count_part own x
count_last own [] x = let e : count_part own x + 0 ≡ 0 + count_part own x = omega arith in e
count_last own (y ∷ xs) x = rw (count_last own xs x) (omega arith)

each_last : (own : List ℕ → Bool) (f : ℕ → ℕ → Kind) (b a : ℕ) (xs : List Part) (x : Part) →
    leveled_in_turn own f b a (xs ++ x ∷ []) ≡ leveled_in_turn own f b (a + count_part own x) xs ++ leveled_part own f (b + count_each own xs) a x ∷ []
each_last own f b a [] x =
    let e : a + 0 ≡ a = omega arith in let d : b + 0 ≡ b = omega arith in rw (e, d) refl
each_last own f b a (y ∷ xs) x =
    let e : a + (count_each own xs + count_part own x) ≡ (a + count_part own x) + count_each own xs = omega arith in
    let d : (b + count_part own y) + count_each own xs ≡ b + (count_part own y + count_each own xs) = omega arith in
    ap₂ (λ q qs. q ∷ qs) (ap (λ k. leveled_part own f b k y) (ap (λ k. a + k) (count_last own xs x) ∙ e))
    (each_last own f (b + count_part own y) a xs x ∙ ap (λ k. leveled_in_turn own f (b + count_part own y) (a + count_part own x) xs ++ leveled_part own f k a x ∷ []) d)

pub backward_last : (own : List ℕ → Bool) (p : Plan) (s : Bool) (x : Part) (xs : List Part) →
    leveled_in_turn own (met_kind p Backward s) 0 0 (xs ++ x ∷ [])
    ≡ leveled_in_turn own (met_kind p Backward (once_met s (count_part own x))) 0 0 xs ++ leveled_part own (met_kind p Backward s) 0 0 x ∷ []
backward_last own p s x xs =
    each_last own (met_kind p Backward s) 0 0 xs x ∙
    ap₂ (λ qs q. qs ++ q ∷ [])
    (sym (each_shift own (met_kind p Backward (once_met s (count_part own x))) (met_kind p Backward s) 0 (count_part own x) (backward_shift p s 0 (count_part own x)) 0 0 0 (0 + count_part own x) (omega arith) (omega arith) xs))
    (sym (part_shift own (met_kind p Backward s) (met_kind p Backward s) (count_each own xs) 0 (backward_shift p s (count_each own xs) 0) 0 0 (0 + count_each own xs) 0 (omega arith) (omega arith) x))

-- the loops
pub forward_more : (own : List ℕ → Bool) (p : Plan) (s : Bool) (ss : List Symbol) (i : ℕ) (x y : Symbol) → i < length ss → x ≡ get_or ss i x →
    symbol_view y ≡ leveled_part own (met_kind p Forward s) 0 0 (symbol_view x) →
    map symbol_view (take (i + 1) (set ss i y)) ++ leveled_in_turn own (met_kind p Forward (once_met s (count_part own (symbol_view x)))) 0 0 (map symbol_view (drop (i + 1) (set ss i y)))
    ≡ map symbol_view (take i ss) ++ leveled_in_turn own (met_kind p Forward s) 0 0 (map symbol_view (drop i ss))
forward_more own p s ss i x y lt is new =
    let rest = leveled_in_turn own (met_kind p Forward (once_met s (count_part own (symbol_view x)))) 0 0 (map symbol_view (drop (i + 1) ss)) in
    let front : map symbol_view (take (i + 1) (set ss i y)) ≡ map symbol_view (take i ss) ++ symbol_view y ∷ [] =
    ap (map symbol_view) (take_more_set ss i y lt) ∙ map-append symbol_view (take i ss) (y ∷ []) in
    let back : map symbol_view (drop i ss) ≡ symbol_view x ∷ map symbol_view (drop (i + 1) ss) =
    ap (map symbol_view) (drop_more ss i x lt ∙ ap (λ z. z ∷ drop (i + 1) ss) (sym is)) in
    let kept : drop (i + 1) (set ss i y) ≡ drop (i + 1) ss = drop-set-lt (i + 1) ss i y (omega arith) in
    ap₂ (λ f ts. f ++ leveled_in_turn own (met_kind p Forward (once_met s (count_part own (symbol_view x)))) 0 0 (map symbol_view ts)) front kept ∙
    append_assoc (map symbol_view (take i ss)) (symbol_view y ∷ []) rest ∙
    ap (λ q. map symbol_view (take i ss) ++ q ∷ rest) new ∙
    ap (λ qs. map symbol_view (take i ss) ++ qs) (sym (ap (leveled_in_turn own (met_kind p Forward s) 0 0) back ∙ forward_first own p s (symbol_view x) (map symbol_view (drop (i + 1) ss))))

pub forward_left : (own : List ℕ → Bool) (s : Bool) (ss : List Symbol) (i : ℕ) (x y : Symbol) → i < length ss → x ≡ get_or ss i x →
    once_met (once_met s (count_part own (symbol_view x))) (count_each own (map symbol_view (drop (i + 1) (set ss i y)))) ≡ once_met s (count_each own (map symbol_view (drop i ss)))
forward_left own s ss i x y lt is =
    let back : map symbol_view (drop i ss) ≡ symbol_view x ∷ map symbol_view (drop (i + 1) ss) =
    ap (map symbol_view) (drop_more ss i x lt ∙ ap (λ z. z ∷ drop (i + 1) ss) (sym is)) in
    ap (λ ts. once_met (once_met s (count_part own (symbol_view x))) (count_each own (map symbol_view ts))) (drop-set-lt (i + 1) ss i y (omega arith)) ∙
    met_both s (count_part own (symbol_view x)) (count_each own (map symbol_view (drop (i + 1) ss))) ∙ ap (λ ts. once_met s (count_each own ts)) (sym back)

pub backward_more : (own : List ℕ → Bool) (p : Plan) (s : Bool) (ss : List Symbol) (i : ℕ) (x y : Symbol) → i < length ss → x ≡ get_or ss i x →
    symbol_view y ≡ leveled_part own (met_kind p Backward s) 0 0 (symbol_view x) →
    leveled_in_turn own (met_kind p Backward (once_met s (count_part own (symbol_view x)))) 0 0 (map symbol_view (take i (set ss i y))) ++ map symbol_view (drop i (set ss i y))
    ≡ leveled_in_turn own (met_kind p Backward s) 0 0 (map symbol_view (take (i + 1) ss)) ++ map symbol_view (drop (i + 1) ss)
backward_more own p s ss i x y lt is new =
    let front : map symbol_view (take (i + 1) ss) ≡ map symbol_view (take i ss) ++ symbol_view x ∷ [] =
    ap (map symbol_view) (take_more ss i x lt ∙ ap (λ z. take i ss ++ z ∷ []) (sym is)) ∙ map-append symbol_view (take i ss) (x ∷ []) in
    let done = leveled_in_turn own (met_kind p Backward (once_met s (count_part own (symbol_view x)))) 0 0 (map symbol_view (take i ss)) in
    ap₂ (λ ts us. leveled_in_turn own (met_kind p Backward (once_met s (count_part own (symbol_view x)))) 0 0 (map symbol_view ts) ++ map symbol_view us) (take-set ss i y) (drop-set ss i y lt) ∙
    ap (λ q. done ++ q ∷ map symbol_view (drop (i + 1) ss)) new ∙
    sym (append_assoc done (leveled_part own (met_kind p Backward s) 0 0 (symbol_view x) ∷ []) (map symbol_view (drop (i + 1) ss))) ∙
    ap (λ qs. qs ++ map symbol_view (drop (i + 1) ss)) (sym (ap (leveled_in_turn own (met_kind p Backward s) 0 0) front ∙ backward_last own p s (symbol_view x) (map symbol_view (take i ss))))

pub backward_left : (own : List ℕ → Bool) (s : Bool) (ss : List Symbol) (i : ℕ) (x y : Symbol) → i < length ss → x ≡ get_or ss i x →
    once_met (once_met s (count_part own (symbol_view x))) (count_each own (map symbol_view (take i (set ss i y)))) ≡ once_met s (count_each own (map symbol_view (take (i + 1) ss)))
backward_left own s ss i x y lt is =
    let front : map symbol_view (take (i + 1) ss) ≡ map symbol_view (take i ss) ++ symbol_view x ∷ [] =
    ap (map symbol_view) (take_more ss i x lt ∙ ap (λ z. take i ss ++ z ∷ []) (sym is)) ∙ map-append symbol_view (take i ss) (x ∷ []) in
    let swap : count_part own (symbol_view x) + count_each own (map symbol_view (take i ss)) ≡ count_each own (map symbol_view (take i ss)) + count_part own (symbol_view x) = omega arith in
    ap (λ ts. once_met (once_met s (count_part own (symbol_view x))) (count_each own (map symbol_view ts))) (take-set ss i y) ∙
    met_both s (count_part own (symbol_view x)) (count_each own (map symbol_view (take i ss))) ∙
    ap (once_met s) (swap ∙ sym (ap (count_each own) front ∙ count_last own (map symbol_view (take i ss)) (symbol_view x)))

pub forward_value : (own : List ℕ → Bool) (p : Plan) (s t : Bool) (ss : List Symbol) (i : ℕ) (x y : Symbol) → i < length ss → x ≡ get_or ss i x →
    symbol_view y ≡ leveled_part own (met_kind p Forward s) 0 0 (symbol_view x) → t ≡ once_met s (count_part own (symbol_view x)) →
    map symbol_view (take (i + 1) (set ss i y)) ++ leveled_in_turn own (met_kind p Forward t) 0 0 (map symbol_view (drop (i + 1) (set ss i y)))
    ≡ map symbol_view (take i ss) ++ leveled_in_turn own (met_kind p Forward s) 0 0 (map symbol_view (drop i ss))
forward_value own p s t ss i x y lt is new e = rw e (forward_more own p s ss i x y lt is new)

pub forward_plan : (own : List ℕ → Bool) (s t : Bool) (ss : List Symbol) (i : ℕ) (x y : Symbol) → i < length ss → x ≡ get_or ss i x → t ≡ once_met s (count_part own (symbol_view x)) →
    once_met t (count_each own (map symbol_view (drop (i + 1) (set ss i y)))) ≡ once_met s (count_each own (map symbol_view (drop i ss)))
forward_plan own s t ss i x y lt is e = rw e (forward_left own s ss i x y lt is)

pub backward_value : (own : List ℕ → Bool) (p : Plan) (s t : Bool) (ss : List Symbol) (i k : ℕ) (x y : Symbol) → i < length ss → k ≡ i + 1 → x ≡ get_or ss i x →
    symbol_view y ≡ leveled_part own (met_kind p Backward s) 0 0 (symbol_view x) → t ≡ once_met s (count_part own (symbol_view x)) →
    leveled_in_turn own (met_kind p Backward t) 0 0 (map symbol_view (take i (set ss i y))) ++ map symbol_view (drop i (set ss i y))
    ≡ leveled_in_turn own (met_kind p Backward s) 0 0 (map symbol_view (take k ss)) ++ map symbol_view (drop k ss)
backward_value own p s t ss i k x y lt on is new e = rw (e, on) (backward_more own p s ss i x y lt is new)

pub backward_plan : (own : List ℕ → Bool) (s t : Bool) (ss : List Symbol) (i k : ℕ) (x y : Symbol) → i < length ss → k ≡ i + 1 → x ≡ get_or ss i x → t ≡ once_met s (count_part own (symbol_view x)) →
    once_met t (count_each own (map symbol_view (take i (set ss i y)))) ≡ once_met s (count_each own (map symbol_view (take k ss)))
backward_plan own s t ss i k x y lt on is e = rw (e, on) (backward_left own s ss i x y lt is)

pub forward_end : (own : List ℕ → Bool) (f : ℕ → ℕ → Kind) (ss : List Symbol) (i : ℕ) → length ss ≤ i →
    map symbol_view (take i ss) ++ leveled_in_turn own f 0 0 (map symbol_view (drop i ss)) ≡ map symbol_view ss
forward_end own f ss i le = rw (take_all i ss le, drop_all i ss le) (append-nil _)

pub backward_end : (own : List ℕ → Bool) (f : ℕ → ℕ → Kind) (ss : List Symbol) (i : ℕ) → i ≡ 0 →
    leveled_in_turn own f 0 0 (map symbol_view (take i ss)) ++ map symbol_view (drop i ss) ≡ map symbol_view ss
backward_end own f ss i e = rw e refl

pub planned_parts : (own : List ℕ → Bool) (f : ℕ → ℕ → Kind) (ss ts : List Part) → ss ≡ leveled_in_turn own f 0 0 ts → parts_of ss ≡ leveled_parts own f 0 0 (parts_of ts)
planned_parts own f ss ts e = ap parts_of e ∙ sym (leveled_one_by_one own f 0 0 ts)

pub forward_none : (own : List ℕ → Bool) (s : Bool) (ss : List Symbol) (i : ℕ) → length ss ≤ i → once_met s (count_each own (map symbol_view (drop i ss))) ≡ s
forward_none own s ss i le = rw (drop_all i ss le) refl

pub backward_none : (own : List ℕ → Bool) (s : Bool) (ss : List Symbol) (i : ℕ) → i ≡ 0 → once_met s (count_each own (map symbol_view (take i ss))) ≡ s
backward_none own s ss i e = rw e refl
