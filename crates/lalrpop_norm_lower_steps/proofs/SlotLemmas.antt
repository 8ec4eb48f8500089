-- Action code cut at its `<>`, and with these replaced.
use Rattle.std.proofs.Common.{◌≡◌, ◌∙◌, ℕ, suc, ◌+◌, Bool, true, false, cond, ◌||◌, ◌&&◌, List, [], ◌∷◌, ◌++◌, length, map, drop, ◌<◌, ◌≤◌, Option, Some, None, refl, sym, ap, subst, codes, option_map, arith, length-append, append-nil}
use Rattle.std.specs.Prelude.{flat_map, zip, replicate, nat_eq, nat_le}
use Rattle.std.specs.List.{starts_with, AllByRecursion}
use Rattle.std.specs.Cmp.{nat_eq_equiv}
use Rattle.std.proofs.lemmas.List.{append_assoc}
use Rattle.std.proofs.lemmas.List.Elements.{All-from_recursion}
use Rattle.lalrpop_norm_tree_names.specs.Texts.{joined}
use Rattle.lalrpop_norm_common.specs.Braces.{is_slot, around_slot}
use Rattle.lalrpop_norm_model.specs.LoweringFaults.{slots}
use Rattle.lalrpop_norm_lower_steps.specs.Filled.{in_slots, IsFilled}
use Rattle.lalrpop_norm_lower_steps.specs.Slots.{Cut, cut_with, cut, pieces, in_order, filled_code}
use Rattle.lalrpop_norm_lower_steps.proofs.CodeLemmas.{first_slot, slot_front, not_in_front}
use Rattle.lalrpop_norm_theory.proofs.BoolLemmas.{and_false, or_true}

-- ---- slots

and_true : (a : Bool) → (a && true) ≡ a
and_true true = refl
and_true false = refl

slot_is : (s : List ℕ) → is_slot s ≡ starts_with nat_eq s (codes "<>")
slot_is [] = refl
slot_is (a ∷ []) = sym (and_false (nat_eq 60 a))
slot_is (a ∷ b ∷ rest) =
    ap (λ t. t && nat_eq b 62) (nat_eq_equiv.symm a 60) ∙ ap (λ t. nat_eq 60 a && t) (nat_eq_equiv.symm b 62 ∙ sym (and_true (nat_eq 62 b)))

cut_count : (b : Bool) (c : ℕ) (r : Cut) (n : ℕ) → length r.1 ≡ n → length (cut_with b c r).1 ≡ cond b (suc n) n
cut_count true c r n h = ap suc h
cut_count false c r n h = h

-- there are as many pieces behind the first as there are slots
pub counted : (s : List ℕ) → length (cut s).1 ≡ slots s
counted [] = refl
counted (c ∷ cs) = cut_count (is_slot (c ∷ cs)) c (cut cs) (slots cs) (counted cs) ∙ ap (λ b. cond b (suc (slots cs)) (slots cs)) (slot_is (c ∷ cs))

-- ---- a slot in front

not_slot : (rest : List ℕ) → is_slot (62 ∷ rest) ≡ false
not_slot [] = refl
not_slot (x ∷ rest) = refl

behind_slot : (c : ℕ) (cs : List ℕ) → is_slot (c ∷ cs) ≡ true → cs ≡ 62 ∷ drop 1 cs
behind_slot c cs is = ap (drop 1) (slot_front (c ∷ cs) is)

first_char : (c : ℕ) (cs : List ℕ) → is_slot (c ∷ cs) ≡ true → c ∷ cs ≡ 60 ∷ cs
first_char c cs is = slot_front (c ∷ cs) is ∙ ap (λ (xs : List ℕ). 60 ∷ xs) (sym (behind_slot c cs is))

cut_behind : (cs : List ℕ) → cs ≡ 62 ∷ drop 1 cs → cut cs ≡ (62 ∷ (cut (drop 1 cs)).0, (cut (drop 1 cs)).1)
cut_behind cs is = ap cut is ∙ ap (λ b. cut_with b 62 (cut (drop 1 cs))) (not_slot (drop 1 cs))

cut_slot : (c : ℕ) (cs : List ℕ) → is_slot (c ∷ cs) ≡ true → cut (c ∷ cs) ≡ ([], pieces (drop 1 cs))
cut_slot c cs is =
    ap (λ b. cut_with b c (cut cs)) is
    ∙ ap (λ (r : Cut). let made : Cut = ([], drop 1 r.0 ∷ r.1) in made) (cut_behind cs (behind_slot c cs is))

cut_char : (c : ℕ) (cs : List ℕ) → is_slot (c ∷ cs) ≡ false → cut (c ∷ cs) ≡ (c ∷ (cut cs).0, (cut cs).1)
cut_char c cs is = ap (λ b. cut_with b c (cut cs)) is

-- ---- the first slot

abbrev pub IsCutBy : List ℕ → Option (List ℕ × List ℕ) → Type 0
IsCutBy s None = cut s ≡ (s, [])
IsCutBy s (Some p) = cut s ≡ (p.0, pieces p.1)

pub cut_by : (s : List ℕ) → IsCutBy s (around_slot s)
cut_by [] = refl
cut_by (c ∷ cs) = by (is_slot (c ∷ cs)) refl (around_slot cs) (cut_by cs)
  where
    by : (b : Bool) → is_slot (c ∷ cs) ≡ b → (o : Option (List ℕ × List ℕ)) → IsCutBy cs o → IsCutBy (c ∷ cs) (cond b (Some ([], drop 1 cs)) (option_map (λ p. (c ∷ p.0, p.1)) o))
    by true is o deeper = cut_slot c cs is
    by false is None deeper = cut_char c cs is ∙ ap (λ (r : Cut). let made : Cut = (c ∷ r.0, r.1) in made) deeper
    by false is (Some p) deeper = cut_char c cs is ∙ ap (λ (r : Cut). let made : Cut = (c ∷ r.0, r.1) in made) deeper

-- ---- the pieces are those of the code

abbrev behind : List (List ℕ) → List ℕ
behind ps = flat_map (λ u. codes "<>" ++ u) ps

head_kept : (cs : List ℕ) → cs ≡ 62 ∷ drop 1 cs → (cut cs).0 ≡ 62 ∷ drop 1 (cut cs).0
head_kept cs is =
    let e = cut_behind cs is in
    ap (λ (r : Cut). r.0) e ∙ ap (λ (r : Cut). 62 ∷ drop 1 r.0) (sym e)

whole : (s : List ℕ) → joined (codes "<>") (pieces s) ≡ s
whole [] = refl
whole (c ∷ cs) = by (is_slot (c ∷ cs)) refl (whole cs)
  where
    by : (b : Bool) → is_slot (c ∷ cs) ≡ b → (cut cs).0 ++ behind (cut cs).1 ≡ cs → (cut_with b c (cut cs)).0 ++ behind (cut_with b c (cut cs)).1 ≡ c ∷ cs
    by true is deeper =
        ap (λ (h : List ℕ). 60 ∷ (h ++ behind (cut cs).1)) (sym (head_kept cs (behind_slot c cs is)))
        ∙ ap (λ (xs : List ℕ). 60 ∷ xs) deeper ∙ sym (first_char c cs is)
    by false is deeper = ap (λ (xs : List ℕ). c ∷ xs) deeper

abbrev Slotless : List ℕ → Type 0
Slotless p = around_slot p ≡ None

none_inside : {A B : Type 0} (f : A → B) (o : Option A) → option_map f o ≡ None → o ≡ None
none_inside f None h = refl
none_inside f (Some x) h = cc

slotless_behind : (q : List ℕ) → around_slot (62 ∷ q) ≡ None → around_slot q ≡ None
slotless_behind q h =
    none_inside (λ (p : List ℕ × List ℕ). let more : List ℕ × List ℕ = (62 ∷ p.0, p.1) in more) (around_slot q)
    (sym (ap (λ b. cond b (Some ([], drop 1 q)) (option_map (λ (p : List ℕ × List ℕ). let more : List ℕ × List ℕ = (62 ∷ p.0, p.1) in more) (around_slot q))) (not_slot q)) ∙ h)

slotless : (s : List ℕ) → AllByRecursion Slotless (pieces s)
slotless [] = (refl, tt)
slotless (c ∷ cs) = by (is_slot (c ∷ cs)) refl (slotless cs)
  where
    by : (b : Bool) → is_slot (c ∷ cs) ≡ b → AllByRecursion Slotless (pieces cs) → AllByRecursion Slotless ((cut_with b c (cut cs)).0 ∷ (cut_with b c (cut cs)).1)
    by true is deeper = (refl, (slotless_behind (drop 1 (cut cs).0) (ap around_slot (sym (head_kept cs (behind_slot c cs is))) ∙ deeper.0), deeper.1))
    by false is deeper =
        let apart : is_slot (c ∷ (cut cs).0) ≡ false = not_in_front c (cut cs).0 (behind (cut cs).1) (ap (λ (xs : List ℕ). is_slot (c ∷ xs)) (whole cs) ∙ is) in
        (rw (apart, deeper.0) refl, deeper.1)

-- ---- replaced

alike : (x : List ℕ) (os : List (List ℕ)) → flat_map (λ u. x ++ u) os ≡ flat_map (λ e. e.0 ++ e.1) (zip (replicate (length os) x) os)
alike x [] = refl
alike x (o ∷ os) = ap (λ (xs : List ℕ). x ++ o ++ xs) (alike x os)

-- where there are names enough, the `<>` of the action code are replaced
pub is_filled : (is_named : Bool) (ns : List (List ℕ)) (code : List ℕ) → length (in_slots is_named ns (slots code)) ≡ slots code → IsFilled is_named ns code (filled_code is_named ns code)
is_filled is_named ns code enough = record {
  first = (cut code).0;
  others = (cut code).1;
  pieces = record { whole = whole code; slotless = All-from_recursion Slotless (pieces code) (slotless code) };
  enough = ap (λ n. length (in_slots is_named ns n)) (counted code) ∙ enough ∙ sym (counted code);
  is = by (is_named || nat_le (slots code) 1) refl;
}
  where
    by : (b : Bool) → (is_named || nat_le (slots code) 1) ≡ b
        → cond b (joined (joined (codes ", ") ns) (pieces code)) (in_order ns (pieces code)) ≡ (cut code).0 ++ flat_map (λ e. e.0 ++ e.1) (zip (in_slots is_named ns (length (cut code).1)) (cut code).1)
    by true is =
        ap (λ (xs : List ℕ). (cut code).0 ++ xs)
        (alike (joined (codes ", ") ns) (cut code).1
        ∙ ap (λ b. flat_map (λ (e : List ℕ × List ℕ). e.0 ++ e.1) (zip (cond b (replicate (length (cut code).1) (joined (codes ", ") ns)) ns) (cut code).1))
        (sym (ap (λ n. is_named || nat_le n 1) (counted code) ∙ is)))
    by false is =
        ap (λ b. (cut code).0 ++ flat_map (λ (e : List ℕ × List ℕ). e.0 ++ e.1) (zip (cond b (replicate (length (cut code).1) (joined (codes ", ") ns)) ns) (cut code).1))
        (sym (ap (λ n. is_named || nat_le n 1) (counted code) ∙ is))

-- ---- piece by piece

pub next_piece : (s : List ℕ) (p : List ℕ × List ℕ) → around_slot s ≡ Some p → pieces s ≡ p.0 ∷ pieces p.1
next_piece s p h =
    let made : IsCutBy s (Some p) = subst (IsCutBy s) h (cut_by s) in
    ap (λ (r : Cut). r.0 ∷ r.1) made

pub last_piece : (s : List ℕ) → around_slot s ≡ None → pieces s ≡ s ∷ []
last_piece s h =
    let made : IsCutBy s None = subst (IsCutBy s) h (cut_by s) in
    ap (λ (r : Cut). r.0 ∷ r.1) made

pub shorter : (s : List ℕ) (p : List ℕ × List ℕ) → around_slot s ≡ Some p → length p.1 < length s
shorter s p h =
    let is : s ≡ p.0 ++ (codes "<>" ++ p.1) = (first_slot s p h).0 in
    let long : length s ≡ length p.0 + (2 + length p.1) = ap length is ∙ length-append p.0 (codes "<>" ++ p.1) ∙ ap (λ n. length p.0 + n) (length-append (codes "<>") p.1) in
    omega (arith, long)

-- ---- piece by piece: how many slots, and what replaces them

pub one_more_slot : (s : List ℕ) (p : List ℕ × List ℕ) → around_slot s ≡ Some p → slots s ≡ suc (slots p.1)
one_more_slot s p h = sym (counted s) ∙ ap (λ ps. length (drop 1 ps)) (next_piece s p h) ∙ ap suc (counted p.1)

pub no_slot : (s : List ℕ) → around_slot s ≡ None → slots s ≡ 0
no_slot s h = sym (counted s) ∙ ap (λ ps. length (drop 1 ps)) (last_piece s h)

pub few_slots : (s : List ℕ) → slots s ≤ length s
few_slots [] = omega (arith)
few_slots (c ∷ cs) = at_most (starts_with nat_eq (c ∷ cs) (codes "<>")) (slots cs) (length cs) (few_slots cs)
  where
    at_most : (b : Bool) (n m : ℕ) → n ≤ m → cond b (suc n) n ≤ suc m
    at_most true n m le = omega (arith, le)
    at_most false n m le = omega (arith, le)

-- all names in each slot

pub alike_turn : (all old mid new whole s : List ℕ) (p : List ℕ × List ℕ) → around_slot s ≡ Some p → mid ≡ old ++ p.0 → new ≡ mid ++ all → old ++ joined all (pieces s) ≡ whole → new ++ joined all (pieces p.1) ≡ whole
alike_turn all old mid new whole s p h before names so_far =
    let rest = joined all (pieces p.1) in
    let here : joined all (pieces s) ≡ p.0 ++ (all ++ rest) = ap (joined all) (next_piece s p h) ∙ ap (λ xs. p.0 ++ xs) (append_assoc all (cut p.1).0 (flat_map (λ u. all ++ u) (cut p.1).1)) in
    ap (λ t. t ++ rest) (names ∙ ap (λ t. t ++ all) before)
    ∙ append_assoc (old ++ p.0) all rest ∙ append_assoc old p.0 (all ++ rest)
    ∙ ap (λ xs. old ++ xs) (sym here) ∙ so_far

pub alike_end : (all old new whole s : List ℕ) → around_slot s ≡ None → new ≡ old ++ s → old ++ joined all (pieces s) ≡ whole → new ≡ whole
alike_end all old new whole s h last so_far =
    last ∙ ap (λ xs. old ++ xs) (sym (ap (joined all) (last_piece s h) ∙ append-nil s)) ∙ so_far

-- one name in each

pub in_order_turn : (old mid new whole s n : List ℕ) (ns ms : List (List ℕ)) (p : List ℕ × List ℕ) → around_slot s ≡ Some p → ns ≡ n ∷ ms → mid ≡ old ++ p.0 → new ≡ mid ++ n → old ++ in_order ns (pieces s) ≡ whole → new ++ in_order ms (pieces p.1) ≡ whole
in_order_turn old mid new whole s n ns ms p h is before name so_far =
    let rest = in_order ms (pieces p.1) in
    let here : in_order ns (pieces s) ≡ p.0 ++ (n ++ rest) =
    ap (λ xs. in_order xs (pieces s)) is ∙ ap (in_order (n ∷ ms)) (next_piece s p h)
    ∙ ap (λ xs. p.0 ++ xs) (append_assoc n (cut p.1).0 (flat_map (λ e. e.0 ++ e.1) (zip ms (cut p.1).1))) in
    ap (λ t. t ++ rest) (name ∙ ap (λ t. t ++ n) before)
    ∙ append_assoc (old ++ p.0) n rest ∙ append_assoc old p.0 (n ++ rest)
    ∙ ap (λ xs. old ++ xs) (sym here) ∙ so_far

pub in_order_end : (old new whole s : List ℕ) (ns : List (List ℕ)) → around_slot s ≡ None → new ≡ old ++ s → old ++ in_order ns (pieces s) ≡ whole → new ≡ whole
in_order_end old new whole s ns h last so_far =
    last ∙ ap (λ xs. old ++ xs) (sym (ap (in_order ns) (last_piece s h) ∙ ap (λ es. s ++ flat_map (λ e. e.0 ++ e.1) es) (none_left ns) ∙ append-nil s)) ∙ so_far
  where
    none_left : (ns : List (List ℕ)) → zip ns (let none : List (List ℕ) = [] in none) ≡ []
    none_left [] = refl
    none_left (n ∷ ns) = refl

-- ---- which of both

module _ (b : Bool) (ns : List (List ℕ)) (code : List ℕ) where
  pub alike_filled : (b || nat_le (slots code) 1) ≡ true → joined (joined (codes ", ") ns) (pieces code) ≡ filled_code b ns code
  alike_filled h = ap (λ t. cond t (joined (joined (codes ", ") ns) (pieces code)) (in_order ns (pieces code))) (sym h)

  pub in_order_filled : (b || nat_le (slots code) 1) ≡ false → in_order ns (pieces code) ≡ filled_code b ns code
  in_order_filled h = ap (λ t. cond t (joined (joined (codes ", ") ns) (pieces code)) (in_order ns (pieces code))) (sym h)

  pub names_enough : (b || nat_le (slots code) 1) ≡ false → length (in_slots b ns (slots code)) ≡ slots code → length ns ≡ slots code
  names_enough h enough = ap (λ t. length (cond t (replicate (slots code) (joined (codes ", ") ns)) ns)) (sym h) ∙ enough

  -- fewer than two names fill no two slots one by one
  pub few_names : length (in_slots b ns (slots code)) ≡ slots code → length ns < 2 → (b || nat_le (slots code) 1) ≡ true
  few_names enough few = by b refl (nat_le (slots code) 1) refl
    where
      by : (named : Bool) → b ≡ named → (one : Bool) → nat_le (slots code) 1 ≡ one → (b || nat_le (slots code) 1) ≡ true
      by true is one least = ap (λ t. t || nat_le (slots code) 1) is
      by false is true least = ap (λ t. b || t) least ∙ or_true b
      by false is false least =
          let long : length ns ≡ slots code = names_enough (ap (λ t. b || t) least ∙ ap (λ t. t || false) is) enough in
          grind arith

-- where there is no slot the code stays as it is
pub unfilled : (b : Bool) (ns : List (List ℕ)) (code : List ℕ) → around_slot code ≡ None → filled_code b ns code ≡ code
unfilled b ns code none =
    let alike : (b || nat_le (slots code) 1) ≡ true = ap (λ n. b || nat_le n 1) (no_slot code none) ∙ or_true b in
    sym (alike_filled b ns code alike) ∙ ap (joined (joined (codes ", ") ns)) (last_piece code none) ∙ append-nil code
