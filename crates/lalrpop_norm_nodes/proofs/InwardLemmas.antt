-- Where a symbol was reached, what is inside each one that is the same was reached as well, so that meeting it changes nothing.
use Rattle.std.proofs.Common.{◌≡◌, ℕ, List, [], ◌∷◌, ◌++◌, Bool, true, false, cond, Option, Some, None, bytes_eq, refl, sym, ap, ◌∙◌}
use Rattle.std.specs.Prelude.{not, ◌||◌, ◌&&◌, is_some}
use Rattle.std.proofs.lemmas.Bool.{and_parts, and_from}
use Rattle.lalrpop_norm_tree.specs.Symbols.{Part}
use Rattle.lalrpop_norm_tree.specs.SymbolTexts.{part_text}
use Rattle.lalrpop_norm_faults.specs.declared.kind.FaultKind.TheVariants.{SharedName}
use Rattle.lalrpop_norm_faults.specs.Faults.{fault_if}
use Rattle.lalrpop_norm_theory.specs.Symbols.{ClosedSymbol}
use Rattle.lalrpop_norm_theory.specs.Same.{same_symbol}
use Rattle.lalrpop_norm_model.specs.PlainRules.{same_apart_from_spans}
use Rattle.lalrpop_norm_model.specs.MadeRules.{span_of}
use Rattle.lalrpop_norm_nodes.specs.Meeting.{first_with_text, joined_by, after_one, after, differs, clashes, clash_faults, was_met, were_met}
use Rattle.lalrpop_norm_model.specs.PlainTables.{closed}
use Rattle.lalrpop_norm_nodes.proofs.SamenessLemmas.{closed_same, closed_text_same, none_if, or_false}
use Rattle.lalrpop_norm_nodes.proofs.FirstLemmas.{first_at}
use Rattle.lalrpop_norm_theory.proofs.BoolLemmas.{false_of_not, both_false}

-- ---- the first symbol of a text

first_stays : (t : List ℕ) (seen more : List Part) (y : Part) → first_with_text t seen ≡ Some y → first_with_text t (seen ++ more) ≡ Some y
first_stays t [] more y e = absurd (cc e)
first_stays t (x ∷ seen) more y e = by (bytes_eq (part_text x) t) (first_stays t seen more y) e
  where
    by : (b : Bool) → (first_with_text t seen ≡ Some y → first_with_text t (seen ++ more) ≡ Some y)
        → cond b (Some x) (first_with_text t seen) ≡ Some y → cond b (Some x) (first_with_text t (seen ++ more)) ≡ Some y
    by true deeper h = h
    by false deeper h = deeper h

module _ (names : List ℕ → Bool) where
  -- a symbol that was reached: which one of its text was reached first
  pub record Found (seen : List Part) (x : Part) : Type 0 where
    pub one : Part
    pub is_first : first_with_text (part_text x) seen ≡ Some one
    pub free : (names (part_text x) || not (same_apart_from_spans one x)) ≡ false

  found_by : (seen : List Part) (x : Part) (o : Option Part) → first_with_text (part_text x) seen ≡ o →
      (is_some o && not (names (part_text x) || differs o x)) ≡ true → Found seen x
  found_by seen x None e h = absurd (cc h)
  found_by seen x (Some y) e h = record { one = y; is_first = e; free = false_of_not (names (part_text x) || not (same_apart_from_spans y x)) h }

  found : (seen : List Part) (x : Part) → was_met names seen x ≡ true → Found seen x
  found seen x h = found_by seen x (first_with_text (part_text x) seen) refl h

  pub met_by : (seen : List Part) (x : Part) → Found seen x → was_met names seen x ≡ true
  met_by seen x f =
      ap (λ (o : Option Part). is_some o && not (names (part_text x) || differs o x)) f.is_first ∙ ap not f.free

  clash_of : (seen : List Part) (x : Part) → Found seen x → clashes names seen x ≡ false
  clash_of seen x f = ap (λ (o : Option Part). names (part_text x) || differs o x) f.is_first ∙ f.free

  -- ---- what was reached stays reached

  stays : (seen more : List Part) (x : Part) → was_met names seen x ≡ true → was_met names (seen ++ more) x ≡ true
  stays seen more x h =
      let f = found seen x h in
      met_by (seen ++ more) x (record { one = f.one; is_first = first_stays (part_text x) seen more f.one f.is_first; free = f.free })

  pub all_stay : (seen more xs : List Part) → were_met names seen xs ≡ true → were_met names (seen ++ more) xs ≡ true
  all_stay seen more [] h = refl
  all_stay seen more (x ∷ xs) h =
      let p = and_parts _ _ h in
      and_from _ _ (stays seen more x p.0) (all_stay seen more xs p.1)

  stays_one : (seen : List Part) (x z : Part) → was_met names seen z ≡ true → was_met names (after_one seen x) z ≡ true
  stays_one seen x z h = by (first_with_text (part_text x) seen)
    where
      by : (o : Option Part) → was_met names (joined_by o seen x) z ≡ true
      by None = stays seen (x ∷ []) z h
      by (Some y) = h

  pub stays_after : (seen xs : List Part) (z : Part) → was_met names seen z ≡ true → was_met names (after seen xs) z ≡ true
  stays_after seen [] z h = h
  stays_after seen (x ∷ xs) z h = stays_after (after_one seen x) xs z (stays_one seen x z h)

  -- ---- what is reached was reached then

  met_once : (seen : List Part) (x : Part) → clashes names seen x ≡ false → was_met names (after_one seen x) x ≡ true
  met_once seen x h = by (first_with_text (part_text x) seen) refl
    where
      by : (o : Option Part) → first_with_text (part_text x) seen ≡ o → was_met names (joined_by o seen x) x ≡ true
      by None e =
          let f = or_false (names (part_text x)) (differs (first_with_text (part_text x) seen) x) h in
          let same : same_apart_from_spans x x ≡ true = closed_same x x refl in
          met_by (seen ++ x ∷ []) x (record {
            one = x;
            is_first = first_at seen x e;
            free = both_false (names (part_text x)) (not (same_apart_from_spans x x)) f.0 (ap not same);
          })
      by (Some y) e =
          met_by seen x (record { one = y; is_first = e; free = sym (ap (λ (o : Option Part). names (part_text x) || differs o x) e) ∙ h })

  pub met_then : (seen xs : List Part) → clash_faults names seen xs ≡ [] → were_met names (after seen xs) xs ≡ true
  met_then seen [] h = refl
  met_then seen (x ∷ xs) h =
      let p = none_if (clashes names seen x) (SharedName, span_of x) (clash_faults names (after_one seen x) xs) h in
      and_from _ _ (stays_after (after_one seen x) xs x (met_once seen x p.0)) (met_then (after_one seen x) xs p.1)

  -- ---- meeting what was reached changes nothing

  pub quiet : (seen xs : List Part) → were_met names seen xs ≡ true → (clash_faults names seen xs ≡ []) × (after seen xs ≡ seen)
  quiet seen [] h = (refl, refl)
  quiet seen (x ∷ xs) h =
      let p = and_parts _ _ h in
      let f = found seen x p.0 in
      let one : after_one seen x ≡ seen = ap (λ (o : Option Part). joined_by o seen x) f.is_first in
      let rest = quiet seen xs p.1 in (
        (ap (λ b. fault_if b (SharedName, span_of x) ++ clash_faults names (after_one seen x) xs) (clash_of seen x f)
            ∙ ap (λ (s : List Part). clash_faults names s xs) one ∙ rest.0),
        (ap (λ (s : List Part). after s xs) one ∙ rest.1),
      )

  pub were_both : (seen xs ys : List Part) → were_met names seen xs ≡ true → were_met names seen ys ≡ true → were_met names seen (xs ++ ys) ≡ true
  were_both seen [] ys h k = k
  were_both seen (x ∷ xs) ys h k =
      let p = and_parts _ _ h in
      and_from _ _ p.0 (were_both seen xs ys p.1 k)

  -- ---- symbols that are the same

  pub same_met : (seen : List Part) (x y : Part) → closed x ≡ closed y → was_met names seen x ≡ true → was_met names seen y ≡ true
  same_met seen x y e h =
      let f = found seen x h in
      let texts : part_text x ≡ part_text y = closed_text_same x y e in
      met_by seen y (record {
        one = f.one;
        is_first = ap (λ t. first_with_text t seen) (sym texts) ∙ f.is_first;
        free = ap (λ t. names t || not (same_apart_from_spans f.one y)) (sym texts)
            ∙ ap (λ (g : ClosedSymbol). names (part_text x) || not (same_symbol (closed f.one) g)) (sym e) ∙ f.free;
      })
