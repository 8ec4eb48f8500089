-- What the code reaches first by its text is what is new by sameness, and its faults begin as those of the definition.
use Rattle.std.proofs.Common.{◌≡◌, inl, inr, ℕ, List, [], ◌∷◌, ◌++◌, Bool, true, false, cond, Option, Some, None, bytes_eq, refl, sym, ap, ap₂, ◌∙◌, append-nil, append_assoc}
use Rattle.std.specs.Prelude.{not, ◌||◌, ◌&&◌, is_some, if◌then◌else◌}
use Rattle.lalrpop_norm_tree.specs.Symbols.{Part}
use Rattle.lalrpop_norm_tree.specs.SymbolTexts.{part_text}
use Rattle.lalrpop_norm_faults.specs.declared.kind.FaultKind.TheVariants.{SharedName}
use Rattle.lalrpop_norm_faults.specs.Faults.{Fault, first, fault_if}
use Rattle.lalrpop_norm_theory.specs.Same.{same_symbol}
use Rattle.lalrpop_norm_theory.specs.Rounds.{is_in, fresh_of}
use Rattle.lalrpop_norm_theory.proofs.RoundsLemmas.{fresh_append}
use Rattle.lalrpop_norm_model.specs.MadeRules.{span_of}
use Rattle.lalrpop_norm_model.specs.PlainRules.{same_apart_from_spans}
use Rattle.lalrpop_norm_macro_expand_rules.specs.Names.{is_declared_name}
use Rattle.lalrpop_norm_macro_expand.specs.Expansion.{has_other, shared_names}
use Rattle.lalrpop_norm_nodes.proofs.SamenessLemmas.{same_closed, closed_same, closed_text_same, is_text, false_where, or_false, none_if}
use Rattle.lalrpop_norm_nodes.proofs.FirstLemmas.{first_more, first_at, text_cases}
use Rattle.lalrpop_norm_nodes.specs.Meeting.{first_with_text, joined_by, after_one, after, differs, clashes, clash_faults}
use Rattle.lalrpop_norm_model.specs.PlainTables.{closed}
use Rattle.lalrpop_norm_theory.proofs.BoolLemmas.{or_nothing, not_false, or_assoc}
use Rattle.lalrpop_norm_theory.proofs.SameLemmas.{text_sound}
use Rattle.lalrpop_norm_faults.proofs.FaultLemmas.{none_first}

-- ---- what is new

first_here : (seen : List Part) (x y : Part) (b : Bool) → bytes_eq (part_text y) (part_text x) ≡ b →
    differs (cond b (Some y) (first_with_text (part_text x) seen)) x ≡ false →
    (differs (first_with_text (part_text x) seen) x ≡ false → is_in same_apart_from_spans x seen ≡ is_some (first_with_text (part_text x) seen)) →
    (same_apart_from_spans x y || is_in same_apart_from_spans x seen) ≡ is_some (cond b (Some y) (first_with_text (part_text x) seen))
first_here seen x y true e d deeper =
    let same : same_apart_from_spans x y ≡ true = closed_same x y (sym (same_closed y x (not_false (same_apart_from_spans y x) d))) in
    ap (λ b. b || is_in same_apart_from_spans x seen) same
first_here seen x y false e d deeper =
    let apart : same_apart_from_spans x y ≡ false = false_where (same_apart_from_spans x y)
    (λ s. let t : bytes_eq (part_text y) (part_text x) ≡ true = is_text _ _ (sym (closed_text_same x y (same_closed x y s))) in cc (e, t)) in
    ap (λ b. b || is_in same_apart_from_spans x seen) apart ∙ deeper d

-- where the first of its text is the same, a symbol was reached if and only if one of its text was
is_in_first : (seen : List Part) (x : Part) → differs (first_with_text (part_text x) seen) x ≡ false →
    is_in same_apart_from_spans x seen ≡ is_some (first_with_text (part_text x) seen)
is_in_first [] x h = refl
is_in_first (y ∷ seen) x h = first_here seen x y (bytes_eq (part_text y) (part_text x)) refl h (is_in_first seen x)

one_fresh : (seen : List Part) (x : Part) → differs (first_with_text (part_text x) seen) x ≡ false →
    after_one seen x ≡ seen ++ fresh_of same_apart_from_spans seen (x ∷ [])
one_fresh seen x h = cases (first_with_text (part_text x) seen) (is_in same_apart_from_spans x seen) (is_in_first seen x h)
  where
    cases : (o : Option Part) (b : Bool) → b ≡ is_some o → joined_by o seen x ≡ seen ++ (if b then [] else x ∷ [])
    cases None b e = rw e refl
    cases (Some y) b e = rw e (sym (append-nil seen))

module _ (names : List ℕ → Bool) where
  pub after_fresh : (seen xs : List Part) → clash_faults names seen xs ≡ [] → after seen xs ≡ seen ++ fresh_of same_apart_from_spans seen xs
  after_fresh seen [] h = sym (append-nil seen)
  after_fresh seen (x ∷ xs) h =
      let (free, rest) = none_if (clashes names seen x) (SharedName, span_of x) (clash_faults names (after_one seen x) xs) h in
      let one = one_fresh seen x (or_false (names (part_text x)) (differs (first_with_text (part_text x) seen) x) free).1 in
      after_fresh (after_one seen x) xs rest
      ∙ ap (λ s. s ++ fresh_of same_apart_from_spans s xs) one
      ∙ append_assoc seen (fresh_of same_apart_from_spans seen (x ∷ [])) _
      ∙ ap (λ f. seen ++ f) (sym (fresh_append same_apart_from_spans seen (x ∷ []) xs))

-- ---- faults

-- the symbols kept, one of each text, say of each symbol what all that were reached say
abbrev pub Tells : List Part → List Part → Type 0
Tells seen met = (z : Part) → has_other met z ≡ differs (first_with_text (part_text z) seen) z

or_same : (a : Bool) → (a || a) ≡ a
or_same true = refl
or_same false = refl

abbrev other : Part → Part → Bool
other z y = bytes_eq (part_text y) (part_text z) && not (same_apart_from_spans y z)

has_other_more : (met : List Part) (x z : Part) → has_other (met ++ x ∷ []) z ≡ (has_other met z || other z x)
has_other_more [] x z = or_nothing (other z x)
has_other_more (y ∷ met) x z = ap (λ b. other z y || b) (has_other_more met x z) ∙ or_assoc (other z y) (has_other met z) (other z x)

same_along : (y x z : Part) → same_apart_from_spans y x ≡ true → same_apart_from_spans x z ≡ same_apart_from_spans y z
same_along y x z e = ap (λ g. same_symbol g (closed z)) (sym (same_closed y x e))

module _ (seen met : List Part) (x z : Part) (h : has_other met z ≡ differs (first_with_text (part_text z) seen) z)
    (d : differs (first_with_text (part_text x) seen) x ≡ false) where
  tells_apart : (part_text x ≡ part_text z → ⊥) → (has_other met z || other z x) ≡ differs (first_with_text (part_text z) (after_one seen x)) z
  tells_apart n =
      let off : bytes_eq (part_text x) (part_text z) ≡ false = false_where _ (λ e. n (text_sound _ _ e)) in
      ap (λ b. has_other met z || (b && not (same_apart_from_spans x z))) off
      ∙ or_nothing (has_other met z)
      ∙ h
      ∙ ap (λ o. differs o z) (sym (kept (first_with_text (part_text x) seen)))
    where
      kept : (o : Option Part) → first_with_text (part_text z) (joined_by o seen x) ≡ first_with_text (part_text z) seen
      kept None = first_more (part_text z) seen x n
      kept (Some y) = refl

  tells_alike : part_text x ≡ part_text z → (has_other met z || other z x) ≡ differs (first_with_text (part_text z) (after_one seen x)) z
  tells_alike e =
      ap (λ b. has_other met z || (b && not (same_apart_from_spans x z))) (is_text _ _ e)
      ∙ ap (λ b. b || not (same_apart_from_spans x z)) (h ∙ ap (λ t. differs (first_with_text t seen) z) (sym e))
      ∙ cases (first_with_text (part_text x) seen) refl
      ∙ ap (λ t. differs (first_with_text t (after_one seen x)) z) e
    where
      cases : (o : Option Part) → first_with_text (part_text x) seen ≡ o →
          (differs (first_with_text (part_text x) seen) z || not (same_apart_from_spans x z)) ≡ differs (first_with_text (part_text x) (joined_by (first_with_text (part_text x) seen) seen x)) z
      cases None q =
          rw (q, first_at seen x q) refl
      cases (Some y) q =
          let same : same_apart_from_spans y x ≡ true = not_false _ (sym (ap (λ o. differs o x) q) ∙ d) in
          rw (q, q, same_along y x z same) (or_same (not (same_apart_from_spans y z)))

tells_more : (seen met : List Part) (x : Part) → Tells seen met → differs (first_with_text (part_text x) seen) x ≡ false → Tells (after_one seen x) (met ++ x ∷ [])
tells_more seen met x h d z = has_other_more met x z ∙ elim (text_cases (part_text x) (part_text z)) [
  | inl e ↦ tells_alike seen met x z (h z) d e
  | inr n ↦ tells_apart seen met x z (h z) d n
]

head_same : (b : Bool) (f : Fault) (fs gs : List Fault) → (b ≡ false → first fs ≡ first gs) → first (fault_if b f ++ fs) ≡ first (fault_if b f ++ gs)
head_same true f fs gs h = refl
head_same false f fs gs h = h refl

module _ (names : List ℕ → Bool) (ns : List (List ℕ)) (agree : names ≡ is_declared_name ns) where
  -- the faults of the code begin as those of the definition
  pub first_same : (seen met xs : List Part) → Tells seen met → first (clash_faults names seen xs) ≡ first (shared_names ns met xs)
  first_same seen met [] h = refl
  first_same seen met (x ∷ xs) h =
      head_same (clashes names seen x) (SharedName, span_of x) (clash_faults names (after_one seen x) xs) (shared_names ns (met ++ x ∷ []) xs)
      (λ e. first_same (after_one seen x) (met ++ x ∷ []) xs (tells_more seen met x h (or_false (names (part_text x)) _ e).1))
      ∙ ap (λ b. first (fault_if b (SharedName, span_of x) ++ shared_names ns (met ++ x ∷ []) xs))
      (ap₂ ◌||◌ (ap (λ f. f (part_text x)) agree) (sym (h x)))

  pub quiet_same : (seen met xs : List Part) → Tells seen met → clash_faults names seen xs ≡ [] → shared_names ns met xs ≡ []
  quiet_same seen met xs h none = none_first _ (sym (first_same seen met xs h) ∙ ap first none)

  pub tells_after : (seen met xs : List Part) → Tells seen met → clash_faults names seen xs ≡ [] → Tells (after seen xs) (met ++ xs)
  tells_after seen met [] h none = rw (append-nil met) h
  tells_after seen met (x ∷ xs) h none =
      let (free, rest) = none_if (clashes names seen x) (SharedName, span_of x) (clash_faults names (after_one seen x) xs) none in
      let more = tells_after (after_one seen x) (met ++ x ∷ []) xs (tells_more seen met x h (or_false (names (part_text x)) _ free).1) rest in
      rw (append_assoc met (x ∷ []) xs) at more
