-- A round over ids and rewritten symbols is the round over the symbols: the errors are the same, the same is seen, up to spans,
-- and what is new is on the worklist with its parts rewritten.
use Rattle.std.proofs.Common.{◌≡◌, inl, inr, ℕ, List, [], ◌∷◌, ◌++◌, Bool, true, false, cond, map, Option, Some, None, option_map, is_some, refl, sym, ap, ap₂, ◌∙◌, subst, append-nil}
use Rattle.std.specs.Prelude.{not, ◌||◌, ◌&&◌}
use Rattle.std.specs.List.{flat_map}
use Rattle.std.proofs.lemmas.Bool.{and_parts}
use Rattle.std.proofs.lemmas.List.{map-append}
use Rattle.lalrpop_norm_tree.specs.Symbols.{Kind, Part, Parts, group, call, repeated, lookahead, lookbehind, at, no_parts, part_and}
use Rattle.lalrpop_norm_tree_names.specs.declared.names.Span.{Span}
use Rattle.lalrpop_norm_tree.specs.SymbolTexts.{part_text, kind_text}
use Rattle.lalrpop_norm_tree.specs.Traversal.{inner}
use Rattle.lalrpop_norm_tree.specs.Items.{AlternativeData, RuleData}
use Rattle.lalrpop_norm_theory.specs.Rounds.{In}
use Rattle.lalrpop_norm_theory.proofs.RoundsLemmas.{in_cases}
use Rattle.lalrpop_norm_theory.proofs.ListLemmas.{some_inner}
use Rattle.lalrpop_norm_theory.proofs.BoolLemmas.{right_false, not_false, false_of_not}
use Rattle.lalrpop_norm_model.specs.PlainRules.{met, all_met, met_in_rule, same_apart_from_spans}
use Rattle.lalrpop_norm_nodes.specs.Apart.{nowhere, unplaced_kind, unplaced}
use Rattle.lalrpop_norm_nodes.specs.Meeting.{first_with_text, joined_by, after_one, after, differs, clash_faults, was_met, were_met}
use Rattle.lalrpop_norm_nodes.proofs.ApartLemmas.{unplaced_same}
use Rattle.lalrpop_norm_nodes.proofs.FirstLemmas.{first_more, first_at}
use Rattle.lalrpop_norm_nodes.specs.Waits.{parts_replaced, first_met}
use Rattle.lalrpop_norm_nodes.proofs.FirstMet.{has_text, fresh_after, text_is_seen, first_fresh}
use Rattle.lalrpop_norm_nodes.proofs.InnerLemmas.{All, each}
use Rattle.lalrpop_norm_nodes.proofs.MeetLemmas.{text_unplaced, first_bare, after_same, clash_same, were_left, were_right}
use Rattle.lalrpop_norm_nodes.proofs.ShallowMeetings.{HaveTexts, MeetAlike}

-- ---- symbols that are seen, with their spans and without

texts_bare : (xs : List Part) → map part_text (map unplaced xs) ≡ map part_text xs
texts_bare [] = refl
texts_bare (x ∷ xs) = ap₂ (λ (t : List ℕ) (ts : List (List ℕ)). t ∷ ts) (text_unplaced x) (texts_bare xs)

pub same_bare_texts : (a b : List Part) → map unplaced a ≡ map unplaced b → map part_text a ≡ map part_text b
same_bare_texts a b e = sym (texts_bare a) ∙ ap (map part_text) e ∙ texts_bare b

seen_has_text : (names : List ℕ → Bool) (start : List Part) → HaveTexts names start (map part_text start)
seen_has_text names start z h = sym (text_is_seen (part_text z) start) ∙ (and_parts (is_some (first_with_text (part_text z) start)) _ h).0

-- ---- a round

module _ (names : List ℕ → Bool) (seen start shown whole deep : List Part) (same : map unplaced seen ≡ map unplaced start)
    (alike : MeetAlike names start shown whole deep) where
  pub round_refused : clash_faults names seen whole ≡ clash_faults names start deep
  round_refused = clash_same names seen start whole same ∙ alike.clashes start (λ z h. h)

  pub round_seen : map unplaced (after seen whole) ≡ map unplaced (after start deep)
  round_seen = after_same seen start whole same ∙ alike.met start (λ z h. h)

  pub round_waits : first_met seen shown ≡ map parts_replaced (first_met start deep)
  round_waits =
      first_fresh seen shown
      ∙ ap (λ (ts : List (List ℕ)). fresh_after ts shown) (same_bare_texts seen start same)
      ∙ alike.waits (map part_text start) (seen_has_text names start)
      ∙ ap (map parts_replaced) (sym (first_fresh start deep))

-- ---- where all of these were reached, so was what each reaches

module _ (names : List ℕ → Bool) (seen : List Part) where
  abbrev pub IsInward : List Part → Type 0
  IsInward xs = (q : Part) → In q xs → were_met names seen xs ≡ true → were_met names seen (met q) ≡ true

  inward_both : (xs ys : List Part) → IsInward xs → IsInward ys → IsInward (xs ++ ys)
  inward_both xs ys a b q i h = elim (in_cases q xs ys i) [
    | inl j ↦ a q j (were_left names seen xs ys h)
    | inr j ↦ b q j (were_right names seen xs ys h)
  ]

  pub inward_each : {A : Type 0} (f : A → List Part) (xs : List A) → ((x : A) → IsInward (f x)) → IsInward (flat_map f xs)
  inward_each f [] h = λ q i w. absurd i
  inward_each f (x ∷ xs) h = inward_both (f x) (flat_map f xs) (h x) (inward_each f xs h)

  -- a symbol behind what is inside it
  inward_self : (xs : List Part) (p : Part) → met p ≡ xs ++ p ∷ [] → IsInward xs → IsInward (xs ++ p ∷ [])
  inward_self xs p e a q i h = elim (in_cases q xs (p ∷ []) i) [
    | inl j ↦ a q j (were_left names seen xs (p ∷ []) h)
    | inr j ↦ elim j [
      | inl f ↦ rw (f, e) h
      | inr k ↦ absurd k
    ]
  ]

  abbrev IsPartInward : Part → Type 0
  IsPartInward p = IsInward (met p)

  rows_inward : (ps : Parts) → All IsPartInward ps → IsInward (all_met ps)
  rows_inward no_parts h = λ q i j. absurd i
  rows_inward (part_and p ps) h = inward_both (met p) (all_met ps) h.0 (rows_inward ps h.1)

  part_inward : (s : Span) (k : Kind) → All IsPartInward (inner k) → IsInward (met (at s k))
  part_inward s (group ps) h = inward_self (all_met ps) (at s (group ps)) refl (rows_inward ps h)
  part_inward s (call n ps) h = inward_self (all_met ps) (at s (call n ps)) refl (rows_inward ps h)
  part_inward s (repeated op p) h = inward_self (met p) (at s (repeated op p)) refl h.0
  part_inward s lookahead h = inward_self [] (at s lookahead) refl (λ q i j. absurd i)
  part_inward s lookbehind h = inward_self [] (at s lookbehind) refl (λ q i j. absurd i)
  part_inward s k h = subst (λ (xs : List Part). IsInward xs) (append-nil (met (at s k))) (rows_inward (inner k) h)

  pub all_inward : (ps : Parts) → IsInward (all_met ps)
  all_inward ps = rows_inward ps (each IsPartInward part_inward ps)

  pub rule_inward : (r : RuleData) → IsInward (met_in_rule r)
  rule_inward r = inward_each (λ (a : AlternativeData). all_met a.parts) r.alternatives (λ a. all_inward a.parts)

-- ---- the number of a symbol on the worklist

first_after : (t : List ℕ) (seen xs : List Part) (y : Part) → first_with_text t seen ≡ Some y → first_with_text t (after seen xs) ≡ Some y
first_after t seen [] y e = e
first_after t seen (x ∷ xs) y e = first_after t (after_one seen x) xs y (by (first_with_text (part_text x) seen) refl)
  where
    by : (o : Option Part) → first_with_text (part_text x) seen ≡ o → first_with_text t (joined_by o seen x) ≡ Some y
    by None f = first_more t seen x (λ g. let h : None ≡ Some y = sym f ∙ ap (λ u. first_with_text u seen) g ∙ e in absurd (cc h)) ∙ e
    by (Some z) f = e

first_of_fresh : (seen xs : List Part) (p : Part) → In p (fresh_after (map part_text seen) xs) → first_with_text (part_text p) (after seen xs) ≡ Some p
first_of_fresh seen [] p i = absurd i
first_of_fresh seen (x ∷ xs) p i =
    by (first_with_text (part_text x) seen) refl (has_text (part_text x) (map part_text seen)) (text_is_seen (part_text x) seen) i
    (first_of_fresh seen xs p) (first_of_fresh (seen ++ x ∷ []) xs p)
  where
    more : List (List ℕ)
    more = map part_text seen ++ part_text x ∷ []

    by : (o : Option Part) → first_with_text (part_text x) seen ≡ o → (b : Bool) → is_some (first_with_text (part_text x) seen) ≡ b →
        In p (cond b (fresh_after (map part_text seen) xs) (x ∷ fresh_after more xs)) →
        (In p (fresh_after (map part_text seen) xs) → first_with_text (part_text p) (after seen xs) ≡ Some p) →
        (In p (fresh_after (map part_text (seen ++ x ∷ [])) xs) → first_with_text (part_text p) (after (seen ++ x ∷ []) xs) ≡ Some p) →
        first_with_text (part_text p) (after (joined_by o seen x) xs) ≡ Some p
    by None e true f j stays adds = absurd (cc (e, f))
    by None e false f j stays adds = elim j [
      | inl g ↦ rw g (first_after (part_text x) (seen ++ x ∷ []) xs x (first_at seen x e))
      | inr k ↦ adds (subst (λ (ts : List (List ℕ)). In p (fresh_after ts xs)) (sym (map-append part_text seen (x ∷ []))) k)
    ]
    by (Some y) e true f j stays adds = stays j
    by (Some y) e false f j stays adds = absurd (cc (e, f))

-- one that is reached first is the first of its text
pub first_of_text : (seen xs : List Part) (p : Part) → In p (first_met seen xs) → first_with_text (part_text p) (after seen xs) ≡ Some p
first_of_text seen xs p i = first_of_fresh seen xs p (subst (λ (ps : List Part). In p ps) (first_fresh seen xs) i)

-- what has the text of a symbol that was seen, and was reached, is that symbol, up to spans
pub text_tells : (names : List ℕ → Bool) (seen start : List Part) (k : Kind) (p : Part) → map unplaced seen ≡ map unplaced start → unplaced_kind k ≡ k →
    was_met names seen (at nowhere k) ≡ true → kind_text k ≡ part_text p → first_with_text (part_text p) start ≡ Some p → at nowhere k ≡ unplaced p
text_tells names seen start k p same bare h text first = by (first_with_text (kind_text k) seen) refl h
  where
    found : (y : Part) → first_with_text (kind_text k) seen ≡ Some y → unplaced y ≡ unplaced p
    found y e =
        some_inner (unplaced y) (unplaced p)
        (ap (option_map unplaced) (sym e) ∙ sym (first_bare (kind_text k) seen) ∙ ap (first_with_text (kind_text k)) same
        ∙ first_bare (kind_text k) start ∙ ap (λ (t : List ℕ). option_map unplaced (first_with_text t start)) text ∙ ap (option_map unplaced) first)

    by : (o : Option Part) → first_with_text (kind_text k) seen ≡ o → (is_some o && not (names (kind_text k) || differs o (at nowhere k))) ≡ true → at nowhere k ≡ unplaced p
    by None e g = absurd (cc g)
    by (Some y) e g =
        let apart : not (same_apart_from_spans y (at nowhere k)) ≡ false = right_false (names (kind_text k)) _ (false_of_not _ g) in
        ap (at nowhere) (sym bare) ∙ sym (unplaced_same y (at nowhere k) (not_false _ apart)) ∙ found y e
