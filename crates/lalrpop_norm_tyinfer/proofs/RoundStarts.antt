-- Where a round starts and ends.
use Rattle.std.proofs.Common.{◌≡◌, ◌⊎◌, ◌==◌, ◌||◌, inl, inr, ℕ, ◌+◌, ◌-◌, ◌<◌, ◌≤◌, true, false, true≢false, List, [], ◌∷◌, refl, sym, ap, subst, ◌∙◌, arith}
use Rattle.std.proofs.lemmas.Bool.Decides.{eqb_tells}
use Rattle.lalrpop_norm_theory.proofs.BoolLemmas.{or_true}
use Rattle.lalrpop_norm_theory.specs.Rounds.{In}
use Rattle.lalrpop_norm_repr.specs.Tables.{TypeTable}
use Rattle.lalrpop_norm_tyinfer_steps.specs.declared.stops.Stops.{Stops}
use Rattle.lalrpop_norm_tyinfer_steps.specs.declared.waiting.Waiting.{Waiting}
use Rattle.lalrpop_norm_tyinfer_steps.specs.Visits.{Seen}
use Rattle.lalrpop_norm_tyinfer_steps.specs.Waiting.{has, Waits, Wakes, Watches}
use Rattle.lalrpop_norm_tyinfer_steps.proofs.RoundLemmas.{Midway}

pub midway_first : (ps : _) (tt : TypeTable) (ss : List Seen) (stops : Stops) (now next : Waiting) → Watches ps tt ss stops → Waits ps tt ss now →
    ((k : ℕ) → has next k ≡ false) → Midway ps tt tt ss stops 0 now next
midway_first ps tt ss stops now next watches waits none = record {
  passes = record { table = λ g read rows h. h; rest = refl };
  watches = watches;
  behind = λ k s here low left. waits.quiet k s here left;
  earlier = λ k s here low left. absurd (omega (arith, low));
  ahead = λ k there. omega arith;
  within_now = waits.within;
  within_next = λ k there. absurd (true≢false (sym there ∙ none k));
}

before_or_behind : (k n : ℕ) → (k < n) ⊎ (n ≤ k)
before_or_behind k n = grind arith

-- the worklist is empty in this round
pub waits_next : (ps : _) (before tt : TypeTable) (ss : List Seen) (stops : Stops) (from : ℕ) (now next : Waiting) → Midway ps before tt ss stops from now next →
    ((k : ℕ) → has now k ≡ false) → Waits ps tt ss next
waits_next ps before tt ss stops from now next m none = record {
  quiet = λ k s here left. elim (before_or_behind k from) [
    | inl low ↦ m.earlier k s here low left
    | inr high ↦ m.behind k s here high (none k)
  ];
  within = m.within_next;
}

pub fewer_left : (n from place : ℕ) → from ≤ place → place < n → n - (place + 1) < n - from
fewer_left n from place low lt = omega arith

-- ---- an index is added

only_place : (other k : ℕ) → In k (other ∷ []) → k ≡ other
only_place other k here = elim here [ inl e ↦ e | inr none ↦ absurd none ]

module _ (other : ℕ) (before after : Waiting) (added : (k : ℕ) → has after k ≡ ((other == k) || has before k)) where
  added_kept : (k : ℕ) → has before k ≡ true → has after k ≡ true
  added_kept k h = added k ∙ (ap (λ b. (other == k) || b) h ∙ or_true (other == k))

  added_there : (k : ℕ) → In k (other ∷ []) → has after k ≡ true
  added_there k here = elim (eqb_tells other k) [
    | inl w ↦ added k ∙ ap (λ b. b || has before k) w.0
    | inr w ↦ absurd (w.1 (sym (only_place other k here)))
  ]

  added_only : (k : ℕ) → has after k ≡ true → (has before k ≡ true) ⊎ (other ≡ k)
  added_only k h = elim (eqb_tells other k) [
    | inl w ↦ inr w.1
    | inr w ↦ inl (sym (ap (λ b. b || has before k) w.0) ∙ (sym (added k) ∙ h))
  ]

pub woken_now : (other place : ℕ) (now after next : Waiting) → place < other → ((k : ℕ) → has after k ≡ ((other == k) || has now k)) → Wakes (other ∷ []) place now after next next
woken_now other place now after next lt added = record {
  kept_now = λ k h. added_kept other now after added k h;
  kept_next = λ k h. h;
  behind = λ k here low. added_there other now after added k here;
  before = λ k here le. let same = only_place other k here in absurd (omega arith);
  only_now = λ k h. elim (added_only other now after added k h) [ inl had ↦ inl had | inr same ↦ inr (subst (λ j. place < j) same lt, inl (sym same)) ];
  only_next = λ k h. inl h;
}

pub woken_next : (other place : ℕ) (now next after : Waiting) → other ≤ place → ((k : ℕ) → has after k ≡ ((other == k) || has next k)) → Wakes (other ∷ []) place now now next after
woken_next other place now next after le added = record {
  kept_now = λ k h. h;
  kept_next = λ k h. added_kept other next after added k h;
  behind = λ k here low. let same = only_place other k here in absurd (omega arith);
  before = λ k here low. added_there other next after added k here;
  only_now = λ k h. inl h;
  only_next = λ k h. elim (added_only other next after added k h) [ inl had ↦ inl had | inr same ↦ inr (inl (sym same)) ];
}
