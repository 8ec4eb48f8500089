-- F37 in the list of faults: round by round, and as the first of all faults.
use Rattle.std.proofs.Common.{◌≡◌, ◌≤◌, ◌<◌, inl, inr, ℕ, zero, suc, ◌+◌, arith, Some, List, [], ◌∷◌, ◌++◌, refl, sym, ap, subst, ◌∙◌}
use Rattle.std.specs.Prelude.{◌↔◌, ◌⊎◌}
use Rattle.lalrpop_norm_tree_names.specs.declared.names.Span.{Span}
use Rattle.lalrpop_norm_tree.specs.Symbols.{Part}
use Rattle.lalrpop_norm_tree.specs.Items.{GrammarData}
use Rattle.lalrpop_norm_faults.specs.declared.kind.FaultKind.TheVariants.{RecursionCap, SharedName, ConditionArgument, ConditionPattern, NamedInGroup, NamedInTimes}
use Rattle.lalrpop_norm_faults.specs.Faults.{Fault, first}
use Rattle.lalrpop_norm_theory.specs.Symbols.{Name}
use Rattle.lalrpop_norm_theory.specs.Rounds.{In, rules_made}
use Rattle.lalrpop_norm_theory.proofs.RoundsLemmas.{in_left, in_right, in_cases}
use Rattle.lalrpop_norm_model.specs.Expanded.{rule_names}
use Rattle.lalrpop_norm_model.specs.Grammars.{ConditionValue}
use Rattle.lalrpop_norm_model.specs.PlainRules.{macros_of, expansion_round}
use Rattle.lalrpop_norm_macro_expand.specs.Expansion.{shared_names, meetings, met_before, shared_in, unmade_in, past_cap, faults_from, expansion_faults}
use Rattle.lalrpop_norm_faults.proofs.FaultLemmas.{both_none, left_none, right_none}
use Rattle.lalrpop_norm.proofs.UnmadeLemmas.{none_made}
use Rattle.lalrpop_norm.specs.Laws.{SharesNameAt}
use Rattle.lalrpop_norm.proofs.SharedSymbols.{shared_at, find, stand, shared_append}

-- ---- round by round

not_cap : (SharedName ≡ RecursionCap) → ⊥
not_cap e = absurd (cc e)

not_group : (SharedName ≡ NamedInGroup) → ⊥
not_group e = absurd (cc e)

not_argument : (SharedName ≡ ConditionArgument) → ⊥
not_argument e = absurd (cc e)

not_pattern : (SharedName ≡ ConditionPattern) → ⊥
not_pattern e = absurd (cc e)

not_times : (SharedName ≡ NamedInTimes) → ⊥
not_times e = absurd (cc e)

not_past : (xs : List Part) (t : Span) → In (shared_at t) (past_cap xs) → ⊥
not_past [] t i = i
not_past (x ∷ []) t (inl e) = not_cap (ap (λ (f : Fault). f.0) e)
not_past (x ∷ []) t (inr i) = i
not_past (x ∷ y ∷ xs) t i = not_past (y ∷ xs) t i

equal_or_more : (k j : ℕ) → k ≤ j → (k ≡ j) ⊎ (suc k ≤ j)
equal_or_more zero zero h = inl refl
equal_or_more zero (suc j) h = inr (omega arith)
equal_or_more (suc k) zero h = absurd (omega (arith, h))
equal_or_more (suc k) (suc j) h = elim (equal_or_more k j (omega (arith, h))) [
  | inl same ↦ inl (ap suc same)
  | inr more ↦ inr (omega (arith, more))
]

pub equal_or_less : (j n : ℕ) → j < suc n → (j ≡ n) ⊎ (j < n)
equal_or_less j n h = elim (equal_or_more j n (omega (arith, h))) [ inl e ↦ inl e | inr m ↦ inr (omega (arith, m)) ]

begins : (xs ys : List Fault) (t : Span) → first (xs ++ ys) ≡ Some (shared_at t) → (In (shared_at t) xs → ⊥) → (xs ≡ []) × (first ys ≡ Some (shared_at t))
begins [] ys t e none = (refl, e)
begins (x ∷ xs) ys t e none = let same : x ≡ shared_at t = cc e in absurd (none (inl (sym same)))

begins_or : (xs ys : List Fault) (t : Span) → first (xs ++ ys) ≡ Some (shared_at t) →
    (first xs ≡ Some (shared_at t)) ⊎ ((xs ≡ []) × (first ys ≡ Some (shared_at t)))
begins_or [] ys t e = inr (refl, e)
begins_or (x ∷ xs) ys t e = inl e

first_more : (xs ys : List Fault) (f : Fault) → first xs ≡ Some f → first (xs ++ ys) ≡ Some f
first_more [] ys f e = absurd (cc e)
first_more (x ∷ xs) ys f e = e

first_in : (xs : List Fault) (f : Fault) → first xs ≡ Some f → In f xs
first_in [] f e = absurd (cc e)
first_in (x ∷ xs) f e = inl (cc e)

module _ (value : ConditionValue) (g : GrammarData) where
  abbrev names : List Name
  names = rule_names g

  not_unmade : (k : ℕ) (t : Span) → In (shared_at t) (unmade_in value g k) → ⊥
  not_unmade k t i = none_made SharedName not_group not_argument not_pattern not_times (macros_of g) (rules_made (expansion_round value g k)) t i

  to_round : (k left : ℕ) (t : Span) → In (shared_at t) (faults_from value g k left) →
      (j : ℕ) × (j ≤ k + left) × In (shared_at t) (shared_in value g j)
  to_round k zero t i = elim (in_cases (shared_at t) (shared_in value g k) (past_cap (expansion_round value g k).fresh) i) [
    | inl here ↦ (k, omega arith, here)
    | inr past ↦ absurd (not_past (expansion_round value g k).fresh t past)
  ]
  to_round k (suc left) t i =
      elim (in_cases (shared_at t) (shared_in value g k) (unmade_in value g k ++ faults_from value g (suc k) left) i) [
        | inl here ↦ (k, omega arith, here)
        | inr more ↦ elim (in_cases (shared_at t) (unmade_in value g k) (faults_from value g (suc k) left) more) [
          | inl made ↦ absurd (not_unmade k t made)
          | inr later ↦ let r = to_round (suc k) left t later in (r.0, omega (arith, r.1), r.2)
        ]
      ]

  from_round : (k left j : ℕ) (t : Span) → k ≤ j → j ≤ k + left → In (shared_at t) (shared_in value g j) → In (shared_at t) (faults_from value g k left)
  from_round k zero j t low high i =
      let same : j ≡ k = omega (arith, low, high) in
      in_left (shared_at t) (shared_in value g k) (past_cap (expansion_round value g k).fresh)
      (subst (λ (n : ℕ). In (shared_at t) (shared_in value g n)) same i)
  from_round k (suc left) j t low high i = elim (equal_or_more k j low) [
    | inl same ↦
        in_left (shared_at t) (shared_in value g k) (unmade_in value g k ++ faults_from value g (suc k) left)
        (subst (λ (n : ℕ). In (shared_at t) (shared_in value g n)) (sym same) i)
    | inr more ↦
        in_right (shared_at t) (shared_in value g k) (unmade_in value g k ++ faults_from value g (suc k) left)
        (in_right (shared_at t) (unmade_in value g k) (faults_from value g (suc k) left)
        (from_round (suc k) left j t more (omega (arith, high)) i))
  ]

  abbrev pub all_shared : ℕ → List Fault
  all_shared n = shared_names names [] (met_before value g n)

  next_shared : (n : ℕ) → all_shared (suc n) ≡ all_shared n ++ shared_in value g n
  next_shared n = shared_append names [] (met_before value g n) (meetings value g n)

  to_met : (n j : ℕ) (t : Span) → j < n → In (shared_at t) (shared_in value g j) → In (shared_at t) (all_shared n)
  to_met zero j t low i = absurd (omega (arith, low))
  to_met (suc n) j t low i =
      subst (λ (fs : List Fault). In (shared_at t) fs) (sym (next_shared n)) (elim (equal_or_less j n low) [
        | inl same ↦ in_right (shared_at t) (all_shared n) (shared_in value g n) (subst (λ (m : ℕ). In (shared_at t) (shared_in value g m)) same i)
        | inr less ↦ in_left (shared_at t) (all_shared n) (shared_in value g n) (to_met n j t less i)
      ])

  of_met : (n : ℕ) (t : Span) → In (shared_at t) (all_shared n) → (j : ℕ) × (j < n) × In (shared_at t) (shared_in value g j)
  of_met zero t i = absurd i
  of_met (suc n) t i =
      elim (in_cases (shared_at t) (all_shared n) (shared_in value g n) (subst (λ (fs : List Fault). In (shared_at t) fs) (next_shared n) i)) [
        | inl before ↦ let r = of_met n t before in (r.0, omega (arith, r.1), r.2)
        | inr here ↦ (n, omega arith, here)
      ]

  -- F37 holds among the faults where it holds of all that is reached
  to_all : (limit : ℕ) (t : Span) → In (shared_at t) (expansion_faults value g limit) → In (shared_at t) (all_shared (suc limit))
  to_all limit t i = let r = to_round 0 limit t i in to_met (suc limit) r.0 t (omega (arith, r.1)) r.2

  pub of_all : (limit : ℕ) (t : Span) → In (shared_at t) (all_shared (suc limit)) → In (shared_at t) (expansion_faults value g limit)
  of_all limit t i = let r = of_met (suc limit) t i in from_round 0 limit r.0 t (omega arith) (omega (arith, r.1)) r.2

  pub stands_at : (limit : ℕ) (t : Span) → In (shared_at t) (expansion_faults value g limit) ↔ SharesNameAt value g limit t
  stands_at limit t = (there, back)
    where
      there : In (shared_at t) (expansion_faults value g limit) → SharesNameAt value g limit t
      there i =
          let f = find names [] (met_before value g (suc limit)) t (to_all limit t i) in
          record { before = f.before; symbol = f.symbol; later = f.later; met = f.listed; there = f.there; shared = f.shared }

      back : SharesNameAt value g limit t → In (shared_at t) (expansion_faults value g limit)
      back h =
          of_all limit t
          (subst (λ (xs : List Part). In (shared_at t) (shared_names names [] xs)) (sym h.met)
          (subst (λ (u : Span). In (shared_at u) (shared_names names [] (h.before ++ h.symbol ∷ h.later))) h.there
          (stand names [] h.before h.symbol h.later h.shared)))

  -- ---- as the first of all faults

  pub record Told (k left : ℕ) (t : Span) : Type 0 where
    pub round : ℕ
    pub low : k ≤ round
    pub high : round ≤ k + left
    pub made : (j : ℕ) → k ≤ j → j < round → shared_in value g j ++ unmade_in value g j ≡ []
    pub told : first (shared_in value g round) ≡ Some (shared_at t)

  at_once : (k left : ℕ) (t : Span) → first (shared_in value g k) ≡ Some (shared_at t) → Told k left t
  at_once k left t e = record {
    round = k;
    low = omega arith;
    high = omega arith;
    made = λ j low high. absurd (omega (arith, low, high));
    told = e;
  }

  pub first_from : (k left : ℕ) (t : Span) → first (faults_from value g k left) ≡ Some (shared_at t) → Told k left t
  first_from k zero t e = elim (begins_or (shared_in value g k) (past_cap (expansion_round value g k).fresh) t e) [
    | inl here ↦ at_once k zero t here
    | inr past ↦ absurd (not_past (expansion_round value g k).fresh t (first_in (past_cap (expansion_round value g k).fresh) (shared_at t) past.1))
  ]
  first_from k (suc left) t e =
      elim (begins_or (shared_in value g k) (unmade_in value g k ++ faults_from value g (suc k) left) t e) [
        | inl here ↦ at_once k (suc left) t here
        | inr more ↦
            let next = begins (unmade_in value g k) (faults_from value g (suc k) left) t more.1 (not_unmade k t) in
            let r = first_from (suc k) left t next.1 in
            record {
              round = r.round;
              low = omega (arith, r.low);
              high = omega (arith, r.high);
              made = λ j low high. elim (equal_or_more k j low) [
                | inl same ↦ subst (λ (n : ℕ). shared_in value g n ++ unmade_in value g n ≡ []) same (both_none (shared_in value g k) (unmade_in value g k) more.0 next.0)
                | inr later ↦ r.made j later high
              ];
              told = r.told;
            }
      ]

  pub told_from : (k left round : ℕ) (t : Span) → k ≤ round → round ≤ k + left →
      ((j : ℕ) → k ≤ j → j < round → shared_in value g j ++ unmade_in value g j ≡ []) →
      first (shared_in value g round) ≡ Some (shared_at t) → first (faults_from value g k left) ≡ Some (shared_at t)
  told_from k zero round t low high made e =
      let same : round ≡ k = omega (arith, low, high) in
      first_more (shared_in value g k) (past_cap (expansion_round value g k).fresh) (shared_at t) (ap (λ n. first (shared_in value g n)) (sym same) ∙ e)
  told_from k (suc left) round t low high made e = elim (equal_or_more k round low) [
    | inl same ↦
        first_more (shared_in value g k) (unmade_in value g k ++ faults_from value g (suc k) left) (shared_at t)
        (ap (λ n. first (shared_in value g n)) same ∙ e)
    | inr more ↦
        let none = made k (omega arith) (omega (arith, more)) in
        ap (λ fs. first (fs ++ (unmade_in value g k ++ faults_from value g (suc k) left))) (left_none (shared_in value g k) (unmade_in value g k) none)
        ∙ ap (λ fs. first (fs ++ faults_from value g (suc k) left)) (right_none (shared_in value g k) (unmade_in value g k) none)
        ∙ told_from (suc k) left round t more (omega (arith, high)) (λ j below above. made j (omega (arith, below)) above) e
  ]
