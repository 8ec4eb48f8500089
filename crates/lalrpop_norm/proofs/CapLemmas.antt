-- F36 in the list of faults.
use Rattle.std.proofs.Common.{Some, ◌≡◌, ◌≤◌, ◌<◌, inl, inr, ℕ, zero, suc, ◌+◌, arith, List, [], ◌∷◌, ◌++◌, map, refl, sym, ap, subst, ◌∙◌}
use Rattle.std.specs.Prelude.{◌||◌, ◌↔◌, ◌⊎◌, flat_map}
use Rattle.std.specs.List.{range_with_len}
use Rattle.std.proofs.lemmas.List.{append_assoc}
use Rattle.lalrpop_norm_tree_names.specs.declared.names.Span.{Span}
use Rattle.lalrpop_norm_tree.specs.Symbols.{Part, at}
use Rattle.lalrpop_norm_tree.specs.SymbolTexts.{part_text}
use Rattle.lalrpop_norm_tree.specs.Items.{RuleData, GrammarData}
use Rattle.lalrpop_norm_faults.specs.declared.kind.FaultKind.TheVariants.{RecursionCap, SharedName, ConditionArgument, ConditionPattern, NamedInGroup, NamedInTimes}
use Rattle.lalrpop_norm_faults.specs.Faults.{Fault, fault_if, first}
use Rattle.lalrpop_norm_theory.specs.Laws.{RoundsAreShortestChains}
use Rattle.lalrpop_norm_theory.specs.Met.{rule_meets, expansion}
use Rattle.lalrpop_norm_theory.specs.Rounds.{In, NewIn, rules_made}
use Rattle.lalrpop_norm_theory.specs.Symbols.{ClosedSymbol}
use Rattle.lalrpop_norm_theory.specs.Meaning.{Meaning}
use Rattle.lalrpop_norm_theory.proofs.RoundsLemmas.{in_right, in_cases}
use Rattle.lalrpop_norm_model.proofs.LevelLemmas.{in_map, of_map}
use Rattle.lalrpop_norm_model.specs.Expanded.{rule_names}
use Rattle.lalrpop_norm_model.specs.Grammars.{ConditionValue}
use Rattle.lalrpop_norm_model.specs.Laws.{RoundsAreRead}
use Rattle.lalrpop_norm_model.specs.MadeRules.{span_of}
use Rattle.lalrpop_norm_model.specs.PlainRules.{macros_of, expansion_round}
use Rattle.lalrpop_norm_model.specs.PlainTables.{IsSettled, closed, flat_meaning, declared}
use Rattle.lalrpop_norm_model.specs.Scopes.{resolved_grammar}
use Rattle.lalrpop_norm_resolve.specs.NameFaults.{resolve_faults}
use Rattle.lalrpop_norm.proofs.OneRuleLemmas.{resolved_settled}
use Rattle.lalrpop_norm.proofs.UnmadeLemmas.{not_if, none_made}
use Rattle.lalrpop_norm_macro_expand.specs.Expansion.{met_before, meetings, has_other, shared_names, shared_in, unmade, unmade_in, past_cap, faults_from, expansion_faults, macro_faults}
use Rattle.lalrpop_norm_macro_expand_rules.specs.Names.{is_declared_name}
use Rattle.lalrpop_norm.specs.Laws.{CapIsExact, EndsPastLimit, FaultsAreByRound, IsPastLimit}
use Rattle.lalrpop_norm_faults.proofs.FaultLemmas.{left_none, right_none, both_none}

-- ---- no other fault has the number of the cap

not_cap : (RecursionCap ≡ SharedName) → ⊥
not_cap e = absurd (cc e)

not_group : (RecursionCap ≡ NamedInGroup) → ⊥
not_group e = absurd (cc e)

not_argument : (RecursionCap ≡ ConditionArgument) → ⊥
not_argument e = absurd (cc e)

not_pattern : (RecursionCap ≡ ConditionPattern) → ⊥
not_pattern e = absurd (cc e)

not_times : (RecursionCap ≡ NamedInTimes) → ⊥
not_times e = absurd (cc e)

abbrev cap_at : Span → Fault
cap_at t = (RecursionCap, t)

not_shared : (names : List (List ℕ)) (met xs : List Part) (t : Span) → In (cap_at t) (shared_names names met xs) → ⊥
not_shared names met [] t i = i
not_shared names met (x ∷ xs) t i =
    elim (in_cases (cap_at t) (fault_if (is_declared_name names (part_text x) || has_other met x) (SharedName, span_of x)) (shared_names names (met ++ x ∷ []) xs) i) [
      | inl here ↦ not_if (is_declared_name names (part_text x) || has_other met x) (SharedName, span_of x) (cap_at t) (λ e. not_cap (ap (λ (f : Fault). f.0) e)) here
      | inr later ↦ not_shared names (met ++ x ∷ []) xs t later
    ]

none_unmade : (macros : List RuleData) (ps : List Part) (t : Span) → In (cap_at t) (flat_map (unmade macros) ps) → ⊥
none_unmade macros ps t i = none_made RecursionCap not_group not_argument not_pattern not_times macros ps t i

-- ---- the cap holds only at the last round

abbrev at_end : ℕ → ℕ → ℕ
at_end k zero = k
at_end k (suc left) = at_end (suc k) left

end_is : (k left : ℕ) → at_end k left ≡ k + left
end_is k zero = sym (omega arith)
end_is k (suc left) = end_is (suc k) left ∙ omega arith

module _ (value : ConditionValue) (g : GrammarData) where
  fresh_at : ℕ → List Part
  fresh_at n = (expansion_round value g n).fresh

  to_end : (k left : ℕ) (t : Span) → In (cap_at t) (faults_from value g k left) → In (cap_at t) (past_cap (expansion_round value g (at_end k left)).fresh)
  to_end k zero t i =
      elim (in_cases (cap_at t) (shared_in value g k) (past_cap (expansion_round value g k).fresh) i) [
        | inl here ↦ absurd (not_shared (rule_names g) (met_before value g k) (meetings value g k) t here)
        | inr cap ↦ cap
      ]
  to_end k (suc left) t i =
      elim (in_cases (cap_at t) (shared_in value g k) (unmade_in value g k ++ faults_from value g (suc k) left) i) [
        | inl here ↦ absurd (not_shared (rule_names g) (met_before value g k) (meetings value g k) t here)
        | inr more ↦ elim (in_cases (cap_at t) (unmade_in value g k) (faults_from value g (suc k) left) more) [
          | inl made ↦ absurd (none_unmade (macros_of g) (rules_made (expansion_round value g k)) t made)
          | inr later ↦ to_end (suc k) left t later
        ]
      ]

  from_end : (k left : ℕ) (t : Span) → In (cap_at t) (past_cap (expansion_round value g (at_end k left)).fresh) → In (cap_at t) (faults_from value g k left)
  from_end k zero t i = in_right (cap_at t) (shared_in value g k) (past_cap (expansion_round value g k).fresh) i
  from_end k (suc left) t i =
      in_right (cap_at t) (shared_in value g k) (unmade_in value g k ++ faults_from value g (suc k) left)
      (in_right (cap_at t) (unmade_in value g k) (faults_from value g (suc k) left) (from_end (suc k) left t i))

-- ---- round by round

module _ (value : ConditionValue) (g : GrammarData) (limit : ℕ) where
  abbrev of_round : ℕ → List Fault
  of_round k = shared_in value g k ++ unmade_in value g k

  abbrev past_limit : List Fault
  past_limit = shared_in value g limit ++ past_cap (expansion_round value g limit).fresh

  rounds_left : (k left : ℕ) → k + left ≡ limit → faults_from value g k left ≡ flat_map of_round (range_with_len k left) ++ past_limit
  rounds_left k zero e = let last : k ≡ limit = omega (e, arith) in ap (λ n. shared_in value g n ++ past_cap (expansion_round value g n).fresh) last
  rounds_left k (suc left) e =
      let next : k + 1 ≡ suc k = omega arith in
      let rest : faults_from value g (suc k) left ≡ flat_map of_round (range_with_len (k + 1) left) ++ past_limit =
      subst (λ (m : ℕ). faults_from value g (suc k) left ≡ flat_map of_round (range_with_len m left) ++ past_limit) (sym next)
      (rounds_left (suc k) left (omega (e, arith))) in
      ap (λ fs. shared_in value g k ++ (unmade_in value g k ++ fs)) rest
      ∙ sym (append_assoc (shared_in value g k) (unmade_in value g k) (flat_map of_round (range_with_len (k + 1) left) ++ past_limit))
      ∙ sym (append_assoc (of_round k) (flat_map of_round (range_with_len (k + 1) left)) past_limit)

pub faults_by_round : FaultsAreByRound
faults_by_round value g limit = rounds_left value g limit 0 limit (omega arith)

-- ---- where something is new

something_new : (xs : List Part) (t : Span) → In (cap_at t) (past_cap xs) → (x : Part) × In x xs
something_new [] t i = absurd i
something_new (x ∷ []) t i = (x, inl refl)
something_new (x ∷ y ∷ xs) t i = let r = something_new (y ∷ xs) t i in (r.0, inr r.1)

cap_stands : (xs : List Part) (x : Part) → In x xs → (t : Span) × In (cap_at t) (past_cap xs)
cap_stands [] x i = absurd i
cap_stands (x ∷ []) y i = (span_of x, inl refl)
cap_stands (x ∷ y ∷ xs) z i = cap_stands (y ∷ xs) y (inl refl)

-- F36 holds exactly where a chain past the limit is the shortest one to some symbol
stands_past : RoundsAreRead → RoundsAreShortestChains → (value : ConditionValue) (g : GrammarData) → IsSettled g → (limit : ℕ) →
    ((s : Span) × In (cap_at s) (expansion_faults value g limit)) ↔ ((x : ClosedSymbol) × IsPastLimit value g limit x)
stands_past read chains value g settled limit = (there, back)
  where
    M : Meaning
    M = flat_meaning value g

    news : map closed (expansion_round value g limit).fresh ≡ (expansion M (declared g) limit).fresh
    news = (read value g settled limit).2

    ends : at_end 0 limit ≡ limit
    ends = end_is 0 limit ∙ omega arith

    there : ((s : Span) × In (cap_at s) (expansion_faults value g limit)) → (x : ClosedSymbol) × NewIn (rule_meets M) (flat_map (rule_meets M) (declared g)) limit x
    there h =
        let cap = to_end value g 0 limit h.0 h.1 in
        let new = something_new (expansion_round value g limit).fresh h.0 (subst (λ n. In (cap_at h.0) (past_cap (expansion_round value g n).fresh)) ends cap) in
        let x = closed new.0 in
        (x, (chains M (declared g) limit x).0 (subst (λ xs. In x xs) news (in_map closed new.0 (expansion_round value g limit).fresh new.1)))

    back : ((x : ClosedSymbol) × NewIn (rule_meets M) (flat_map (rule_meets M) (declared g)) limit x) → (s : Span) × In (cap_at s) (expansion_faults value g limit)
    back h =
        let new = of_map closed h.0 (expansion_round value g limit).fresh (subst (λ xs. In h.0 xs) (sym news) ((chains M (declared g) limit h.0).1 h.1)) in
        let cap = cap_stands (expansion_round value g limit).fresh new.0 new.1 in
        (cap.0, from_end value g 0 limit cap.0 (subst (λ n. In (cap_at cap.0) (past_cap (expansion_round value g n).fresh)) (sym ends) cap.1))

-- ---- F36 as the first of all faults

head_behind : (xs ys : List Fault) (t : Span) (rest : List Fault) → (In (cap_at t) xs → ⊥) → xs ++ ys ≡ cap_at t ∷ rest → (xs ≡ []) × (ys ≡ cap_at t ∷ rest)
head_behind [] ys t rest none e = (refl, e)
head_behind (x ∷ xs) ys t rest none e = absurd (none (inl (cc e)))

past_one : (xs : List Part) (t : Span) (rest : List Fault) → past_cap xs ≡ cap_at t ∷ rest → past_cap xs ≡ cap_at t ∷ []
past_one [] t rest e = absurd (cc e)
past_one (x ∷ []) t rest e = ap (λ f. f ∷ []) (cc e)
past_one (x ∷ y ∷ xs) t rest e = past_one (y ∷ xs) t rest e

rest_of : (fs : List Fault) (t : Span) → first fs ≡ Some (cap_at t) → (rest : List Fault) × (fs ≡ cap_at t ∷ rest)
rest_of [] t e = absurd (cc e)
rest_of (f ∷ fs) t e = (fs, ap (λ x. x ∷ fs) (cc e))

module _ (value : ConditionValue) (g : GrammarData) where
  abbrev past_at : ℕ → List Fault
  past_at n = past_cap (expansion_round value g n).fresh

  first_from : (k left : ℕ) (t : Span) (rest : List Fault) → faults_from value g k left ≡ cap_at t ∷ rest
      → ((j : ℕ) → k ≤ j → j < k + left → shared_in value g j ++ unmade_in value g j ≡ []) × (shared_in value g (k + left) ≡ []) × (past_at (k + left) ≡ cap_at t ∷ rest)
  first_from k zero t rest e =
      let last : k ≡ k + 0 = omega arith in
      let h = head_behind (shared_in value g k) (past_at k) t rest (not_shared (rule_names g) (met_before value g k) (meetings value g k) t) e in
      ((λ j low high. absurd (omega (arith, low, high))), ap (shared_in value g) (sym last) ∙ h.0, ap past_at (sym last) ∙ h.1)
  first_from k (suc left) t rest e =
      let last : suc k + left ≡ k + suc left = omega arith in
      let one = head_behind (shared_in value g k) (unmade_in value g k ++ faults_from value g (suc k) left) t rest (not_shared (rule_names g) (met_before value g k) (meetings value g k) t) e in
      let two = head_behind (unmade_in value g k) (faults_from value g (suc k) left) t rest (none_unmade (macros_of g) (rules_made (expansion_round value g k)) t) one.1 in
      let more = first_from (suc k) left t rest two.1 in (
        (λ j low high. elim (at_or_later k j low) [
          | inl here ↦ subst (λ n. shared_in value g n ++ unmade_in value g n ≡ []) here (both_none (shared_in value g k) (unmade_in value g k) one.0 two.0)
          | inr later ↦ more.0 j later (omega (arith, high))
        ]),
        ap (shared_in value g) (sym last) ∙ more.1,
        ap past_at (sym last) ∙ more.2,
      )
    where
      at_or_later : (k j : ℕ) → k ≤ j → (k ≡ j) ⊎ (suc k ≤ j)
      at_or_later zero zero h = inl refl
      at_or_later zero (suc j) h = inr (omega arith)
      at_or_later (suc k) zero h = absurd (omega (arith, h))
      at_or_later (suc k) (suc j) h = elim (at_or_later k j (omega (arith, h))) [
        | inl same ↦ inl (ap suc same)
        | inr later ↦ inr (omega (arith, later))
      ]

  none_before : (k left : ℕ) → ((j : ℕ) → k ≤ j → j < k + left → shared_in value g j ++ unmade_in value g j ≡ []) → shared_in value g (k + left) ≡ []
      → faults_from value g k left ≡ past_at (k + left)
  none_before k zero h own =
      let last : k + 0 ≡ k = omega arith in
      ap (λ fs. fs ++ past_at k) (ap (shared_in value g) (sym last) ∙ own) ∙ ap past_at (sym last)
  none_before k (suc left) h own =
      let last : suc k + left ≡ k + suc left = omega arith in
      let here = h k (omega arith) (omega arith) in
      let more = none_before (suc k) left (λ j low high. h j (omega (arith, low)) (omega (arith, high))) (ap (shared_in value g) last ∙ own) in
      ap (λ fs. fs ++ (unmade_in value g k ++ faults_from value g (suc k) left)) (left_none (shared_in value g k) (unmade_in value g k) here)
      ∙ ap (λ fs. fs ++ faults_from value g (suc k) left) (right_none (shared_in value g k) (unmade_in value g k) here)
      ∙ more ∙ ap past_at last

named_cap : RoundsAreRead → RoundsAreShortestChains → (value : ConditionValue) (g : GrammarData) → resolve_faults g ≡ [] → (limit : ℕ) →
    (((s : Span) × In (cap_at s) (macro_faults value g limit)) ↔ ((x : ClosedSymbol) × IsPastLimit value (resolved_grammar g) limit x))
    × ((s : Span) → (first (macro_faults value g limit) ≡ Some (cap_at s)) ↔ EndsPastLimit value (resolved_grammar g) limit s)
named_cap read chains value g unfaulted limit = (stands, answered)
  where
    h : GrammarData
    h = resolved_grammar g

    same : macro_faults value g limit ≡ expansion_faults value h limit
    same = ap (λ fs. fs ++ expansion_faults value h limit) unfaulted

    past : ((s : Span) × In (cap_at s) (expansion_faults value h limit)) ↔ ((x : ClosedSymbol) × IsPastLimit value h limit x)
    past = stands_past read chains value h (resolved_settled g unfaulted) limit

    stands : ((s : Span) × In (cap_at s) (macro_faults value g limit)) ↔ ((x : ClosedSymbol) × IsPastLimit value h limit x)
    stands = (
      (λ i. past.0 (i.0, subst (λ fs. In (cap_at i.0) fs) same i.1)),
      (λ x. let i = past.1 x in (i.0, subst (λ fs. In (cap_at i.0) fs) (sym same) i.1)),
    )

    start : 0 + limit ≡ limit
    start = omega arith

    answered : (s : Span) → (first (macro_faults value g limit) ≡ Some (cap_at s)) ↔ EndsPastLimit value h limit s
    answered s = (there, back)
      where
        there : first (macro_faults value g limit) ≡ Some (cap_at s) → EndsPastLimit value h limit s
        there e =
            let r = rest_of (expansion_faults value h limit) s (ap first (sym same) ∙ e) in
            let f = first_from value h 0 limit s r.0 r.1 in
            record {
              made = λ k below. f.0 k (omega arith) (omega (arith, below));
              own = ap (shared_in value h) (sym start) ∙ f.1;
              last = past_one (expansion_round value h limit).fresh s r.0 (ap (past_at value h) (sym start) ∙ f.2);
              past = past.0 (s, subst (λ fs. In (cap_at s) fs) (sym r.1) (inl refl));
            }

        back : EndsPastLimit value h limit s → first (macro_faults value g limit) ≡ Some (cap_at s)
        back b =
            ap first (same ∙ none_before value h 0 limit (λ j low high. b.made j (omega (arith, high))) (ap (shared_in value h) start ∙ b.own) ∙ ap (past_at value h) start ∙ b.last)

-- the cap
pub cap_exact : RoundsAreRead → RoundsAreShortestChains → CapIsExact
cap_exact read chains value g limit = ((λ known. stands_past read chains value g known limit), (λ unfaulted. named_cap read chains value g unfaulted limit))
