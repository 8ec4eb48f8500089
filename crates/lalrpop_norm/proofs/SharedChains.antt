-- F37 by what is reached: which symbols that chains of rules reach share their names.
use Rattle.std.proofs.Common.{◌≡◌, ◌≤◌, ◌<◌, inl, inr, ℕ, zero, suc, arith, Some, List, [], ◌∷◌, ◌++◌, map, refl, sym, ap, subst, ◌∙◌}
use Rattle.std.specs.Prelude.{◌↔◌, ◌⊎◌, flat_map}
use Rattle.lalrpop_norm_tree_names.specs.declared.names.Span.{Span}
use Rattle.lalrpop_norm_tree.specs.Symbols.{Part, at}
use Rattle.lalrpop_norm_tree.specs.SymbolTexts.{part_text}
use Rattle.lalrpop_norm_tree.specs.Items.{GrammarData}
use Rattle.lalrpop_norm_faults.specs.Faults.{first}
use Rattle.lalrpop_norm_theory.specs.Symbols.{ClosedSymbol, Name}
use Rattle.lalrpop_norm_theory.specs.Same.{same_symbol}
use Rattle.lalrpop_norm_theory.specs.Meaning.{Meaning}
use Rattle.lalrpop_norm_theory.specs.Met.{rule_meets, expansion}
use Rattle.lalrpop_norm_theory.specs.Rounds.{In, Chain, rules_made, fresh_of}
use Rattle.lalrpop_norm_theory.proofs.RoundsLemmas.{After, in_left, in_right, in_cases, of_reverse, of_flat, after_rounds, fresh_listed}
use Rattle.lalrpop_norm_theory.proofs.SameLemmas.{symbol_test}
use Rattle.lalrpop_norm_model.specs.Expanded.{rule_names}
use Rattle.lalrpop_norm_model.specs.Grammars.{ConditionValue}
use Rattle.lalrpop_norm_model.specs.WrittenRules.{flat_rules}
use Rattle.lalrpop_norm_model.specs.ClosedTexts.{text_in}
use Rattle.lalrpop_norm_model.specs.PlainRules.{met_in_rule, met_by_made, rules_without_arguments, macros_of, same_apart_from_spans, expansion_round, made_symbols}
use Rattle.lalrpop_norm_model.specs.PlainTables.{IsSettled, closed, flat_meaning, declared}
use Rattle.lalrpop_norm_model.specs.Scopes.{resolved_grammar}
use Rattle.lalrpop_norm_model.proofs.LevelLemmas.{in_map, of_map}
use Rattle.lalrpop_norm_model.proofs.MetReadLemmas.{met_is_read}
use Rattle.lalrpop_norm_model.proofs.RoundReadLemmas.{rounds_are_read, made_symbols_are_scoped}
use Rattle.lalrpop_norm_model.proofs.TextLemmas.{texts_in_grammars}
use Rattle.lalrpop_norm_resolve.specs.NameFaults.{resolve_faults}
use Rattle.lalrpop_norm_macro_expand.specs.Expansion.{meetings, met_before, expansion_faults, macro_faults}
use Rattle.lalrpop_norm.proofs.OneRuleLemmas.{resolved_settled}
use Rattle.lalrpop_norm.specs.Laws.{SharesName, SharesNameAt, IsMetWithin, HasSharedName, EndsAtShared, SharedNamesStandExactly}
use Rattle.lalrpop_norm.proofs.SharedSymbols.{shared_at, declared_stands, differing_stand}
use Rattle.lalrpop_norm.proofs.SharedLemmas.{equal_or_less, all_shared, of_all, stands_at, first_from, told_from}

-- ---- what is reached, by chains of rules

module _ (value : ConditionValue) (g : GrammarData) (S : IsSettled g) where
  abbrev M : Meaning
  M = flat_meaning value g

  abbrev start : List ClosedSymbol
  start = flat_map (rule_meets M) (declared g)

  news : (k : ℕ) → map closed (expansion_round value g k).fresh ≡ (expansion M (declared g) k).fresh
  news k = (rounds_are_read value g S k).2

  known : (k : ℕ) → After (rule_meets M) start k (expansion M (declared g) k)
  known k = after_rounds same_symbol symbol_test (rule_meets M) start k

  -- what a round reaches has a chain of its length
  chain_of : (k : ℕ) (p : Part) → In p (meetings value g k) → Chain (rule_meets M) start k (closed p)
  chain_of zero p i =
      subst (λ (xs : List ClosedSymbol). In (closed p) xs) (met_is_read value g S).1
      (in_map closed p (flat_map met_in_rule (rules_without_arguments g)) i)
  chain_of (suc k) p i =
      let r = of_flat (met_by_made value (macros_of g)) p (rules_made (expansion_round value g k)) i in
      let q = r.0 in
      let made = made_symbols_are_scoped value g S (suc k) q (in_right q (made_symbols value g k) (rules_made (expansion_round value g k)) r.1) in
      let new = subst (λ (xs : List ClosedSymbol). In (closed q) xs) (news k)
      (in_map closed q (expansion_round value g k).fresh (of_reverse q (expansion_round value g k).fresh r.1)) in (
        closed q,
        (known k).fresh_chain (closed q) new,
        subst (λ (xs : List ClosedSymbol). In (closed p) xs) ((met_is_read value g S).2 q made.0 made.1)
            (in_map closed p (met_by_made value (macros_of g) q) r.2),
      )

  fresh_is : (k : ℕ) → (expansion_round value g k).fresh ≡ fresh_of same_apart_from_spans (expansion_round value g k).seen (meetings value g k)
  fresh_is zero = refl
  fresh_is (suc k) = refl

  -- what has a chain is new in a round that is no later
  new_in : (n k : ℕ) (x : ClosedSymbol) → k < n → Chain (rule_meets M) start k x → (j : ℕ) × (j ≤ k) × In x (expansion M (declared g) j).fresh
  new_in zero k x low c = absurd (omega (arith, low))
  new_in (suc n) k x low c =
      elim (in_cases x (expansion M (declared g) k).seen (expansion M (declared g) k).fresh ((known k).all_found x k (omega arith) c)) [
        | inl old ↦
            let (j, less, d) = (known k).seen_chain x old in
            let r = new_in n j x (omega (arith, less, low)) d in
            (r.0, omega (arith, r.1, less), r.2)
        | inr new ↦ (k, omega arith, new)
      ]

  met_later : (n k : ℕ) (p : Part) → k < n → In p (meetings value g k) → In p (met_before value g n)
  met_later zero k p low i = absurd (omega (arith, low))
  met_later (suc n) k p low i = elim (equal_or_less k n low) [
    | inl same ↦ in_right p (met_before value g n) (meetings value g n) (subst (λ (m : ℕ). In p (meetings value g m)) same i)
    | inr less ↦ in_left p (met_before value g n) (meetings value g n) (met_later n k p less i)
  ]

  met_in : (n : ℕ) (p : Part) → In p (met_before value g n) → (k : ℕ) × (k < n) × In p (meetings value g k)
  met_in zero p i = absurd i
  met_in (suc n) p i = elim (in_cases p (met_before value g n) (meetings value g n) i) [
    | inl before ↦ let r = met_in n p before in (r.0, omega (arith, r.1), r.2)
    | inr here ↦ (n, omega arith, here)
  ]

  is_met : (limit : ℕ) (p : Part) → In p (met_before value g (suc limit)) → IsMetWithin value g limit (closed p)
  is_met limit p i = let r = met_in (suc limit) p i in (r.0, omega (arith, r.1), chain_of r.0 p r.2)

  was_met : (limit : ℕ) (x : ClosedSymbol) → IsMetWithin value g limit x → (p : Part) × In p (met_before value g (suc limit)) × (x ≡ closed p)
  was_met limit x h =
      let r = new_in (suc h.0) h.0 x (omega arith) h.2 in
      let p = of_map closed x (expansion_round value g r.0).fresh (subst (λ (xs : List ClosedSymbol). In x xs) (sym (news r.0)) r.2) in (
        p.0,
        met_later (suc limit) r.0 p.0 (omega (arith, r.1, h.1))
            (fresh_listed same_apart_from_spans (expansion_round value g r.0).seen (meetings value g r.0) p.0
            (subst (λ (ps : List Part). In p.0 ps) (fresh_is r.0) p.1)),
        p.2,
      )

  text_of : (p : Part) → text_in (flat_rules g) (closed p) ≡ part_text p
  text_of (at s k) = texts_in_grammars (flat_rules g) k

  shared_of : (limit : ℕ) (t : Span) → SharesNameAt value g limit t → HasSharedName value g limit
  shared_of limit t h = (
    closed h.symbol,
    is_met limit h.symbol (met_of h.symbol (in_right h.symbol h.before (h.symbol ∷ h.later) (inl refl))),
    by h.shared,
  )
    where
      met_of : (p : Part) → In p (h.before ++ h.symbol ∷ h.later) → In p (met_before value g (suc limit))
      met_of p i = subst (λ (ps : List Part). In p ps) (sym h.met) i

      by : SharesName (rule_names g) h.before h.symbol →
          In (text_in (flat_rules g) (closed h.symbol)) (rule_names g)
          ⊎ ((y : ClosedSymbol) × IsMetWithin value g limit y × (text_in (flat_rules g) y ≡ text_in (flat_rules g) (closed h.symbol)) × (y ≡ closed h.symbol → ⊥))
      by (inl i) = inl (subst (λ (n : Name). In n (rule_names g)) (sym (text_of h.symbol)) i)
      by (inr r) = inr (
        closed r.0,
        is_met limit r.0 (met_of r.0 (in_left r.0 h.before (h.symbol ∷ h.later) r.1)),
        text_of r.0 ∙ r.2 ∙ sym (text_of h.symbol),
        r.3,
      )

  shared_stands : (limit : ℕ) → HasSharedName value g limit → (t : Span) × In (shared_at t) (expansion_faults value g limit)
  shared_stands limit h = by h.2
    where
      p : (p : Part) × In p (met_before value g (suc limit)) × (h.0 ≡ closed p)
      p = was_met limit h.0 h.1

      all : ((t : Span) × In (shared_at t) (all_shared value g (suc limit))) → (t : Span) × In (shared_at t) (expansion_faults value g limit)
      all r = (r.0, of_all value g limit r.0 r.1)

      text_is : text_in (flat_rules g) h.0 ≡ part_text p.0
      text_is = ap (text_in (flat_rules g)) p.2 ∙ text_of p.0

      by : In (text_in (flat_rules g) h.0) (rule_names g)
          ⊎ ((y : ClosedSymbol) × IsMetWithin value g limit y × (text_in (flat_rules g) y ≡ text_in (flat_rules g) h.0) × (y ≡ h.0 → ⊥)) →
          (t : Span) × In (shared_at t) (expansion_faults value g limit)
      by (inl i) =
          all (declared_stands (rule_names g) [] (met_before value g (suc limit)) p.0 p.1 (subst (λ (n : Name). In n (rule_names g)) text_is i))
      by (inr r) =
          let q = was_met limit r.0 r.1 in
          all (differing_stand (rule_names g) [] (met_before value g (suc limit)) p.0 q.0 p.1 q.1 (
            sym (text_of q.0) ∙ ap (text_in (flat_rules g)) (sym q.2) ∙ r.2 ∙ text_is,
            λ e. r.3 (q.2 ∙ e ∙ sym p.2),
          ))

  stands_shared : (limit : ℕ) → ((t : Span) × In (shared_at t) (expansion_faults value g limit)) ↔ HasSharedName value g limit
  stands_shared limit = ((λ i. shared_of limit i.0 ((stands_at value g limit i.0).0 i.1)), shared_stands limit)

-- ---- after names

named_shared : (value : ConditionValue) (g : GrammarData) (limit : ℕ) → resolve_faults g ≡ [] →
    (((s : Span) × In (shared_at s) (macro_faults value g limit)) ↔ HasSharedName value (resolved_grammar g) limit)
    × ((s : Span) → (first (macro_faults value g limit) ≡ Some (shared_at s)) ↔ EndsAtShared value (resolved_grammar g) limit s)
named_shared value g limit unfaulted = (stands, ends)
  where
    h : GrammarData
    h = resolved_grammar g

    same : macro_faults value g limit ≡ expansion_faults value h limit
    same = ap (λ fs. fs ++ expansion_faults value h limit) unfaulted

    here : ((s : Span) × In (shared_at s) (expansion_faults value h limit)) ↔ HasSharedName value h limit
    here = stands_shared value h (resolved_settled g unfaulted) limit

    stands : ((s : Span) × In (shared_at s) (macro_faults value g limit)) ↔ HasSharedName value h limit
    stands = (
      (λ i. here.0 (i.0, subst (λ fs. In (shared_at i.0) fs) same i.1)),
      (λ x. let i = here.1 x in (i.0, subst (λ fs. In (shared_at i.0) fs) (sym same) i.1)),
    )

    ends : (s : Span) → (first (macro_faults value g limit) ≡ Some (shared_at s)) ↔ EndsAtShared value h limit s
    ends s = (there, back)
      where
        there : first (macro_faults value g limit) ≡ Some (shared_at s) → EndsAtShared value h limit s
        there e =
            let f = first_from value h 0 limit s (ap first (sym same) ∙ e) in
            record {
              round = f.round;
              within = omega (arith, f.high);
              made = λ k below. f.made k (omega arith) below;
              told = f.told;
            }

        back : EndsAtShared value h limit s → first (macro_faults value g limit) ≡ Some (shared_at s)
        back b =
            ap first same
            ∙ told_from value h 0 limit b.round s (omega arith) (omega (arith, b.within)) (λ j low high. b.made j high) b.told

-- shared names
pub shared_names_stand : SharedNamesStandExactly
shared_names_stand value g limit = (
  (λ s. stands_at value g limit s),
  (λ S. stands_shared value g S limit),
  (λ unfaulted. named_shared value g limit unfaulted),
)
