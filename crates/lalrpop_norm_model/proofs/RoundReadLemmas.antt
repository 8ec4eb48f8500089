-- The rounds of written symbols, compared up to spans, are the rounds of ground symbols.
use Rattle.std.proofs.Common.{◌≡◌, ◌↔◌, inl, inr, ℕ, zero, suc, List, [], ◌∷◌, ◌++◌, Bool, true, map, reverse, refl, sym, ap, ap₂, ◌∙◌, subst}
use Rattle.std.specs.Prelude.{flat_map}
use Rattle.std.proofs.lemmas.List.{map-append}
use Rattle.lalrpop_norm_tree.specs.Symbols.{Part}
use Rattle.lalrpop_norm_tree.specs.Items.{AlternativeData, RuleData, GrammarData}
use Rattle.lalrpop_norm_theory.specs.Symbols.{ClosedSymbol}
use Rattle.lalrpop_norm_theory.specs.Rounds.{In, fresh_of, Round, rounds, all_rules_made}
use Rattle.lalrpop_norm_theory.specs.Same.{same_symbol}
use Rattle.lalrpop_norm_theory.specs.Met.{rule_meets, expansion, expanded_symbols}
use Rattle.lalrpop_norm_theory.proofs.RoundsLemmas.{in_cases, of_reverse, of_flat, fresh_listed}
use Rattle.lalrpop_norm_theory.proofs.ViewedLemmas.{same_view, fresh_viewed}
use Rattle.lalrpop_norm_theory.proofs.ListLemmas.{map_reverse}
use Rattle.lalrpop_norm_model.specs.WrittenRules.{WrittenRule, flat_rules}
use Rattle.lalrpop_norm_model.specs.Grammars.{ConditionValue, meaning, references}
use Rattle.lalrpop_norm_model.specs.Scoped.{are_scoped, IsScoped}
use Rattle.lalrpop_norm_model.specs.MadeRules.{made_rules}
use Rattle.lalrpop_norm_model.specs.PlainRules.{met_in_rule, met_by_made, all_rules, rules_without_arguments, macros_of, expansion_round, made_symbols}
use Rattle.lalrpop_norm_model.specs.PlainTables.{IsSettled, closed}
use Rattle.lalrpop_norm_model.specs.Laws.{RoundsAreRead, MadeSymbolsAreScoped}
use Rattle.lalrpop_norm_model.proofs.MadeReadLemmas.{flat_of, flat_rules_resolved}
use Rattle.lalrpop_norm_model.proofs.MadeScopeLemmas.{IsMade, start_made, made_rule_scoped, next_made, scoped_in}
use Rattle.lalrpop_norm_model.proofs.MetReadLemmas.{met_is_read}

-- Rounds of things that stay within P, where each thing within P reaches, seen through the view, what its view reaches.
module _ {A B : Type 0} (view : A → B) (same : B → B → Bool) (meets : A → List A) (view_meets : B → List B) (P : A → Type 0)
    (agree : (a : A) → P a → map view (meets a) ≡ view_meets (view a)) (within : (a : A) → P a → (b : A) → In b (meets a) → P b)
    (start : List A) (begins : (a : A) → In a start → P a) where
  abbrev round : ℕ → Round A
  round k = rounds (same_view view same) meets start k

  met_viewed : (xs : List A) → ((x : A) → In x xs → P x) → map view (flat_map meets xs) ≡ flat_map view_meets (map view xs)
  met_viewed [] h = refl
  met_viewed (x ∷ xs) h = map-append view (meets x) (flat_map meets xs) ∙ ap₂ ◌++◌ (agree x (h x (inl refl))) (met_viewed xs (λ y i. h y (inr i)))

  pub fresh_within : (k : ℕ) (x : A) → In x (round k).fresh → P x
  fresh_within zero x i = begins x (fresh_listed (same_view view same) [] start x i)
  fresh_within (suc k) x i =
      let r : Round A = round k in
      let (y, there, j) = of_flat meets x (reverse r.fresh) (fresh_listed (same_view view same) (r.seen ++ r.fresh) (flat_map meets (reverse r.fresh)) x i) in
      within y (fresh_within k y (of_reverse y r.fresh there)) x j

  pub rounds_viewed : (k : ℕ) →
      (map view (round k).seen ≡ (rounds same view_meets (map view start) k).seen)
      × (map view (round k).fresh ≡ (rounds same view_meets (map view start) k).fresh)
  rounds_viewed zero = (refl, fresh_viewed view same [] start)
  rounds_viewed (suc k) =
      let r : Round A = round k in
      let (seen, fresh) = rounds_viewed k in
      let all = map-append view r.seen r.fresh ∙ ap₂ ◌++◌ seen fresh in
      let met =
      met_viewed (reverse r.fresh) (λ x i. fresh_within k x (of_reverse x r.fresh i))
      ∙ ap (flat_map view_meets) (map_reverse view r.fresh ∙ ap reverse fresh) in
      (all, fresh_viewed view same (r.seen ++ r.fresh) (flat_map meets (reverse r.fresh)) ∙ ap₂ (λ s m. fresh_of same s m) all met)

  pub made_viewed : (n : ℕ) → map view (all_rules_made (same_view view same) meets start n) ≡ all_rules_made same view_meets (map view start) n
  made_viewed zero = refl
  made_viewed (suc n) =
      map-append view (all_rules_made (same_view view same) meets start n) (reverse (round n).fresh)
      ∙ ap₂ ◌++◌ (made_viewed n) (map_reverse view (round n).fresh ∙ ap reverse (rounds_viewed n).1)

  pub made_within : (n : ℕ) (x : A) → In x (all_rules_made (same_view view same) meets start n) → P x
  made_within zero x i = absurd i
  made_within (suc n) x i = elim (in_cases x (all_rules_made (same_view view same) meets start n) _ i) [
    | inl j ↦ made_within n x j
    | inr j ↦ fresh_within n x (of_reverse x (round n).fresh j)
  ]

none_viewed : {A B : Type 0} (view : A → B) (xs : List A) (ys : List B) → map view xs ≡ ys → (xs ≡ []) ↔ (ys ≡ [])
none_viewed view [] ys e = (λ h. sym e, λ h. refl)
none_viewed view (x ∷ xs) ys e = (λ h. absurd (cc h), λ h. absurd (cc (e, h)))

module _ (value : ConditionValue) (g : GrammarData) (S : IsSettled g) where
  same_rules : flat_rules g ≡ map flat_of (all_rules g)
  same_rules = flat_rules_resolved g S.resolved

  begins : (p : Part) → In p (flat_map met_in_rule (rules_without_arguments g)) → IsMade (flat_rules g) p
  begins p i = subst (λ (rs : List WrittenRule). IsMade rs p) (sym same_rules) (start_made value (all_rules g) (subst IsScoped same_rules S.scoped) p i)

  within : (p : Part) → IsMade (flat_rules g) p → (q : Part) → In q (met_by_made value (macros_of g) p) → IsMade (flat_rules g) q
  within p h q i =
      subst (λ (rs : List WrittenRule). IsMade rs q) (sym same_rules)
      (next_made value (all_rules g) (subst IsScoped same_rules S.scoped) p (subst (λ (rs : List WrittenRule). IsMade rs p) same_rules h) q i)

  abbrev meets_read : ClosedSymbol → List ClosedSymbol
  meets_read = rule_meets (meaning value (flat_rules g))

  agree : (p : Part) → IsMade (flat_rules g) p → map closed (met_by_made value (macros_of g) p) ≡ meets_read (closed p)
  agree p h = (met_is_read value g S).2 p h.0 h.1

  start_read : map closed (flat_map met_in_rule (rules_without_arguments g)) ≡ flat_map meets_read (references (flat_rules g))
  start_read = (met_is_read value g S).1

  rounds_read : (k : ℕ) →
      (map closed (expansion_round value g k).seen ≡ (expansion (meaning value (flat_rules g)) (references (flat_rules g)) k).seen)
      × (map closed (expansion_round value g k).fresh ≡ (expansion (meaning value (flat_rules g)) (references (flat_rules g)) k).fresh)
  rounds_read k =
      let r = rounds_viewed closed same_symbol (met_by_made value (macros_of g)) meets_read (IsMade (flat_rules g)) agree within
      (flat_map met_in_rule (rules_without_arguments g)) begins k in (
        r.0 ∙ ap (λ start. (rounds same_symbol meets_read start k).seen) start_read,
        r.1 ∙ ap (λ start. (rounds same_symbol meets_read start k).fresh) start_read,
      )

  made_read : (n : ℕ) → map closed (made_symbols value g n) ≡ expanded_symbols (meaning value (flat_rules g)) (references (flat_rules g)) n
  made_read n =
      made_viewed closed same_symbol (met_by_made value (macros_of g)) meets_read (IsMade (flat_rules g)) agree within
      (flat_map met_in_rule (rules_without_arguments g)) begins n
      ∙ ap (λ start. all_rules_made same_symbol meets_read start n) start_read

  pub made_scoped : (n : ℕ) (p : Part) → In p (made_symbols value g n) → IsMade (flat_rules g) p
  made_scoped n p i =
      made_within closed same_symbol (met_by_made value (macros_of g)) meets_read (IsMade (flat_rules g)) agree within
      (flat_map met_in_rule (rules_without_arguments g)) begins n p i

  -- and the names in the alternatives of its rule have a meaning too
  pub made_rules_scoped : (n : ℕ) (p : Part) → In p (made_symbols value g n) → (r : RuleData) → In r (made_rules value (macros_of g) p) →
      (a : AlternativeData) → In a r.alternatives → are_scoped (flat_rules g) [] a.parts ≡ true
  made_rules_scoped n p i r j a k =
      subst (λ (rs : List WrittenRule). are_scoped rs [] a.parts ≡ true) (sym same_rules)
      (scoped_in (map flat_of (all_rules g)) r.alternatives
      (made_rule_scoped value (all_rules g) (subst IsScoped same_rules S.scoped) p (subst (λ (rs : List WrittenRule). IsMade rs p) same_rules (made_scoped n p i)) r j) a k)

pub rounds_are_read : RoundsAreRead
rounds_are_read value g S n = (
  made_read value g S n,
  (rounds_read value g S n).0,
  (rounds_read value g S n).1,
  none_viewed closed (expansion_round value g n).fresh _ (rounds_read value g S n).1,
)

pub made_symbols_are_scoped : MadeSymbolsAreScoped
made_symbols_are_scoped value g S n p i = made_scoped value g S n p i
