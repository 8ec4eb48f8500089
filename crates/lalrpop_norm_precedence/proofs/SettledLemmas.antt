-- In the grammar with levels nothing is left to resolve.
use Rattle.std.proofs.Common.{◌≡◌, inl, inr, ℕ, List, [], ◌∷◌, ◌++◌, Option, Some, None, Bool, true, false, map, refl, sym, ap, ap₂, ◌∙◌, subst}
use Rattle.std.specs.Prelude.{flat_map}
use Rattle.std.proofs.lemmas.List.{map-append}
use Rattle.lalrpop_norm_tree.specs.Symbols.{Parts}
use Rattle.lalrpop_norm_tree.specs.Items.{AlternativeData, RuleData, ItemData, GrammarData, match_item, extern_item, intern_item, rule_item, use_item}
use Rattle.lalrpop_norm_theory.specs.Rounds.{In}
use Rattle.lalrpop_norm_theory.proofs.RoundsLemmas.{in_cases}
use Rattle.lalrpop_norm_model.specs.Enabled.{all_places, present}
use Rattle.lalrpop_norm_model.specs.Occurrences.{own_bound}
use Rattle.lalrpop_norm_model.specs.Scopes.{Global, globals, Sense, sense_of, resolved_parts, resolved_alternative, resolved_rule, resolved_item, resolved_grammar}
use Rattle.lalrpop_norm_model.specs.Levels.{Leveled, has_levels, leveled_at, with_levels, levels_of, previous_level}
use Rattle.lalrpop_norm_model.specs.LevelRules.{is_own, leveled_parts, level_nonterminal, level_of_rule, level_alternative, step_alternatives, of_level, level_rule, level_rules, level_items, leveled_grammar}
use Rattle.lalrpop_norm_model.proofs.LevelLemmas.{of_map, of_present}
use Rattle.lalrpop_norm_model.proofs.WrittenLemmas.{of_numbered}
use Rattle.lalrpop_norm_model.proofs.ReadingLemmas.{parts_kept}
use Rattle.lalrpop_norm_model.proofs.LevelGrammarLemmas.{of_level_in}
use Rattle.lalrpop_norm_model.proofs.InferenceLemmas.{none_made}
use Rattle.lalrpop_norm_resolve.specs.NameFaults.{condition_faults, parts_name_faults, alternative_name_faults, repeated_argument_faults, item_name_faults, repeated_faults, resolve_faults}
use Rattle.lalrpop_norm_faults.proofs.FaultLemmas.{right_none}
use Rattle.lalrpop_norm_precedence.proofs.LevelNameLemmas.{has_level_rules, no_level_rules}
use Rattle.lalrpop_norm_precedence.proofs.LevelFaultLemmas.{parts_settled}

-- ---- lists

pub map_same : {A : Type 0} (f : A → A) (xs : List A) → ((x : A) → In x xs → f x ≡ x) → map f xs ≡ xs
map_same f [] same = refl
map_same f (x ∷ xs) same = ap₂ ◌∷◌ (same x (inl refl)) (map_same f xs (λ y i. same y (inr i)))

-- what has a level is an alternative of the rule
pub leveled_from : (r : RuleData) (a : Leveled) → In (Some a) (with_levels (all_places r)) → In a.alternative r.alternatives
leveled_from r a h =
    let (k, p, i, e) = of_numbered (leveled_at (all_places r)) 0 (all_places r) (Some a) h in
    let (x, j, is) = of_map Some p r.alternatives i in
    by k x j (e ∙ ap (leveled_at (all_places r) k) is)
  where
    by : (k : ℕ) (x : AlternativeData) → In x r.alternatives → Some a ≡ leveled_at (all_places r) k (Some x) → In a.alternative r.alternatives
    by k x j e =
        let same : a.alternative ≡ x = ap alternative_in e in
        subst (λ (y : AlternativeData). In y r.alternatives) (sym same) j
      where
        alternative_in : Option Leveled → AlternativeData
        alternative_in None = x
        alternative_in (Some b) = b.alternative

-- ---- rules of levels

-- whatever names mean, nothing is left to resolve in the alternative, also with levels
abbrev pub IsSettled : AlternativeData → Type 0
IsSettled x = (t : List ℕ → Option Sense) (own : List ℕ → Bool) (level : ℕ → ℕ → List ℕ) → resolved_parts t (leveled_parts own (level_nonterminal level) 0 0 x.parts) ≡ leveled_parts own (level_nonterminal level) 0 0 x.parts

module _ (ds : List Global) where
  as_it_is : (r : RuleData) (x : AlternativeData) → resolved_parts (sense_of ds r.args) x.parts ≡ x.parts → resolved_alternative (sense_of ds r.args) x ≡ x
  as_it_is r x e = ap (λ ps. record x { parts = ps }) e

  rule_same : (r : RuleData) → ((x : AlternativeData) → In x r.alternatives → resolved_parts (sense_of ds r.args) x.parts ≡ x.parts) → resolved_rule ds r ≡ r
  rule_same r same = ap (λ xs. record r { alternatives = xs }) (map_same (resolved_alternative (sense_of ds r.args)) r.alternatives (λ x i. as_it_is r x (same x i)))

  module _ (r : RuleData) (settled : (x : AlternativeData) → In x r.alternatives → IsSettled x) where
    abbrev ps : List (Option Leveled)
    ps = with_levels (all_places r)

    unleveled_same : (x : AlternativeData) → In x r.alternatives → resolved_parts (sense_of ds r.args) x.parts ≡ x.parts
    unleveled_same x i =
        let kept = parts_kept (λ n. false) (λ b a. r.name.0) (λ n b a e. absurd (cc e)) 0 0 x.parts in
        subst (λ (qs : Parts). resolved_parts (sense_of ds r.args) qs ≡ qs) kept (settled x i (sense_of ds r.args) (λ n. false) (λ b a. r.name.0))

    step_same : (o : Option ℕ) (x : AlternativeData) → In x (step_alternatives r ps o) → resolved_parts (sense_of ds r.args) x.parts ≡ x.parts
    step_same None x h = absurd h
    step_same (Some m) x (inl e) = rw e refl
    step_same (Some m) x (inr h) = absurd h

    level_same : (l : ℕ) (x : AlternativeData) → In x (level_rule r ps l).alternatives → resolved_parts (sense_of ds r.args) x.parts ≡ x.parts
    level_same l x h =
        elim (in_cases x (map (level_alternative r ps) (of_level l (present ps))) (step_alternatives r ps (previous_level ps l)) h) [
          | inl i ↦ (let (a, k, e) = of_map (level_alternative r ps) x (of_level l (present ps)) i in
              let there = leveled_from r a (of_present a ps (of_level_in l (present ps) a k)) in
              rw e (settled a.alternative there (sense_of ds r.args) (is_own r) (λ b c. level_of_rule r ps (own_bound a.side a.level (previous_level ps a.level) b c))))
          | inr i ↦ step_same (previous_level ps l) x i
        ]

    each_same : (b : Bool) → has_levels (all_places r) ≡ b → (e : RuleData) → In e (level_rules r) → resolved_rule ds e ≡ e
    each_same true h e i =
        let (l, j, is) = of_map (level_rule r ps) e (levels_of ps) (subst (λ (rs : List RuleData). In e rs) (has_level_rules r h) i) in
        rw is (rule_same (level_rule r ps l) (level_same l))
    each_same false h e i =
        elim (subst (λ (rs : List RuleData). In e rs) (no_level_rules r h) i) [
          | inl is ↦ rw is (rule_same r unleveled_same)
          | inr none ↦ absurd none
        ]

    pub rules_same : map (resolved_item ds) (map rule_item (level_rules r)) ≡ map rule_item (level_rules r)
    rules_same =
        map_same (resolved_item ds) (map rule_item (level_rules r))
        (λ z i. let (e, j, is) = of_map rule_item z (level_rules r) i in rw is (ap rule_item (each_same (has_levels (all_places r)) refl e j)))

  -- ---- items

  abbrev AllSettled : List ItemData → Type 0
  AllSettled is = (r : RuleData) → In (rule_item r) is → (x : AlternativeData) → In x r.alternatives → IsSettled x

  item_same : (i : ItemData) (is : List ItemData) → AllSettled (i ∷ is) → map (resolved_item ds) (level_items i) ≡ level_items i
  item_same (rule_item r) is h = rules_same r (h r (inl refl))
  item_same (match_item m) is h = refl
  item_same (extern_item t) is h = refl
  item_same (intern_item t) is h = refl
  item_same (use_item u) is h = refl

  pub items_same : (is : List ItemData) → AllSettled is → map (resolved_item ds) (flat_map level_items is) ≡ flat_map level_items is
  items_same [] h = refl
  items_same (i ∷ is) h =
      map-append (resolved_item ds) (level_items i) (flat_map level_items is)
      ∙ ap₂ ◌++◌ (item_same i is h) (items_same is (λ r j. h r (inr j)))

-- ---- the grammar

module _ (g : GrammarData) (none : resolve_faults g ≡ []) where
  abbrev names : List Global
  names = globals g

  pub rule_none : (i : ItemData) → In i g.items → item_name_faults names i ≡ []
  rule_none i j = none_made (item_name_faults names) g.items (right_none (repeated_faults [] names) (flat_map (item_name_faults names) g.items) none) i j

  alternative_none : (r : RuleData) → In (rule_item r) g.items → (x : AlternativeData) → In x r.alternatives → parts_name_faults (sense_of names r.args) x.parts ≡ []
  unfolding alternative_name_faults
  alternative_none r j x k =
      let s = sense_of names r.args in
      right_none (condition_faults s x.condition) (parts_name_faults s x.parts)
      (none_made (alternative_name_faults s) r.alternatives (right_none (repeated_argument_faults r.span r.args) (flat_map (alternative_name_faults s) r.alternatives) (rule_none (rule_item r) j)) x k)

  settled_rule : (i : ItemData) → In i g.items → (r : RuleData) → rule_item r ≡ resolved_item names i → (x : AlternativeData) → In x r.alternatives → IsSettled x
  settled_rule (rule_item d) j r e x k =
      let same : r ≡ resolved_rule names d = ap rule_in e in
      let (y, m, is) = of_map (resolved_alternative (sense_of names d.args)) x d.alternatives (subst (λ (q : RuleData). In x q.alternatives) same k) in
      subst IsSettled (sym is) (λ t own level. parts_settled (sense_of names d.args) t own level 0 0 y.parts (alternative_none d j y m))
    where
      rule_in : ItemData → RuleData
      rule_in (rule_item q) = q
      rule_in _ = r
  settled_rule (match_item m) j r e x k = absurd (cc e)
  settled_rule (extern_item t) j r e x k = absurd (cc e)
  settled_rule (intern_item t) j r e x k = absurd (cc e)
  settled_rule (use_item u) j r e x k = absurd (cc e)

  pub levels_settled : resolved_grammar (leveled_grammar (resolved_grammar g)) ≡ leveled_grammar (resolved_grammar g)
  levels_settled =
      let h = resolved_grammar g in
      ap (λ is. record (leveled_grammar h) { items = is })
      (items_same (globals (leveled_grammar h)) h.items
      (λ r j. let (i, k, e) = of_map (resolved_item names) (rule_item r) g.items j in settled_rule i k r e))
