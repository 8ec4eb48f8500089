-- Where the names that are made for levels are new, no name is defined twice in the grammar with levels.
use Rattle.std.proofs.Common.{◌≡◌, ◌≤◌, ◌+◌, ℕ, Bool, true, false, cond, List, [], ◌∷◌, ◌++◌, map, bytes_eq, refl, sym, ap, ap₂, ◌∙◌, subst, arith}
use Rattle.std.specs.Prelude.{flat_map, unwrap_or}
use Rattle.std.proofs.lemmas.List.{map-append}
use Rattle.lalrpop_norm_tree.specs.declared.items.NonterminalData.{NonterminalData}
use Rattle.lalrpop_norm_tree.specs.Items.{RuleData, ItemData, GrammarData, match_item, extern_item, intern_item, rule_item, use_item, rule_view}
use Rattle.lalrpop_norm_theory.specs.Rounds.{In}
use Rattle.lalrpop_norm_model.specs.Enabled.{all_places, present}
use Rattle.lalrpop_norm_model.specs.Scopes.{globals, rule_globals, conversion_globals, match_globals}
use Rattle.lalrpop_norm_model.specs.Levels.{Leveled, greatest, has_levels, with_levels, levels_of, highest_level}
use Rattle.lalrpop_norm_model.specs.ClosedTexts.{level_name}
use Rattle.lalrpop_norm_model.specs.Stated.{IsRising}
use Rattle.lalrpop_norm_model.specs.LevelRules.{level_rule, level_rules, level_items, leveled_grammar}
use Rattle.lalrpop_norm_model.proofs.LevelLemmas.{rising_rises}
use Rattle.lalrpop_norm_model.proofs.LevelRuleLemmas.{name_highest}
use Rattle.lalrpop_norm_resolve.specs.NameFaults.{repeated_faults}
use Rattle.lalrpop_norm_resolve.specs.NameTables.{all_rows}
use Rattle.lalrpop_norm_resolve.specs.NewNames.{are_new}
use Rattle.lalrpop_norm_resolve.proofs.NewNameLemmas.{times, times_more, name_of, same_name, none_repeated, all_once}
use Rattle.lalrpop_norm_precedence.specs.MadeNames.{rule_name, without_last, item_made_names, grammar_made_names}
use Rattle.lalrpop_norm_precedence.proofs.RuleLemmas.{greatest_last}
use Rattle.lalrpop_norm_precedence.proofs.LevelNameLemmas.{has_level_rules, no_level_rules, some_level, other_globals}

-- ---- lists

but_last : {A : Type 0} (xs : List A) (x : A) → without_last (xs ++ x ∷ []) ≡ xs
but_last [] x = refl
but_last (y ∷ []) x = refl
but_last (y ∷ z ∷ xs) x = ap (λ ys. y ∷ ys) (but_last (z ∷ xs) x)

pub without_last_view : (rs front : List NonterminalData) (r : NonterminalData) → rs ≡ front ++ r ∷ [] →
    without_last (map rule_view rs) ≡ map rule_view front
without_last_view rs front r e =
    ap (λ xs. without_last (map rule_view xs)) e ∙ ap without_last (map-append rule_view front (r ∷ [])) ∙ but_last (map rule_view front) (rule_view r)

abbrev Ends : {A : Type 0} → List A → Type 0
Ends {A} xs = (front : List A) × (x : A) × (xs ≡ front ++ x ∷ [])

ends : {A : Type 0} (x : A) (xs : List A) → Ends (x ∷ xs)
ends x [] = ([], x, refl)
ends x (y ∷ xs) = let (front, z, e) = ends y xs in (x ∷ front, z, ap (λ ys. x ∷ ys) e)

some_ends : {A : Type 0} (x : A) (xs : List A) → In x xs → Ends xs
some_ends x [] i = absurd i
some_ends x (y ∷ ys) i = ends y ys

times_map : {A : Type 0} (f : A → List ℕ) (q : List ℕ) (xs : List A) → times same_name q (map f xs) ≡ times f q xs
times_map f q [] = refl
times_map f q (x ∷ xs) = ap (λ k. cond (bytes_eq (f x) q) 1 0 + k) (times_map f q xs)

-- ---- the names of a rule with levels

module _ (q : List ℕ) where
  abbrev IsSplit : RuleData → Type 0
  IsSplit r = times rule_name q (level_rules r) ≡ times rule_name q (r ∷ []) + times same_name q (map rule_name (without_last (level_rules r)))

  level_names_at : (r : RuleData) (ls : List ℕ) (l : ℕ) → levels_of (with_levels (all_places r)) ≡ ls ++ l ∷ [] → has_levels (all_places r) ≡ true → IsSplit r
  level_names_at r ls l e h =
      let ps = with_levels (all_places r) in
      let rising : IsRising (ls ++ l ∷ []) = subst IsRising e (rising_rises (map (λ (a : Leveled). a.level) (present ps))) in
      let top : highest_level ps ≡ l = ap (λ o. unwrap_or o 0) (ap greatest e ∙ greatest_last ls l rising) in
      let last : rule_name (level_rule r ps l) ≡ r.name.0 = ap (λ m. level_name r.name.0 m l) top ∙ name_highest r.name.0 l in
      let rules : level_rules r ≡ map (level_rule r ps) ls ++ level_rule r ps l ∷ [] =
      has_level_rules r h ∙ ap (map (level_rule r ps)) e ∙ map-append (level_rule r ps) ls (l ∷ []) in
      let lower : without_last (level_rules r) ≡ map (level_rule r ps) ls = ap without_last rules ∙ but_last (map (level_rule r ps) ls) (level_rule r ps l) in
      let whole : times rule_name q (level_rules r) ≡ times rule_name q (map (level_rule r ps) ls) + (cond (bytes_eq r.name.0 q) 1 0 + 0) =
      ap (times rule_name q) rules ∙ times_more rule_name q (map (level_rule r ps) ls) (level_rule r ps l ∷ [])
      ∙ ap (λ n. times rule_name q (map (level_rule r ps) ls) + (cond (bytes_eq n q) 1 0 + 0)) last in
      let below : times same_name q (map rule_name (without_last (level_rules r))) ≡ times rule_name q (map (level_rule r ps) ls) =
      times_map rule_name q (without_last (level_rules r)) ∙ ap (times rule_name q) lower in
      omega arith

  level_names_split : (r : RuleData) (b : Bool) → has_levels (all_places r) ≡ b → IsSplit r
  level_names_split r true h =
      let (l, i) = some_level r h in
      let (front, last, e) = some_ends l (levels_of (with_levels (all_places r))) i in
      level_names_at r front last e h
  level_names_split r false h =
      let rules = no_level_rules r h in
      ap (times rule_name q) rules ∙ by (cond (bytes_eq r.name.0 q) 1 0)
      ∙ sym (ap (λ rs. times rule_name q (r ∷ []) + times same_name q (map rule_name (without_last rs))) rules)
    where
      by : (k : ℕ) → k + 0 ≡ (k + 0) + 0
      by k = omega arith

  -- ---- the names of items

  rules_times : (rs : List RuleData) (rest : List ItemData) →
      times name_of q (flat_map rule_globals (map rule_item rs ++ rest)) ≡ times rule_name q rs + times name_of q (flat_map rule_globals rest)
  rules_times [] rest = omega arith
  rules_times (r ∷ rs) rest = let more = rules_times rs rest in omega arith

  items_split : (is : List ItemData) → times name_of q (flat_map rule_globals (flat_map level_items is))
      ≡ times name_of q (flat_map rule_globals is) + times same_name q (flat_map item_made_names is)
  items_split [] = refl
  items_split (rule_item r ∷ is) =
      let here = level_names_split r (has_levels (all_places r)) refl in
      let rest = items_split is in
      let whole = rules_times (level_rules r) (flat_map level_items is) in
      let made = times_more same_name q (map rule_name (without_last (level_rules r))) (flat_map item_made_names is) in
      omega arith
  items_split (match_item m ∷ is) = items_split is
  items_split (extern_item t ∷ is) = items_split is
  items_split (intern_item t ∷ is) = items_split is
  items_split (use_item u ∷ is) = items_split is

  names_split : (g : GrammarData) → times name_of q (globals (leveled_grammar g)) ≡ times name_of q (globals g) + times same_name q (grammar_made_names g)
  names_split g =
      let is = g.items in
      let js = flat_map level_items is in
      let others : flat_map conversion_globals js ++ flat_map match_globals js ≡ flat_map conversion_globals is ++ flat_map match_globals is =
      ap₂ ◌++◌ (other_globals conversion_globals (λ r. refl) is) (other_globals match_globals (λ r. refl) is) in
      let whole = times_more name_of q (flat_map rule_globals js) (flat_map conversion_globals js ++ flat_map match_globals js) in
      let same = ap (times name_of q) others in
      let before = times_more name_of q (flat_map rule_globals is) (flat_map conversion_globals is ++ flat_map match_globals is) in
      let rules = items_split is in
      omega arith

-- ---- the grammar

pub levels_once : (g : GrammarData) → repeated_faults [] (globals g) ≡ [] → are_new (all_rows [] (globals g)) (grammar_made_names g) ≡ true →
    repeated_faults [] (globals (leveled_grammar g)) ≡ []
levels_once g none new = none_repeated [] (globals (leveled_grammar g)) once
  where
    once : (q : List ℕ) → times name_of q (globals (leveled_grammar g)) ≤ 1
    once q =
        let split = names_split q g in
        let most = all_once (globals g) (grammar_made_names g) none new q in
        omega arith
