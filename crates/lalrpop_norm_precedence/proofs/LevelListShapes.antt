-- The lists of levels have the shape of the grammar with levels, and resolving changes none of them.
use Rattle.std.proofs.Common.{◌≡◌, ℕ, suc, ◌+◌, Bool, true, false, nat_eq, List, [], ◌∷◌, ◌++◌, length, map, refl, sym, ap, ap₂, ◌∙◌, subst, arith, length-append}
use Rattle.std.specs.Prelude.{◌||◌, Option, Some, None, unwrap_or, if◌then◌else◌}
use Rattle.std.specs.List.{flat_map}
use Rattle.std.proofs.lemmas.List.{length-map}
use Rattle.lalrpop_norm_theory.specs.LoweredTrees.{Origin}
use Rattle.lalrpop_norm_tree.specs.Items.{AlternativeData, RuleData, ItemData, GrammarData, rule_item, match_item, extern_item, intern_item, use_item}
use Rattle.lalrpop_norm_model.specs.Enabled.{all_places, present}
use Rattle.lalrpop_norm_model.specs.Scopes.{Global, Sense, globals, sense_of, resolved_alternative, resolved_rule, resolved_item, resolved_grammar}
use Rattle.lalrpop_norm_model.specs.Levels.{Side, every, Leveled, has_level_attribute, has_levels, with_levels, levels_of, greatest, below, rising, previous_level}
use Rattle.lalrpop_norm_model.specs.LevelRules.{of_level, level_alternative, step_alternatives, level_rule, level_rules, level_items, leveled_grammar}
use Rattle.lalrpop_norm_model.specs.Stated.{level_after, side_after}
use Rattle.lalrpop_norm_origins.proofs.ShapeLemmas.{shaped_resolved}
use Rattle.lalrpop_norm_precedence.specs.Handed.{handed_levels}
use Rattle.lalrpop_norm_precedence.specs.LevelLists.{levels_there, picked, step_origins, level_origins, rule_level_lists, leveled_lists, IsShaped}
use Rattle.lalrpop_norm_precedence.proofs.ReadLemmas.{levels_read, first_of_pairs}
use Rattle.lalrpop_norm_precedence.proofs.RuleLemmas.{handed_count}

-- ---- the rule of a level has an alternative for each origin

either_more : (b : Bool) (a : Leveled) (xs : List Leveled) (o : Origin) (os : List Origin) → length xs ≡ length os →
    length (if b then a ∷ xs else xs) ≡ length (if b then o ∷ os else os)
either_more true a xs o os h = ap suc h
either_more false a xs o os h = h

picked_count : (l : ℕ) (xs : List Leveled) (os : List Origin) → length xs ≡ length os →
    length (of_level l xs) ≡ length (picked l (map (λ (a : Leveled). a.level) xs) os)
picked_count l [] os h = refl
picked_count l (a ∷ xs) [] h = absurd (omega arith)
picked_count l (a ∷ xs) (o ∷ os) h =
    either_more (nat_eq a.level l) a (of_level l xs) o (picked l (map (λ (a : Leveled). a.level) xs) os) (picked_count l xs os (omega arith))

step_count : (r : RuleData) (ps : List (Option Leveled)) (o : Option ℕ) → length (step_alternatives r ps o) ≡ length (step_origins o)
step_count r ps None = refl
step_count r ps (Some l) = refl

-- the levels of a rule's alternatives are those that are inherited
levels_handed_on : (r : RuleData) → levels_there (with_levels (all_places r)) ≡ map (λ (p : ℕ × Side). p.0) (handed_levels None None r.alternatives)
levels_handed_on r = sym (first_of_pairs (present (with_levels (all_places r)))) ∙ ap (map (λ (p : ℕ × Side). p.0)) (levels_read r)

present_count : (r : RuleData) → length (present (with_levels (all_places r))) ≡ length r.alternatives
present_count r =
    sym (length-map (present (with_levels (all_places r))) (λ (a : Leveled). a.level))
    ∙ ap length (levels_handed_on r)
    ∙ length-map (handed_levels None None r.alternatives) (λ (p : ℕ × Side). p.0)
    ∙ handed_count None None r.alternatives

-- of a rule, where its alternatives have these origins
module _ (r : RuleData) (os : List Origin) (h : length r.alternatives ≡ length os) where
  abbrev ps : List (Option Leveled)
  ps = with_levels (all_places r)

  level_count : (l : ℕ) → length (level_rule r ps l).alternatives ≡ length (picked l (levels_there ps) os ++ step_origins (previous_level ps l))
  level_count l =
      let own : length (map (level_alternative r ps) (of_level l (present ps))) ≡ length (picked l (levels_there ps) os) =
      length-map (of_level l (present ps)) (level_alternative r ps) ∙ picked_count l (present ps) os (present_count r ∙ h) in
      length-append (map (level_alternative r ps) (of_level l (present ps))) (step_alternatives r ps (previous_level ps l))
      ∙ ap₂ (λ m n. m + n) own (step_count r ps (previous_level ps l))
      ∙ sym (length-append (picked l (levels_there ps) os) (step_origins (previous_level ps l)))

  levels_shaped : (ls : List ℕ) →
      IsShaped (map rule_item (map (level_rule r ps) ls)) (map (λ l. picked l (levels_there ps) os ++ step_origins (previous_level ps l)) ls)
  levels_shaped [] = tt
  levels_shaped (l ∷ ls) = (level_count l, levels_shaped ls)

  either_shaped : (b : Bool) → IsShaped (map rule_item (if b then map (level_rule r ps) (levels_of ps) else r ∷ [])) (level_origins b ps os)
  either_shaped true = levels_shaped (levels_of ps)
  either_shaped false = (h, tt)

  rule_shaped : IsShaped (map rule_item (level_rules r)) (rule_level_lists r os)
  rule_shaped = either_shaped (has_levels (all_places r))

shaped_before : (rs : List RuleData) (oss : List (List Origin)) (items : List ItemData) (rest : List (List Origin)) →
    IsShaped (map rule_item rs) oss → IsShaped items rest → IsShaped (map rule_item rs ++ items) (oss ++ rest)
shaped_before [] [] items rest a b = b
shaped_before [] (os ∷ oss) items rest a b = absurd a
shaped_before (r ∷ rs) [] items rest a b = absurd a
shaped_before (r ∷ rs) (os ∷ oss) items rest a b = (a.0, shaped_before rs oss items rest a.1 b)

leveled_shaped : (items : List ItemData) (oss : List (List Origin)) → IsShaped items oss → IsShaped (flat_map level_items items) (leveled_lists items oss)
leveled_shaped [] [] h = tt
leveled_shaped [] (os ∷ oss) h = absurd h
leveled_shaped (rule_item r ∷ items) [] h = absurd h
leveled_shaped (rule_item r ∷ items) (os ∷ oss) h =
    shaped_before (level_rules r) (rule_level_lists r os) (flat_map level_items items) (leveled_lists items oss) (rule_shaped r os h.0)
    (leveled_shaped items oss h.1)
leveled_shaped (match_item m ∷ items) oss h = leveled_shaped items oss h
leveled_shaped (extern_item t ∷ items) oss h = leveled_shaped items oss h
leveled_shaped (intern_item t ∷ items) oss h = leveled_shaped items oss h
leveled_shaped (use_item u ∷ items) oss h = leveled_shaped items oss h

-- ---- resolving

handed_resolved : (sense : List ℕ → Option Sense) (level : Option ℕ) (side : Option Side) (xs : List AlternativeData) →
    handed_levels level side (map (resolved_alternative sense) xs) ≡ handed_levels level side xs
handed_resolved sense level side [] = refl
handed_resolved sense level side (a ∷ xs) =
    ap (λ rest. (unwrap_or (level_after level (Some a)) 0, unwrap_or (side_after side (Some a)) every) ∷ rest)
    (handed_resolved sense (level_after level (Some a)) (side_after side (Some a)) xs)

marked_resolved : (sense : List ℕ → Option Sense) (xs : List AlternativeData) → has_levels (map Some (map (resolved_alternative sense) xs)) ≡ has_levels (map Some xs)
marked_resolved sense [] = refl
marked_resolved sense (a ∷ xs) = ap (λ b. has_level_attribute a || b) (marked_resolved sense xs)

-- the lists of a rule with levels depend on the levels of its alternatives alone
abbrev lists_by : List ℕ → List Origin → List (List Origin)
lists_by ms os = map (λ l. picked l ms os ++ step_origins (greatest (below l (rising ms)))) (rising ms)

same_lists : (b : Bool) (ps qs : List (Option Leveled)) (os : List Origin) → levels_there ps ≡ levels_there qs → level_origins b ps os ≡ level_origins b qs os
same_lists true ps qs os e = ap (λ ms. lists_by ms os) e
same_lists false ps qs os e = refl

module _ (ds : List Global) where
  levels_kept : (r : RuleData) → levels_there (with_levels (all_places (resolved_rule ds r))) ≡ levels_there (with_levels (all_places r))
  levels_kept r =
      levels_handed_on (resolved_rule ds r)
      ∙ ap (map (λ (p : ℕ × Side). p.0)) (handed_resolved (sense_of ds r.args) None None r.alternatives)
      ∙ sym (levels_handed_on r)

  rule_resolved : (r : RuleData) (os : List Origin) → rule_level_lists (resolved_rule ds r) os ≡ rule_level_lists r os
  rule_resolved r os =
      ap (λ b. level_origins b (with_levels (all_places (resolved_rule ds r))) os) (marked_resolved (sense_of ds r.args) r.alternatives)
      ∙ same_lists (has_levels (all_places r)) (with_levels (all_places (resolved_rule ds r))) (with_levels (all_places r)) os (levels_kept r)

  -- the lists of the levels are the same of the grammar whose names are resolved
  pub lists_resolved : (items : List ItemData) (oss : List (List Origin)) → leveled_lists (map (resolved_item ds) items) oss ≡ leveled_lists items oss
  lists_resolved [] oss = refl
  lists_resolved (rule_item r ∷ items) [] = lists_resolved items []
  lists_resolved (rule_item r ∷ items) (os ∷ oss) =
      ap₂ (λ (xs : List (List Origin)) ys. xs ++ ys) (rule_resolved r os) (lists_resolved items oss)
  lists_resolved (match_item m ∷ items) oss = lists_resolved items oss
  lists_resolved (extern_item t ∷ items) oss = lists_resolved items oss
  lists_resolved (intern_item t ∷ items) oss = lists_resolved items oss
  lists_resolved (use_item u ∷ items) oss = lists_resolved items oss

-- what the pass answers has the shape that the next one asks for
pub answer_shaped : (g k : GrammarData) (oss lists : List (List Origin)) → IsShaped g.items oss → k ≡ leveled_grammar (resolved_grammar g) → lists ≡ leveled_lists g.items oss →
    IsShaped k.items lists
answer_shaped g k oss lists h leveled made =
    let shaped : IsShaped (leveled_grammar (resolved_grammar g)).items (leveled_lists (resolved_grammar g).items oss) =
    leveled_shaped (resolved_grammar g).items oss (shaped_resolved (globals g) g.items oss h) in
    let same : leveled_lists (resolved_grammar g).items oss ≡ lists = lists_resolved (globals g) g.items oss ∙ sym made in
    let P : List (List Origin) → Type 0 = λ xs. IsShaped (leveled_grammar (resolved_grammar g)).items xs in
    let Q : GrammarData → Type 0 = λ m. IsShaped m.items lists in
    subst Q (sym leveled) (subst P same shaped)
