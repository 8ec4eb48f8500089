-- Between written trees and derivation trees are the trees of the grammar with levels: first levels become rules, then these
-- are lowered.
use Rattle.std.proofs.Common.{◌≡◌, inl, inr, ℕ, List, [], ◌++◌, map, None, sym, ap, ◌∙◌, subst}
use Rattle.lalrpop_norm_tree.specs.Items.{RuleData, GrammarData}
use Rattle.lalrpop_norm_theory.specs.Symbols.{Name, ClosedSymbol, reference}
use Rattle.lalrpop_norm_theory.specs.Meaning.{Meaning}
use Rattle.lalrpop_norm_theory.specs.LoweredTrees.{ProductionTable}
use Rattle.lalrpop_norm_theory.specs.Rounds.{In, IsDistinct}
use Rattle.lalrpop_norm_theory.specs.Met.{expanded_symbols, IsKnown}
use Rattle.lalrpop_norm_theory.specs.Tables.{Realizes, Stands, table, rule_of_symbol}
use Rattle.lalrpop_norm_theory.specs.Leveled.{leveled_symbol}
use Rattle.lalrpop_norm_theory.specs.Laws.{PairsInTwoSteps}
use Rattle.lalrpop_norm_theory.proofs.Composed.{levels_two_steps}
use Rattle.lalrpop_norm_theory.proofs.RoundsLemmas.{in_cases}
use Rattle.lalrpop_norm_theory.proofs.Expansion.{expansion_stands}
use Rattle.lalrpop_norm_model.specs.Features.{Features}
use Rattle.lalrpop_norm_model.specs.WrittenRules.{WrittenRule, written_rules, flat_rules}
use Rattle.lalrpop_norm_model.specs.Grammars.{ConditionValue, meaning, references, roots}
use Rattle.lalrpop_norm_model.specs.ClosedTexts.{level_names, text_in}
use Rattle.lalrpop_norm_model.specs.LevelRules.{leveled_grammar}
use Rattle.lalrpop_norm_model.specs.PlainRules.{all_rules, plain_grammar, plain_rules, IsEnded}
use Rattle.lalrpop_norm_model.specs.Origins.{plain_origins}
use Rattle.lalrpop_norm_model.specs.PlainTables.{IsSettled, flat_meaning, declared, rules_from}
use Rattle.lalrpop_norm_model.specs.LevelNames.{HasLevelNames, written_origin}
use Rattle.lalrpop_norm_model.specs.Renumbered.{prepared_grammar}
use Rattle.lalrpop_norm_model.specs.Expanded.{rule_names}
use Rattle.lalrpop_norm_model.proofs.LevelLemmas.{in_map}
use Rattle.lalrpop_norm_model.proofs.ScopeLemmas.{meanings_are_resolved}
use Rattle.lalrpop_norm_model.proofs.MeaningLemmas.{meaning_has_counts, meaning_has_levels}
use Rattle.lalrpop_norm_model.proofs.RoundReadLemmas.{rounds_are_read}
use Rattle.lalrpop_norm_model.proofs.PlainReadLemmas.{plain_fit, plain_rules_are_read}
use Rattle.lalrpop_norm_model.proofs.FaithfulLemmas.{plain_grammars_hold_plain_rules, distinct_names_mean_one_rule}
use Rattle.lalrpop_norm_model.proofs.WrittenLeveled.{names_written, written_leveled}
use Rattle.lalrpop_norm.proofs.TreesWritten.{fitting_names, reference_of, declared_resolved, lower_written, written_scoped, written_resolved, written_distinct}
use Rattle.lalrpop_norm.proofs.RootSteps.{root_alike, steps_of_alike}
use Rattle.lalrpop_norm.proofs.RealizedRules.{realizes}

-- ---- the grammar with levels

module _ (value : ConditionValue) (fs : Features) (g : GrammarData) (N : HasLevelNames (prepared_grammar fs g))
    (S : IsSettled (leveled_grammar (prepared_grammar fs g))) (n : ℕ) (whole : IsEnded value (leveled_grammar (prepared_grammar fs g)) n)
    (D : IsDistinct (rule_names (plain_grammar value (leveled_grammar (prepared_grammar fs g)) n))) where
  abbrev h : GrammarData
  h = leveled_grammar (prepared_grammar fs g)

  abbrev L : Meaning
  L = flat_meaning value h

  abbrev name : ClosedSymbol → Name
  name = text_in (flat_rules h)

  abbrev met : List ClosedSymbol
  met = expanded_symbols L (declared h) n

  stands : Stands L name [] (declared h) met
  stands =
      expansion_stands L (meaning_has_levels value (flat_rules h)) (declared h) (meanings_are_resolved value (flat_rules h) S.scoped)
      (declared_resolved (flat_rules h)) n ((rounds_are_read value h S n).3.0 whole) name (distinct_names_mean_one_rule value h S n D) [] (λ x i. absurd i)

  names : map (λ (r : RuleData). r.name.0) (all_rules (plain_grammar value h n)) ≡ map name (declared h ++ met)
  names =
      ap (map (λ (r : RuleData). r.name.0)) (plain_grammars_hold_plain_rules value h n)
      ∙ fitting_names L name (plain_rules value h n) (declared h ++ met) (plain_fit value h S n)

  rules_same : rules_from (plain_origins L (declared h) n) (all_rules (plain_grammar value h n)) ≡ map (rule_of_symbol L name) (declared h ++ met)
  rules_same = ap (rules_from (plain_origins L (declared h) n)) (plain_grammars_hold_plain_rules value h n) ∙ (plain_rules_are_read value h S n).1

  module _ (P : ProductionTable)
      (held : (r : RuleData) → In r (all_rules (plain_grammar value h n)) →
      P r.name.0 ≡ table (rules_from (plain_origins L (declared h) n) (all_rules (plain_grammar value h n))) r.name.0) where
    realized : Realizes L name P (IsKnown (declared h) met)
    realized = realizes L name [] (declared h) met stands (all_rules (plain_grammar value h n)) (plain_origins L (declared h) n) names rules_same P held

    abbrev InSteps : ClosedSymbol → Type 0
    InSteps = PairsInTwoSteps (meaning value (written_rules fs g)) L (level_names (written_rules fs g)) (written_origin value (written_rules fs g)) name P

    known : (x : ClosedSymbol) → In x (references (written_rules fs g)) →
        IsKnown (declared h) met (leveled_symbol (level_names (written_rules fs g)) x)
    known x i =
        let ws : List WrittenRule = written_rules fs g in
        let (m, b, e) = reference_of ws x i in
        let l = level_names ws in
        let low : map (leveled_symbol l) (references ws) ≡ declared h =
        subst (λ (k : Name → ℕ → Name). map (leveled_symbol k) (references ws) ≡ declared h) (names_written fs g) (lower_written value fs g N S) in
        let there : In (leveled_symbol l x) (declared h) =
        subst (λ (gs : List ClosedSymbol). In (leveled_symbol l x) gs) low (in_map (leveled_symbol l) x (references ws) i) in
        subst (λ (y : ClosedSymbol). IsKnown (declared h) met (leveled_symbol l y)) (sym e)
        (subst (λ (y : ClosedSymbol). In (leveled_symbol l y) (declared h)) e there)

    -- the trees of what is declared pair in two steps
    declared_in_steps : (x : ClosedSymbol) → In x (references (written_rules fs g)) → InSteps x
    declared_in_steps x i =
        let ws : List WrittenRule = written_rules fs g in
        levels_two_steps (meaning value ws) L (level_names ws) (written_origin value ws) (references ws) (written_resolved value fs g N S)
        (written_leveled value fs g N) (meaning_has_counts value ws) (meaning_has_levels value ws) (meaning_has_counts value (flat_rules h))
        (meaning_has_levels value (flat_rules h)) name P (declared h) met realized x (declared_resolved ws x i) (known x i)

    -- so do those of a rule taken by itself
    pub paired_in_steps : (x : ClosedSymbol) → In x (roots (written_rules fs g) ++ references (written_rules fs g)) →
        PairsInTwoSteps (meaning value (written_rules fs g)) L (level_names (written_rules fs g)) (written_origin value (written_rules fs g)) name P x
    paired_in_steps x i = elim (in_cases x (roots (written_rules fs g)) (references (written_rules fs g)) i) [
      | inl j ↦ (
          let ws : List WrittenRule = written_rules fs g in
          let (m, c, e, listed, alike) = root_alike ws (written_scoped value fs g N S) (written_distinct value fs g N S) value x j in
          subst InSteps (sym e)
          (steps_of_alike (meaning value ws) (level_names ws) L (written_origin value ws) name P m None c alike
          (declared_in_steps (reference m c) listed)))
      | inr j ↦ declared_in_steps x j
    ]
