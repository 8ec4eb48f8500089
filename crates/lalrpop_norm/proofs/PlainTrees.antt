-- The trees of a grammar that has the rules of the expanded grammar correspond one to one to the written trees.
use Rattle.std.proofs.Common.{◌≡◌, inl, inr, ℕ, List, ◌++◌, map, sym, ap, ◌∙◌, subst}
use Rattle.lalrpop_norm_tree.specs.Items.{RuleData, GrammarData}
use Rattle.lalrpop_norm_theory.specs.Symbols.{Name, ClosedSymbol}
use Rattle.lalrpop_norm_theory.specs.Meaning.{Meaning}
use Rattle.lalrpop_norm_theory.specs.LoweredTrees as theory
use Rattle.lalrpop_norm_theory.specs.Rounds.{In, IsDistinct}
use Rattle.lalrpop_norm_theory.specs.Met.{expanded_symbols, IsKnown}
use Rattle.lalrpop_norm_theory.specs.Tables.{Realizes, Stands, table, rule_of_symbol}
use Rattle.lalrpop_norm_theory.specs.Laws.{OneToOne}
use Rattle.lalrpop_norm_theory.proofs.RoundsLemmas.{in_cases}
use Rattle.lalrpop_norm_theory.proofs.Trees.{trees_one_to_one}
use Rattle.lalrpop_norm_model.specs.Features.{Features}
use Rattle.lalrpop_norm_model.specs.WrittenRules.{WrittenRule, written_rules}
use Rattle.lalrpop_norm_model.specs.Grammars.{ConditionValue, meaning, references, roots}
use Rattle.lalrpop_norm_model.specs.ClosedTexts.{text_in}
use Rattle.lalrpop_norm_model.specs.LevelRules.{leveled_grammar}
use Rattle.lalrpop_norm_model.specs.PlainRules.{all_rules, plain_grammar, plain_rules, IsEnded}
use Rattle.lalrpop_norm_model.specs.Origins.{plain_symbols, plain_origins}
use Rattle.lalrpop_norm_model.specs.PlainTables.{IsSettled, rules_from}
use Rattle.lalrpop_norm_model.specs.LevelNames.{HasLevelNames}
use Rattle.lalrpop_norm_model.specs.Renumbered.{prepared_grammar}
use Rattle.lalrpop_norm_model.specs.Expanded.{rule_names}
use Rattle.lalrpop_norm_model.proofs.MeaningLemmas.{meaning_has_counts, meaning_has_levels}
use Rattle.lalrpop_norm_model.proofs.PlainReadLemmas.{rules_read}
use Rattle.lalrpop_norm_model.proofs.FaithfulLemmas.{plain_grammars_hold_plain_rules}
use Rattle.lalrpop_norm.proofs.RealizedRules.{realizes}
use Rattle.lalrpop_norm.proofs.TreesWritten.{root_of, reference_of, written_fit, written_names, written_stands}

module _ (value : ConditionValue) (fs : Features) (g : GrammarData) (N : HasLevelNames (prepared_grammar fs g))
    (S : IsSettled (leveled_grammar (prepared_grammar fs g))) (n : ℕ) (whole : IsEnded value (leveled_grammar (prepared_grammar fs g)) n)
    (D : IsDistinct (rule_names (plain_grammar value (leveled_grammar (prepared_grammar fs g)) n))) where
  abbrev ws : List WrittenRule
  ws = written_rules fs g

  abbrev M : Meaning
  M = meaning value (written_rules fs g)

  abbrev plain : GrammarData
  plain = plain_grammar value (leveled_grammar (prepared_grammar fs g)) n

  abbrev met : List ClosedSymbol
  met = expanded_symbols M (references ws) n

  abbrev name : ClosedSymbol → Name
  name = text_in ws

  stands : Stands M name (roots ws) (references ws) met
  stands = written_stands value fs g N S n whole D

  -- ---- a lowered grammar that has the rules of the expanded grammar

  rules_same : rules_from (plain_origins M (references ws) n) (all_rules plain) ≡ map (rule_of_symbol M name) (plain_symbols M (references ws) n)
  rules_same =
      ap (rules_from (plain_origins M (references ws) n)) (plain_grammars_hold_plain_rules value (leveled_grammar (prepared_grammar fs g)) n)
      ∙ rules_read M name (plain_rules value (leveled_grammar (prepared_grammar fs g)) n) (plain_symbols M (references ws) n) (written_fit value fs g N S n)

  module _ (P : theory.ProductionTable)
      (held : (r : RuleData) → In r (all_rules plain) → P r.name.0 ≡ table (rules_from (plain_origins M (references ws) n) (all_rules plain)) r.name.0) where
    pub has_rules : Realizes M name P (IsKnown (roots ws ++ references ws) met)
    has_rules =
        realizes M name (roots ws) (references ws) met stands (all_rules plain) (plain_origins M (references ws) n)
        (written_names value fs g N S n) rules_same P held

    root_known : (s : ClosedSymbol) → In s (roots ws ++ references ws) → IsKnown (roots ws ++ references ws) met s
    root_known s i = elim (in_cases s (roots ws) (references ws) i) [
      | inl j ↦ (let (m, e) = root_of ws s j in
          subst (IsKnown (roots ws ++ references ws) met) (sym e) (subst (λ (x : ClosedSymbol). In x (roots ws ++ references ws)) e i))
      | inr j ↦ (let (m, b, e) = reference_of ws s j in
          subst (IsKnown (roots ws ++ references ws) met) (sym e) (subst (λ (x : ClosedSymbol). In x (roots ws ++ references ws)) e i))
    ]

    pub held_trees : (s : ClosedSymbol) → In s (roots ws ++ references ws) → OneToOne M name P s
    held_trees s i =
        trees_one_to_one M (meaning_has_counts value ws) (meaning_has_levels value ws) name P (roots ws ++ references ws) met has_rules s (root_known s i)
