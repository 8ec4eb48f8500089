-- The pairing of a grammar's trees in two steps.
use Rattle.lalrpop_norm_theory.specs.Laws.{LevelsAreTwoSteps}
use Rattle.lalrpop_norm_model.specs.WrittenRules.{leveled_rules, flat_rules}
use Rattle.lalrpop_norm_model.specs.Grammars.{meaning, references}
use Rattle.lalrpop_norm_model.specs.ClosedTexts.{level_names}
use Rattle.lalrpop_norm_model.specs.LevelRules.{leveled_grammar}
use Rattle.lalrpop_norm_model.specs.LevelNames.{level_origin}
use Rattle.lalrpop_norm_model.specs.Scoped.{IsScoped}
use Rattle.lalrpop_norm_model.specs.Laws.{LevelsAreSteps}
use Rattle.lalrpop_norm_model.proofs.MeaningLemmas.{meaning_has_counts, meaning_has_levels}
use Rattle.lalrpop_norm_model.proofs.ScopeLemmas.{meaning_is_resolved}
use Rattle.lalrpop_norm_model.proofs.WrittenLemmas.{scoped_by_names}
use Rattle.lalrpop_norm_model.proofs.OriginLemmas.{grammar_leveled}

pub levels_steps : LevelsAreTwoSteps → LevelsAreSteps
levels_steps two value g N name P declared met R x resolved known =
    two (meaning value (leveled_rules g)) (meaning value (flat_rules (leveled_grammar g))) (level_names (leveled_rules g)) (level_origin value g)
    (references (leveled_rules g)) (meaning_is_resolved (leveled_rules g) scoped value) (grammar_leveled value g N)
    (meaning_has_counts value (leveled_rules g)) (meaning_has_levels value (leveled_rules g))
    (meaning_has_counts value (flat_rules (leveled_grammar g))) (meaning_has_levels value (flat_rules (leveled_grammar g)))
    name P declared met R x resolved known
  where
    scoped : IsScoped (leveled_rules g)
    scoped = scoped_by_names g N.names
