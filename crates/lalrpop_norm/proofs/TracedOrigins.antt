-- The lists of origins that the traced passes return are the origins of the actions of a lowered grammar.
use Rattle.std.proofs.Common.{◌++◌, List, sym, ap, ◌∙◌}
use Rattle.std.specs.Prelude.{replicate}
use Rattle.lalrpop_norm_theory.specs.LoweredTrees.{Origin, from_start}
use Rattle.lalrpop_norm_conditions.specs.Conditions.{comparison}
use Rattle.lalrpop_norm_model.specs.LevelNames.{HasLevelNames}
use Rattle.lalrpop_norm_model.specs.PlainTables.{IsSettled}
use Rattle.lalrpop_norm_model.specs.Renumbered.{prepared_grammar}
use Rattle.lalrpop_norm_model.proofs.RoundReadLemmas.{rounds_are_read}
use Rattle.lalrpop_norm_origins.proofs.MadeLists.{lists_joined}
use Rattle.lalrpop_norm.specs.Faithful.{grammar_with_levels}
use Rattle.lalrpop_norm.specs.Laws.{ListsAreActionOrigins}
use Rattle.lalrpop_norm.proofs.TreesWritten.{made_written, written_distinct}
use Rattle.lalrpop_norm.proofs.TreesFaithful.{level_names_found, levels_settled}

pub lists_are_action_origins : ListsAreActionOrigins
lists_are_action_origins fs g faults macros level_faults starts rounds =
    let N : HasLevelNames (prepared_grammar fs g) = level_names_found fs g faults macros level_faults in
    let S : IsSettled (grammar_with_levels fs g) = levels_settled fs g faults macros level_faults in
    ap (λ (os : List Origin). replicate starts from_start ++ os)
    (lists_joined comparison fs g N S (written_distinct comparison fs g N S) rounds
    ((rounds_are_read comparison (grammar_with_levels fs g) S rounds).0 ∙ sym (made_written comparison fs g N S rounds)))
