-- The lists of origins that the traced passes return, from pass to pass.
use Rattle.std.specs.Prelude.{ℕ, List}
use Rattle.lalrpop_norm_tree.specs.Items.{GrammarData}
use Rattle.lalrpop_norm_theory.specs.LoweredTrees.{Origin}
use Rattle.lalrpop_norm_conditions.specs.Conditions.{comparison}
use Rattle.lalrpop_norm_model.specs.Features.{Features}
use Rattle.lalrpop_norm_model.specs.Enabled.{enabled_grammar}
use Rattle.lalrpop_norm_origins.specs.EnabledOrigins.{enabled_origins}
use Rattle.lalrpop_norm_origins.specs.LeveledOrigins.{leveled_lists}
use Rattle.lalrpop_norm_origins.specs.MadeOrigins.{expanded_lists}
use Rattle.lalrpop_norm.specs.Faithful.{grammar_with_levels}

module _ (fs : Features) (g : GrammarData) where
  -- of the grammar with levels
  abbrev pub lists_with_levels : List (List Origin)
  lists_with_levels = leveled_lists (enabled_grammar fs g).items (enabled_origins fs g)

  -- of the expanded grammar, where so many rounds make all
  abbrev pub lists_of_plain_rules : ℕ → List (List Origin)
  lists_of_plain_rules rounds = expanded_lists comparison (grammar_with_levels fs g) lists_with_levels rounds
