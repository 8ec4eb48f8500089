use Rattle.std.proofs.Common.{◌≡◌, drop, map}
use Rattle.std.specs.Prelude.{option_map}
use Rattle.lalrpop_norm_shared_types.specs.Shared.{shared_view}
use Rattle.lalrpop_norm_tree.specs.Symbols.{kind_view}
use Rattle.lalrpop_norm_tyinfer_steps.specs.Numbered.{numbered_table}
use Rattle.lalrpop_norm_tyinfer_steps.specs.Clauses.{kinds_in}
use Rattle.lalrpop_norm_tyinfer_steps.proofs.ValueLemmas.{before}
use Rattle.lalrpop_norm_tyinfer.proofs.tyinfer.clause_values.all_values.Given as goal

abbrev pub invariant-loop-source : goal.invariant-loop-source
invariant-loop-source l =
    option_map (before (map shared_view l.values.items)) (kinds_in (numbered_table l.types) (map (λ t. kind_view t.1.now.kind) (drop l.source-index l.sources)))
    ≡ kinds_in (numbered_table l.types) (map (λ t. kind_view t.1.now.kind) l.sources)
