use Rattle.std.proofs.Common.{subst}
use Rattle.lalrpop_norm_tree.specs.Items as written
use Rattle.lalrpop_norm_faults.specs.Faults.{Refuses}
use Rattle.lalrpop_norm_shared_types.specs.Table.{shared_table}
use Rattle.lalrpop_norm.proofs.PassLemmas.{late_same}
use Rattle.lalrpop_norm.proofs.passes.type_and_lower.Goals as goal

pub lower_shared-requires-clause-typed : goal.lower_shared-requires-clause-typed
lower_shared-requires-clause-typed g c = c.requires.typed (shared_table c.in_ok-types.types) c.in_ok-types.ensures.refuses c.in_ok-types.ensures.inferred

pub returns-clause-refuses : goal.returns-clause-refuses
returns-clause-refuses g c =
    subst (Refuses c.lower_shared.result)
    (late_same (written.grammar_view c.args.plain) (shared_table c.in_ok-types.types) c.requires.expanded.distinct_names
    c.in_ok-types.ensures.refuses c.in_ok-types.ensures.inferred)
    c.lower_shared.ensures.refuses
