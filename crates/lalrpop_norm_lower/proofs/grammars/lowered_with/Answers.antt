use Rattle.std.proofs.Common.{subst}
use Rattle.std.proofs.lemmas.Result.{IfOk-weaker}
use Rattle.lalrpop_norm_shared_types.specs.Table.{shared_table}
use Rattle.lalrpop_norm_lower.specs.StartTypes.{AddsTypes}
use Rattle.lalrpop_norm_lower.proofs.grammars.lowered_with.Goals as goal

pub returns : goal.returns
returns c =
    let types = shared_table c.args.types in
    IfOk-weaker c.lowered_of.result _ _
    (λ l made fs g carried rules. made fs g types carried rules.actions rules.produced (subst (AddsTypes types (shared_table c.add_start_types.new.types)) rules.start_types c.in_ok-add_start_types.ensures))
    c.lowered_of.ensures
