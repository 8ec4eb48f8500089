use Rattle.std.proofs.Common.{Some, ap, ◌∙◌}
use Rattle.lalrpop_norm_shared_types.specs.Shared.{shared_view}
use Rattle.lalrpop_norm_tyinfer_steps.specs.Numbered.{numbered_table}
use Rattle.lalrpop_norm_tyinfer.proofs.MeaningLemmas.{declared_first}
use Rattle.lalrpop_norm_tyinfer.proofs.tyinfer.rounds.shared_value.Goals as goal

pub returns-in-Some : goal.returns-in-Some
returns-in-Some c =
    let ps = c.args.inference.now.parameters.now in
    let tt = numbered_table c.args.types.now in
    ap Some c.in_ok-clone.ensures.cases
    ∙ declared_first ps tt (shared_view c.in-Some.ty.now) c.args.clauses.now c.in-Declared.written c.in-Declared.is (c.in-Some.ensures ps tt)
