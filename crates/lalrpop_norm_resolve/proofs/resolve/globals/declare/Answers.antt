use Rattle.std.proofs.Common.{ap, ◌∙◌}
use Rattle.lalrpop_norm_resolve.specs.NameTables.{rows_of, with_def}
use Rattle.lalrpop_norm_resolve.proofs.GlobalLemmas.{rows_added}
use Rattle.lalrpop_norm_resolve.proofs.resolve.globals.declare.Goals as goal

pub returns-in-None-clause-declares : goal.returns-in-None-clause-declares
returns-in-None-clause-declares c =
    let old = c.args.globals.now in
    rows_added old _ c.again.result c.args.def c.in_ok-earlier.ensures.updates.0 ∙ ap (λ name. with_def (rows_of old) name c.args.def) c.again.ensures
