use Rattle.std.proofs.lemmas.Result.{IfOk-weaker}
use Rattle.lalrpop_norm_tree.specs.Items as written
use Rattle.lalrpop_norm_common.specs.Sessions.{features_view}
use Rattle.lalrpop_norm_lower.proofs.grammars.lower_over.Goals as goal

pub returns-clause-lowered : goal.returns-clause-lowered
returns-clause-lowered g c =
    IfOk-weaker c.lower_rest.result _ _ (λ l made. made (features_view c.args.session.now.features) c.in_ok-carried.ensures) c.lower_rest.ensures.lowered
