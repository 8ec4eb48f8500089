use Rattle.std.proofs.Common.{arith}
use Rattle.std.proofs.lemmas.List.{take_more}
use Rattle.lalrpop_norm_tree_parts.specs.Bounds.{bound_parameter_view, SameBoundParameter}
use Rattle.lalrpop_norm_tree_parts.proofs.BoundLemmas.{all_zip_more}
use Rattle.lalrpop_norm_tree_parts.proofs.bound.copy.copy_parameters.Goals as goal

pub loop-parameter-preserved : goal.loop-parameter-preserved
loop-parameter-preserved g c =
    let i = c.loop-parameter.parameter-index in
    let more = take_more c.args.parameters.now i c.parameter-item.result (omega arith) in
    rw (c.in_ok-push.ensures.items, more) (all_zip_more (SameBoundParameter g.T.Clone.is_clone) (bound_parameter_view (λ t. t)) _ _ _ _ c.loop-parameter.invariant (rw (← c.parameter-item.is) c.in_ok-copy_parameter.ensures))
