use Rattle.std.proofs.Common.{option_map}
use Rattle.std.proofs.lemmas.Result.{IfOk-weaker}
use Rattle.lalrpop_norm_tree_parts.specs.Reprs.{maybe_repr_of}
use Rattle.lalrpop_norm_shared_types.specs.Shared.{shared_all, shared_view}
use Rattle.lalrpop_norm_model.specs.SameTypes.{same_return, same_types}
use Rattle.lalrpop_norm_tyinfer_steps.specs.Pairs.{same_pairs}
use Rattle.lalrpop_norm_tyinfer_steps.proofs.PairLemmas.{fell, held, first_fails, first_holds}
use Rattle.lalrpop_norm_tyinfer_steps.proofs.same.push_parts.Goals as goal

pub returns-else-branch-clause-same : goal.returns-else-branch-clause-same
returns-else-branch-clause-same c = first_fails (same_types (shared_all c.args.parameters.now.items) (shared_all c.args.other_parameters.now.items))
    (same_return (maybe_repr_of (option_map shared_view c.args.ret.now)) (maybe_repr_of (option_map shared_view c.args.other_ret.now))) (same_pairs c.args.pending.now.items) (fell _ _ _ c.if-branch.false c.in_ok-push_pairs.ensures.same)

pub returns-then-branch-clause-same : goal.returns-then-branch-clause-same
returns-then-branch-clause-same c = IfOk-weaker c.push_results.result _ _ (λ s h. first_holds (same_types (shared_all c.args.parameters.now.items) (shared_all c.args.other_parameters.now.items))
    (same_return (maybe_repr_of (option_map shared_view c.args.ret.now)) (maybe_repr_of (option_map shared_view c.args.other_ret.now))) (same_pairs c.args.pending.now.items) _ s _ (held _ _ _ c.if-branch.true c.in_ok-push_pairs.ensures.same) h) c.push_results.ensures.same
