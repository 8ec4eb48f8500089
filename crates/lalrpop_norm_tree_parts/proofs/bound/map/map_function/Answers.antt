use Rattle.std.specs.Fn.{CalledAt}
use Rattle.lalrpop_norm_tree_parts.proofs.BoundWalks.{function_answered, function_kept, parameters_ended, return_ended}
use Rattle.lalrpop_norm_tree_parts.proofs.WalkLemmas.{if_err_is}
use Rattle.lalrpop_norm_tree_parts.proofs.bound.map.map_function.Goals as goal

pub returns-in_err-parameters-clause-ended : goal.returns-in_err-parameters-clause-ended
returns-in_err-parameters-clause-ended g c =
    if_err_is _ _ _ c.from_residual.ensures.1
    (parameters_ended (CalledAt g.F.FnMut) (g.E.From.from_gives record {}) c.args.f.now c.map_types.new.f c.args.parameters.now.items c.args.ret.now c.in_err-parameters.field-0.0
    (rw (← c.deref.ensures.value) c.in_err-parameters.ensures.ended))

pub returns-in_err-ret-clause-ended : goal.returns-in_err-ret-clause-ended
returns-in_err-ret-clause-ended g c =
    if_err_is _ _ _ c.from_residual-in_err-ret.ensures.1
    (return_ended (CalledAt g.F.FnMut) (g.E.From.from_gives record {}) c.args.f.now c.map_types.new.f c.map_return.new.f c.args.parameters.now.items c.args.ret.now c.in_ok-parameters.parameters.items c.in_err-ret.field-0.0
    (rw (← c.deref.ensures.value) c.in_ok-parameters.ensures.answered) c.in_err-ret.ensures.ended)

pub returns-clause-kept : goal.returns-clause-kept
returns-clause-kept g c =
    function_kept (CalledAt g.F.FnMut) _ _ c.args.f.now c.map_types.new.f c.map_return.new.f c.args.parameters.now.items c.args.ret.now c.in_ok-parameters.parameters.items c.in_ok-ret.ret
    (rw (← c.deref.ensures.value) c.in_ok-parameters.ensures.answered) c.in_ok-ret.ensures.answered

pub returns-clause-answered : goal.returns-clause-answered
returns-clause-answered g c =
    function_answered (CalledAt g.F.FnMut) c.args.f.now c.map_types.new.f c.map_return.new.f c.args.parameters.now.items c.args.ret.now c.in_ok-parameters.parameters.items c.in_ok-ret.ret
    (rw (← c.deref.ensures.value) c.in_ok-parameters.ensures.answered) c.in_ok-ret.ensures.answered
