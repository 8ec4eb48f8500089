use Rattle.std.proofs.Common.{not, take, refl}
use Rattle.std.proofs.lemmas.List.{take_more, take_all}
use Rattle.std.proofs.lemmas.List.Elements.{filter-append}
use Rattle.std.proofs.lemmas.Result.{IfOk-from_err}
use borrow.Author.Count.{falls}
use Rattle.lalrpop_norm_tree_names.specs.declared.names.TypeParameter.{TypeParameter}
use Rattle.lalrpop_norm_tree_parts.specs.FreeVariables.{is_parameter_among}
use Rattle.lalrpop_norm_tree_parts.proofs.lowered.free.less.Goals as goal

pub loop-parameter-init : goal.loop-parameter-init
loop-parameter-init c = c.new-unbound.ensures.items

pub loop-parameter-preserved : goal.loop-parameter-preserved
loop-parameter-preserved c =
    let keeps = λ (p : TypeParameter). not (is_parameter_among c.args.bound.now.items p) in
    let more = take_more c.args.listed.now c.loop-parameter.parameter-index c.parameter-item.result c.loop-parameter-test.true in
    rw (c.in_ok-add_unbound.ensures, more, filter-append keeps (take c.loop-parameter.parameter-index c.args.listed.now) _, ← c.parameter-item.is, c.loop-parameter.invariant) refl

pub loop-parameter-smaller : goal.loop-parameter-smaller
loop-parameter-smaller c = falls _ _ c.loop-parameter-test.true

pub returns : goal.returns
returns c = rw (← take_all c.loop-parameter.parameter-index c.args.listed.now c.loop-parameter-test.false) c.loop-parameter.invariant

pub returns-in_err-add_unbound : goal.returns-in_err-add_unbound
returns-in_err-add_unbound c = IfOk-from_err _ _ c.from_residual.ensures.0
