use Rattle.std.proofs.Common.{ap, ◌∙◌, rules}
use Rattle.std.specs.Str.Iter.{lines_rest}
use Rattle.lalrpop_norm_explain.specs.Trees.{lowered_views}
use Rattle.lexplain_lines.specs.LineForms.{all_lowered_forms}
use Rattle.lexplain_lines.specs.Lines.{lowered_line_form}
use Rattle.lexplain_lines.proofs.Refusals.{lowered_line_refused, lowered_trees_lacking}
use Rattle.lexplain_lines.proofs.SoFar.{none_so_far, one_more, all_so_far}
use Rattle.lexplain_lines.proofs.read.lowered_trees.Goals as goal

pub loop-line-init : goal.loop-line-init
loop-line-init c = (
  tt,
  tt,
  none_so_far c.args.lines.now c.into_iter-line-iterator.result (all_lowered_forms (lowered_views c.new-trees.result.items))
      (ap lines_rest c.into_iter-line-iterator.ensures.into_iter_gives ∙ c.lines-line-items.ensures.rest)
      (ap (λ us. all_lowered_forms (lowered_views us)) c.new-trees.ensures.items),
)

pub loop-line-preserved : goal.loop-line-preserved
loop-line-preserved c = (
  tt,
  tt,
  one_more c.args.lines.now c.loop-line.line-iterator c.next.new.self
      (all_lowered_forms (lowered_views c.loop-line.trees.items)) (all_lowered_forms (lowered_views c.take_lowered.new.trees.items))
      c.in-Some.line (lowered_line_form c.in_ok-line.line) c.loop-line.invariant.2 c.in-Some.ensures.steps c.in_ok-line.ensures.ok c.in_ok-take_lowered.ensures.ok,
)

pub returns-in_err-line-clause-not : goal.returns-in_err-line-clause-not
returns-in_err-line-clause-not c = λ refused us whole.
    lowered_line_refused c.args.lines.now c.loop-line.line-iterator c.next.new.self c.loop-line.trees.items c.in-Some.line c.loop-line.invariant.2 c.in-Some.ensures.steps us whole
    (c.in_err-line.ensures.not (search rules))

pub returns-in_err-take_lowered-clause-not : goal.returns-in_err-take_lowered-clause-not
returns-in_err-take_lowered-clause-not c = λ refused us whole.
    lowered_trees_lacking c.args.lines.now c.loop-line.line-iterator c.next.new.self c.loop-line.trees.items c.in-Some.line c.loop-line.invariant.2 c.in-Some.ensures.steps us whole
    c.in_ok-line.line c.in_ok-line.ensures.ok (c.in_err-take_lowered.ensures.not (search rules))

pub returns-clause-ok : goal.returns-clause-ok
returns-clause-ok c =
    all_so_far c.args.lines.now c.loop-line.line-iterator c.next.new.self (all_lowered_forms (lowered_views c.loop-line.trees.items)) c.loop-line.invariant.2 c.in-None.ensures.steps
