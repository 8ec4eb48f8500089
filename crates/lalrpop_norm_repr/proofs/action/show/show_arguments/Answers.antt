use Rattle.std.proofs.Common.{◌++◌, refl, arith, codes}
use Rattle.std.proofs.Output.{has_written_append, has_written_of_eq, writes_in_calls_nil}
use Rattle.lalrpop_norm_tree_parts.proofs.WrittenLemmas.{not_written}
use Rattle.lalrpop_norm_repr.specs.Actions.{inlined_symbol_view}
use Rattle.lalrpop_norm_repr.specs.ReprTexts.{argument_text}
use Rattle.lalrpop_norm_repr.proofs.SymbolTexts.{joined_each_seen, one_more_text}
use Rattle.lalrpop_norm_repr.proofs.action.show.show_arguments.Goals as goal

pub returns-after-loop-other : goal.returns-after-loop-other
returns-after-loop-other g c =
    λ plain _.
    let first = c.in_ok-show_inlined.ensures plain refl in
    let rest = c.loop-other.invariant first.plain in
    has_written_of_eq _ _ _ _ _ (joined_each_seen inlined_symbol_view argument_text (codes ", ") c.args.arguments.now c.in-Some.first.now c.in-Some.others.now c.loop-other.other-index c.in-Some.ensures.cases.0 (omega arith)) (has_written_append _ _ _ _ _ _ first rest)

pub returns-in_err-show_inlined : goal.returns-in_err-show_inlined
returns-in_err-show_inlined g c = not_written g.W.Write.write_str_gives _ _ _ _ c.from_residual.ensures.0

pub returns-in_err-write_str : goal.returns-in_err-write_str
returns-in_err-write_str g c = not_written g.W.Write.write_str_gives _ _ _ _ c.from_residual-in_err-write_str.ensures.0

pub returns-in_err-show_inlined-2 : goal.returns-in_err-show_inlined-2
returns-in_err-show_inlined-2 g c = not_written g.W.Write.write_str_gives _ _ _ _ c.from_residual-in_err-show_inlined-2.ensures.0

pub loop-other-init : goal.loop-other-init
loop-other-init g c = λ plain. record { wrote = writes_in_calls_nil _ _; plain = plain }

pub loop-other-preserved : goal.loop-other-preserved
loop-other-preserved g c =
    λ plain.
    let before = c.loop-other.invariant plain in
    let between = c.in_ok-write_str.ensures.writes before.plain refl in
    let shown = c.in_ok-show_inlined-2.ensures between.plain refl in
    has_written_of_eq _ _ _ _ _ (one_more_text (λ s. codes ", " ++ argument_text (inlined_symbol_view s)) c.in-Some.others.now c.loop-other.other-index c.other-item.result c.loop-other-test.true c.other-item.is)
    (has_written_append _ _ _ _ _ _ before (has_written_append _ _ _ _ _ _ between shown))
