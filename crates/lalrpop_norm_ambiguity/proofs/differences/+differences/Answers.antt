use Rattle.std.proofs.Common.{◌≡◌, ◌+◌, ◌≤◌, ◌<◌, ◌∙◌, sym, ap, length, arith, drop, Some}
use Rattle.std.specs.Prelude.{option_map, reverse}
use Rattle.lalrpop_norm_explain.specs.Trees.{written_view, written_views}
use Rattle.lalrpop_norm_ambiguity.specs.Differences.{children_difference, tree_difference, merged, at_child, upwards}
use Rattle.lalrpop_norm_ambiguity.proofs.Steps.{next_difference, merged_in_row, merged_none, differences_done, uneven}
use Rattle.lalrpop_norm_ambiguity.proofs.differences.+differences.Goals as goal

pub differences-returns-then-firsts-seconds : goal.differences-returns-then-firsts-seconds
differences-returns-then-firsts-seconds t c =
    ap (λ xs. Some (reverse xs)) c.new.ensures.items ∙ sym (uneven c.args.firsts.now c.args.seconds.now 0 c.if-firsts-seconds.true)

pub differences-loop-index-preserved : goal.differences-loop-index-preserved
differences-loop-index-preserved t c =
    let i = c.loop-index.index in
    let lt = c.loop-index-test.true in
    let ls : i < length c.args.seconds.now = omega arith in
    let step = next_difference c.args.firsts.now i c.index-firsts-index.result lt c.index-firsts-index.is c.args.seconds.now c.index-seconds-index.result ls c.index-seconds-index.is in
    let rest = children_difference (written_views (drop (i + 1) c.args.firsts.now)) (written_views (drop (i + 1) c.args.seconds.now)) (i + 1) in
    ap (λ o. merged o rest) c.in_ok-found.ensures
    ∙ merged_in_row (option_map upwards c.loop-index.found) (at_child i (option_map upwards c.in_ok-here.here)) rest
    ∙ ap (λ o. merged (option_map upwards c.loop-index.found) (merged (at_child i o) rest)) c.in_ok-here.ensures
    ∙ ap (merged (option_map upwards c.loop-index.found)) (sym step)
    ∙ c.loop-index.invariant

pub differences-returns : goal.differences-returns
differences-returns t c =
    let same : length c.args.firsts.now ≡ length c.args.seconds.now = omega arith in
    let done : length c.args.firsts.now ≤ c.loop-index.index = omega arith in
    sym (merged_none (option_map upwards c.loop-index.found))
    ∙ ap (merged (option_map upwards c.loop-index.found)) (sym (differences_done c.args.firsts.now c.args.seconds.now c.loop-index.index same done))
    ∙ c.loop-index.invariant
