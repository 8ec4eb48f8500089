use Rattle.std.proofs.Common.{map, ap, ◌∙◌, refl}
use Rattle.std.proofs.lemmas.List.{take_all}
use Rattle.std.proofs.lemmas.Result.{IfOk-from_err}
use borrow.Author.Count.{falls}
use Rattle.lalrpop_norm_tree_parts.proofs.WalkLemmas.{shape_more}
use Rattle.lalrpop_norm_tree.specs.Symbols.{argument_pattern_view}
use Rattle.lalrpop_norm_tree.proofs.SymbolCopies.{name_copied, several_copied, tuple_copied}
use Rattle.lalrpop_norm_tree.proofs.symbol.copy.+copy_pattern.Goals as goal

pub copy_pattern-returns-in_ok-clone-in-Name : goal.copy_pattern-returns-in_ok-clone-in-Name
copy_pattern-returns-in_ok-clone-in-Name t c = name_copied c.args.pattern.now c.in-Name.name c.in_ok-clone-in-Name.field-0 c.in-Name.is c.in_ok-clone-in-Name.ensures.cases

pub copy_pattern-returns-in_ok-copy_tuple-in-Tuple : goal.copy_pattern-returns-in_ok-copy_tuple-in-Tuple
copy_pattern-returns-in_ok-copy_tuple-in-Tuple t c = several_copied c.in-Tuple.tuple c.args.pattern.now c.in_ok-copy_tuple-in-Tuple.field-0 c.in-Tuple.is c.in_ok-copy_tuple-in-Tuple.ensures

pub copy_pattern-returns-in_err-clone-in-Name : goal.copy_pattern-returns-in_err-clone-in-Name
copy_pattern-returns-in_err-clone-in-Name t c = IfOk-from_err _ _ c.from_residual.ensures.0

pub copy_pattern-returns-in_err-copy_tuple-in-Tuple : goal.copy_pattern-returns-in_err-copy_tuple-in-Tuple
copy_pattern-returns-in_err-copy_tuple-in-Tuple t c = IfOk-from_err _ _ c.from_residual-in_err-copy_tuple-in-Tuple.ensures.0

pub copy_tuple-returns-in_err-copy_pattern : goal.copy_tuple-returns-in_err-copy_pattern
copy_tuple-returns-in_err-copy_pattern t c = IfOk-from_err _ _ c.from_residual.ensures.0

pub copy_tuple-returns-in_err-push : goal.copy_tuple-returns-in_err-push
copy_tuple-returns-in_err-push t c = IfOk-from_err _ _ c.from_residual-in_err-push.ensures.0

pub copy_tuple-loop-inner-init : goal.copy_tuple-loop-inner-init
copy_tuple-loop-inner-init t c = rw (c.new-tuples.ensures.items) refl

pub copy_tuple-loop-inner-preserved : goal.copy_tuple-loop-inner-preserved
copy_tuple-loop-inner-preserved t c =
    rw (c.in_ok-push.ensures.items)
    (shape_more argument_pattern_view argument_pattern_view c.deref-inner-items.result.now c.loop-inner.tuples.items c.loop-inner.inner-index c.inner-item.result c.in_ok-copy_pattern.field-0
    c.loop-inner-test.true c.loop-inner.invariant (rw (← c.inner-item.is) c.in_ok-copy_pattern.ensures))

pub copy_tuple-loop-inner-smaller : goal.copy_tuple-loop-inner-smaller
copy_tuple-loop-inner-smaller t c = falls _ _ c.loop-inner-test.true

pub copy_tuple-returns : goal.copy_tuple-returns
copy_tuple-returns t c =
    tuple_copied c.args.tuple.now c.loop-inner.tuples
    (c.loop-inner.invariant ∙ ap (map argument_pattern_view) (take_all c.loop-inner.inner-index c.deref-inner-items.result.now c.loop-inner-test.false ∙ c.deref-inner-items.ensures.value))
