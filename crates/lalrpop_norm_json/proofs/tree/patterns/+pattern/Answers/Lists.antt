-- Answers on lists of patterns, and of the patterns of fields.
use Rattle.std.proofs.Common.{rules, arith, ◌<◌, length, map, refl, sym, ap}
use Rattle.json_records.specs.Reading.{list_form}
use Rattle.lalrpop_norm_tree.specs.Types.{type_view}
use Rattle.lalrpop_norm_tree_patterns.specs.Patterns.{pattern_view, field_view}
use Rattle.lalrpop_norm_json.specs.PatternForms.{pattern_form, field_form}
use Rattle.lalrpop_norm_json.proofs.Shaped.{told_none, told_some}
use Rattle.lalrpop_norm_json.proofs.Loops as loop
use Rattle.lalrpop_norm_json.proofs.tree.patterns.+pattern.Goals as goal

pub patterns-returns-in_err-first-clause-err : goal.patterns-returns-in_err-first-clause-err
patterns-returns-in_err-first-clause-err t c refused =
    loop.no_item _ _ _ _ _ _ _ _ _ _ (told_some _ _ _ _ c.in-Some.is c.in_ok-depth.ensures.ok) c.loop-list.invariant
    (c.in_err-first.ensures.err refl c.in-Some.depth)

pub patterns-returns-in_err-item-clause-err : goal.patterns-returns-in_err-item-clause-err
patterns-returns-in_err-item-clause-err t c refused =
    loop.item_fails _ _ _ _ _ _ _ _ _ _ (told_some _ _ _ _ c.in-Some.is c.in_ok-depth.ensures.ok) c.loop-list.invariant _
    (told_some _ _ _ _ c.in-Some-2.is c.in_ok-first.ensures.ok) (c.in_err-item.ensures.err (search rules))

pub patterns-loop-list-preserved-in_ok-push-in-Some-3 : goal.patterns-loop-list-preserved-in_ok-push-in-Some-3
patterns-loop-list-preserved-in_ok-push-in-Some-3 t c =
    let l = c.loop-list in
    let done = c.in_ok-item.ensures in
    let less : length c.pattern.new.reader < length l.reader = omega (arith, done.shorter, c.in_ok-first.ensures.shorter) in
    loop.list_item _ _ c.in-Some.depth c.args.reader.now l.reader l.good l.list.items l.invariant _ c.pattern.new.reader c.in-Some-3.item _
    (told_some _ _ _ _ c.in-Some-2.is c.in_ok-first.ensures.ok) (loop.read_as _ _ _ _ _ _ _ c.in-Some-3.is done.ok) less
    c.in_ok-push-in-Some-3.ensures.ok

pub patterns-loop-list-preserved : goal.patterns-loop-list-preserved
patterns-loop-list-preserved t c =
    let l = c.loop-list in
    let done = c.in_ok-item.ensures in
    let less : length c.pattern.new.reader < length l.reader = omega (arith, done.shorter, c.in_ok-first.ensures.shorter) in
    loop.list_bad _ _ c.in-Some.depth c.args.reader.now l.reader l.good l.list.items l.invariant _ c.pattern.new.reader
    (told_some _ _ _ _ c.in-Some-2.is c.in_ok-first.ensures.ok) (loop.read_as _ _ _ _ _ _ _ c.in-None.is done.ok) less

pub patterns-returns-in_ok-fitted-clause-ok : goal.patterns-returns-in_ok-fitted-clause-ok
patterns-returns-in_ok-fitted-clause-ok t c =
    let l = c.loop-list in
    loop.list_whole _ _ _ _ _ _ _ _ l.good l.list.items (told_some _ _ _ _ c.in-Some.is c.in_ok-depth.ensures.ok) l.invariant _ _ _
    c.if-good.true
    (ap (λ xs. list_form (map (λ p. pattern_form (pattern_view type_view p)) xs)) (sym c.in_ok-fitted.ensures.ok))
    (told_none _ _ _ c.in_default-2.is c.in_ok-first.ensures.ok)

pub patterns-returns-else-good-clause-ok : goal.patterns-returns-else-good-clause-ok
patterns-returns-else-good-clause-ok t c =
    let l = c.loop-list in
    loop.list_refused _ _ _ _ _ _ _ _ l.good l.list.items (told_some _ _ _ _ c.in-Some.is c.in_ok-depth.ensures.ok) l.invariant _ _
    c.if-good.false (told_none _ _ _ c.in_default-2.is c.in_ok-first.ensures.ok)

pub field_patterns-returns-in_err-first-clause-err : goal.field_patterns-returns-in_err-first-clause-err
field_patterns-returns-in_err-first-clause-err t c refused =
    loop.no_item _ _ _ _ _ _ _ _ _ _ (told_some _ _ _ _ c.in-Some.is c.in_ok-depth.ensures.ok) c.loop-list.invariant
    (c.in_err-first.ensures.err refl c.in-Some.depth)

pub field_patterns-returns-in_err-item-clause-err : goal.field_patterns-returns-in_err-item-clause-err
field_patterns-returns-in_err-item-clause-err t c refused =
    loop.item_fails _ _ _ _ _ _ _ _ _ _ (told_some _ _ _ _ c.in-Some.is c.in_ok-depth.ensures.ok) c.loop-list.invariant _
    (told_some _ _ _ _ c.in-Some-2.is c.in_ok-first.ensures.ok) (c.in_err-item.ensures.err (search rules))

pub field_patterns-loop-list-preserved-in_ok-push-in-Some-3 : goal.field_patterns-loop-list-preserved-in_ok-push-in-Some-3
field_patterns-loop-list-preserved-in_ok-push-in-Some-3 t c =
    let l = c.loop-list in
    let done = c.in_ok-item.ensures in
    let less : length c.field_pattern.new.reader < length l.reader = omega (arith, done.shorter, c.in_ok-first.ensures.shorter) in
    loop.list_item _ _ c.in-Some.depth c.args.reader.now l.reader l.good l.list.items l.invariant _ c.field_pattern.new.reader
    c.in-Some-3.item _
    (told_some _ _ _ _ c.in-Some-2.is c.in_ok-first.ensures.ok) (loop.read_as _ _ _ _ _ _ _ c.in-Some-3.is done.ok) less
    c.in_ok-push-in-Some-3.ensures.ok

pub field_patterns-loop-list-preserved : goal.field_patterns-loop-list-preserved
field_patterns-loop-list-preserved t c =
    let l = c.loop-list in
    let done = c.in_ok-item.ensures in
    let less : length c.field_pattern.new.reader < length l.reader = omega (arith, done.shorter, c.in_ok-first.ensures.shorter) in
    loop.list_bad _ _ c.in-Some.depth c.args.reader.now l.reader l.good l.list.items l.invariant _ c.field_pattern.new.reader
    (told_some _ _ _ _ c.in-Some-2.is c.in_ok-first.ensures.ok) (loop.read_as _ _ _ _ _ _ _ c.in-None.is done.ok) less

pub field_patterns-returns-in_ok-fitted-clause-ok : goal.field_patterns-returns-in_ok-fitted-clause-ok
field_patterns-returns-in_ok-fitted-clause-ok t c =
    let l = c.loop-list in
    loop.list_whole _ _ _ _ _ _ _ _ l.good l.list.items (told_some _ _ _ _ c.in-Some.is c.in_ok-depth.ensures.ok) l.invariant _ _ _
    c.if-good.true
    (ap (λ xs. list_form (map (λ f. field_form (field_view type_view f)) xs)) (sym c.in_ok-fitted.ensures.ok))
    (told_none _ _ _ c.in_default-2.is c.in_ok-first.ensures.ok)

pub field_patterns-returns-else-good-clause-ok : goal.field_patterns-returns-else-good-clause-ok
field_patterns-returns-else-good-clause-ok t c =
    let l = c.loop-list in
    loop.list_refused _ _ _ _ _ _ _ _ l.good l.list.items (told_some _ _ _ _ c.in-Some.is c.in_ok-depth.ensures.ok) l.invariant _ _
    c.if-good.false (told_none _ _ _ c.in_default-2.is c.in_ok-first.ensures.ok)
