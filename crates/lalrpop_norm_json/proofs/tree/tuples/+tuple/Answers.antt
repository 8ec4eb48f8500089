use Rattle.std.proofs.Common.{[], ◌∷◌, map, refl, sym, ap, ◌∙◌, inl, option_map}
use Rattle.std.specs.Prelude.{codes}
use Rattle.serde_json.specs.Data.{array}
use Rattle.json_records.specs.Reading.{list_form, under}
use Rattle.lalrpop_norm_tree.specs.Symbols.{argument_pattern_view}
use Rattle.lalrpop_norm_json.specs.SymbolForms.{argument_pattern_form, tuple_form}
use Rattle.lalrpop_norm_json.specs.Shapes as shape
use Rattle.lalrpop_norm_json.specs.Shapes.{one}
use Rattle.lalrpop_norm_json.proofs.FormLemmas.{arguments_items}
use Rattle.lalrpop_norm_json.proofs.TupleLemmas.{tuple_seen}
use Rattle.lalrpop_norm_json.proofs.Shaped.{slot_is, told_none, told_some}
use Rattle.lalrpop_norm_json.proofs.Loops as loop
use Rattle.json_records.proofs.Turns as turn
use Rattle.lalrpop_norm_json.proofs.Steps as step
use Rattle.lalrpop_norm_json.proofs.tree.tuples.+tuple.Goals as goal

-- ---- argument_pattern

pub argument_pattern-returns-in_err-depth : goal.argument_pattern-returns-in_err-depth
argument_pattern-returns-in_err-depth t c = step.fails _ _ _ c.from_residual.ensures c.in_err-depth.ensures.err

pub argument_pattern-loop-read-init : goal.argument_pattern-loop-read-init
argument_pattern-loop-read-init t c =
    loop.variant_start _ _ _ c.in-Some.depth c.args.reader.now c.open_object.new.reader (told_some _ _ _ _ c.in-Some.is c.in_ok-depth.ensures.ok).2

pub argument_pattern-returns-in_default : goal.argument_pattern-returns-in_default
argument_pattern-returns-in_default t c =
    step.answers (loop.only_object _ _ c.args.depth _ c.open_object.new.reader (told_none _ _ _ c.in_default.is c.in_ok-depth.ensures.ok)) c.in_ok-depth.ensures.shorter

pub argument_pattern-returns-in_err-name : goal.argument_pattern-returns-in_err-name
argument_pattern-returns-in_err-name t c =
    step.stops _ _ c.from_residual-in_err-name.ensures.0
    (loop.no_member _ _ _ _ _ _ _ (told_some _ _ _ _ c.in-Some.is c.in_ok-depth.ensures.ok) c.loop-read.invariant.so_far (c.in_err-name.ensures.err refl c.in-Some.depth))

pub argument_pattern-returns-in_err-pass : goal.argument_pattern-returns-in_err-pass
argument_pattern-returns-in_err-pass t c =
    step.fails _ _ _ c.from_residual-in_err-pass.ensures
    (λ same. loop.no_value _ _ _ _ _ _ _ (told_some _ _ _ _ c.in-Some.is c.in_ok-depth.ensures.ok) c.loop-read.invariant.so_far _ _
    (told_some _ _ _ _ c.in-Some-2.is c.in_ok-name.ensures.ok) (c.in_err-pass.ensures.err same))

pub argument_pattern-returns-in_err-read : goal.argument_pattern-returns-in_err-read
argument_pattern-returns-in_err-read t c =
    step.fails _ _ _ c.from_residual-in_err-read.ensures
    (λ same. loop.no_value _ _ _ _ _ _ _ (told_some _ _ _ _ c.in-Some.is c.in_ok-depth.ensures.ok) c.loop-read.invariant.so_far _ _
    (told_some _ _ _ _ c.in-Some-2.is c.in_ok-name.ensures.ok) (c.in_err-read.ensures.err same))

pub argument_pattern-loop-read-preserved-then-is_other : goal.argument_pattern-loop-read-preserved-then-is_other
argument_pattern-loop-read-preserved-then-is_other t c =
    loop.variant_other _ _ _ c.in-Some.depth c.args.reader.now c.loop-read.reader c.loop-read.before c.loop-read.strays c.loop-read.read c.loop-read.invariant c.in-Some-2.name.now
    _ c.pass.new.reader (sym c.is_other.ensures ∙ c.if-is_other.true) (told_some _ _ _ _ c.in-Some-2.is c.in_ok-name.ensures.ok) c.in_ok-pass.ensures.ok
    (turn.less_than c.in_ok-pass.ensures.shorter c.in_ok-name.ensures.shorter)

pub argument_pattern-loop-read-preserved : goal.argument_pattern-loop-read-preserved
argument_pattern-loop-read-preserved t c =
    loop.variant_same _ _ _ c.in-Some.depth c.args.reader.now c.loop-read.reader c.loop-read.before c.loop-read.strays c.loop-read.read c.loop-read.invariant c.in-Some-2.name.now _
    c.argument_pattern_of.new.reader c.in_ok-read.read (sym c.is_other.ensures ∙ c.if-is_other.false) (told_some _ _ _ _ c.in-Some-2.is c.in_ok-name.ensures.ok)
    c.in_ok-read.ensures.ok (turn.less_than c.in_ok-read.ensures.shorter c.in_ok-name.ensures.shorter)

pub argument_pattern-returns-then-strays : goal.argument_pattern-returns-then-strays
argument_pattern-returns-then-strays t c =
    step.answers
    (loop.variant_strays _ _ _ _ _ _ _ _ _ _ _ c.loop-read.strays c.loop-read.read (told_some _ _ _ _ c.in-Some.is c.in_ok-depth.ensures.ok) c.loop-read.invariant
    (told_none _ _ _ c.in_default-2.is c.in_ok-name.ensures.ok) c.if-strays.true)
    (turn.no_more c.loop-read.invariant.so_far.shorter c.in_ok-name.ensures.shorter)

pub argument_pattern-returns : goal.argument_pattern-returns
argument_pattern-returns t c =
    step.answers
    (loop.variant_whole _ _ _ _ _ _ _ _ _ _ _ c.loop-read.strays c.loop-read.read (told_some _ _ _ _ c.in-Some.is c.in_ok-depth.ensures.ok) c.loop-read.invariant
    (told_none _ _ _ c.in_default-2.is c.in_ok-name.ensures.ok) c.if-strays.false)
    (turn.no_more c.loop-read.invariant.so_far.shorter c.in_ok-name.ensures.shorter)

pub argument_pattern-loop-read-smaller : goal.argument_pattern-loop-read-smaller
argument_pattern-loop-read-smaller t c = turn.less_than c.in_ok-read.ensures.shorter c.in_ok-name.ensures.shorter

pub argument_pattern-loop-read-smaller-then-is_other : goal.argument_pattern-loop-read-smaller-then-is_other
argument_pattern-loop-read-smaller-then-is_other t c = turn.less_than c.in_ok-pass.ensures.shorter c.in_ok-name.ensures.shorter

pub argument_pattern-argument_pattern_of-requires : goal.argument_pattern-argument_pattern_of-requires
argument_pattern-argument_pattern_of-requires t c = (step.twice_one c.in_ok-name.ensures.shorter c.loop-read.invariant.so_far.shorter c.decreases, tt)

-- ---- tuple

pub tuple-returns-in_default : goal.tuple-returns-in_default
tuple-returns-in_default t c =
    step.answers (loop.no_object _ _ c.args.depth _ c.open_object.new.reader (told_none _ _ _ c.in_default.is c.in_ok-depth.ensures.ok)) c.in_ok-depth.ensures.shorter

pub tuple-returns-in_err-depth : goal.tuple-returns-in_err-depth
tuple-returns-in_err-depth t c = step.fails _ _ _ c.from_residual.ensures c.in_err-depth.ensures.err

pub tuple-loop-tuples-init : goal.tuple-loop-tuples-init
tuple-loop-tuples-init t c = loop.record_start _ c.in-Some.depth c.args.reader.now c.open_object.new.reader (told_some _ _ _ _ c.in-Some.is c.in_ok-depth.ensures.ok).2

pub tuple-returns-in_err-key : goal.tuple-returns-in_err-key
tuple-returns-in_err-key t c =
    step.stops _ _ c.from_residual-in_err-key.ensures.0
    (loop.no_member _ _ _ _ _ _ _ (told_some _ _ _ _ c.in-Some.is c.in_ok-depth.ensures.ok) c.loop-tuples.invariant.so_far (c.in_err-key.ensures.err refl c.in-Some.depth))

pub tuple-returns-then-strays : goal.tuple-returns-then-strays
tuple-returns-then-strays t c =
    step.answers
    (loop.record_strays _ _ _ _ _ _ _ _ _ _ c.loop-tuples.strays (told_some _ _ _ _ c.in-Some.is c.in_ok-depth.ensures.ok) c.loop-tuples.invariant
    (told_none _ _ _ c.in_default-2.is c.in_ok-key.ensures.ok) c.if-strays.true)
    (turn.no_more c.loop-tuples.invariant.so_far.shorter c.in_ok-key.ensures.shorter)

pub tuple-returns-in_err-tuples-in-tuples : goal.tuple-returns-in_err-tuples-in-tuples
tuple-returns-in_err-tuples-in-tuples t c =
    step.fails _ _ _ c.from_residual-in_err-tuples-in-tuples.ensures
    (λ same. loop.no_value _ _ _ _ _ _ _ (told_some _ _ _ _ c.in-Some.is c.in_ok-depth.ensures.ok) c.loop-tuples.invariant.so_far _ _
    (told_some _ _ _ _ c.in-Some-2.is c.in_ok-key.ensures.ok) (c.in_err-tuples-in-tuples.ensures.err same))

pub tuple-returns-in_err-pass-in_default-key : goal.tuple-returns-in_err-pass-in_default-key
tuple-returns-in_err-pass-in_default-key t c =
    step.fails _ _ _ c.from_residual-in_err-pass-in_default-key.ensures
    (λ same. loop.no_value _ _ _ _ _ _ _ (told_some _ _ _ _ c.in-Some.is c.in_ok-depth.ensures.ok) c.loop-tuples.invariant.so_far _ _
    (told_some _ _ _ _ c.in-Some-2.is c.in_ok-key.ensures.ok) (c.in_err-pass-in_default-key.ensures.err same))

pub tuple-loop-tuples-preserved-then-str_eq : goal.tuple-loop-tuples-preserved-then-str_eq
tuple-loop-tuples-preserved-then-str_eq t c =
    loop.record_field _ c.in-Some.depth c.args.reader.now c.loop-tuples.reader _ c.loop-tuples.strays c.loop-tuples.invariant _ _ c.in-Some-2.key.now _
    c.argument_patterns.new.reader c.in_ok-tuples-in-tuples.tuples _ refl (told_some _ _ _ _ c.in-Some-2.is c.in_ok-key.ensures.ok) c.in_ok-tuples-in-tuples.ensures.ok
    (turn.less_than c.in_ok-tuples-in-tuples.ensures.shorter c.in_ok-key.ensures.shorter) (λ made. inl (c.in-tuples.is, made, refl))

pub tuple-loop-tuples-preserved : goal.tuple-loop-tuples-preserved
tuple-loop-tuples-preserved t c =
    loop.record_stray _ c.in-Some.depth c.args.reader.now c.loop-tuples.reader _ c.loop-tuples.strays c.loop-tuples.invariant c.in-Some-2.key.now _ c.pass.new.reader
    (c.in_default-key.not-tuples, tt) (told_some _ _ _ _ c.in-Some-2.is c.in_ok-key.ensures.ok) c.in_ok-pass-in_default-key.ensures.ok
    (turn.less_than c.in_ok-pass-in_default-key.ensures.shorter c.in_ok-key.ensures.shorter)

pub tuple-returns-in_default-tuples : goal.tuple-returns-in_default-tuples
tuple-returns-in_default-tuples t c =
    step.answers
    (loop.record_lacks _ _ _ _ _ _ _ _ _ _ c.loop-tuples.strays (told_some _ _ _ _ c.in-Some.is c.in_ok-depth.ensures.ok) c.loop-tuples.invariant
    (told_none _ _ _ c.in_default-2.is c.in_ok-key.ensures.ok) refl c.if-strays.false
    (inl (ap (option_map (λ xs. list_form (map (λ p. argument_pattern_form (argument_pattern_view p)) xs.items))) c.in_default-tuples.is)))
    (turn.no_more c.loop-tuples.invariant.so_far.shorter c.in_ok-key.ensures.shorter)

pub tuple-returns : goal.tuple-returns
tuple-returns t c =
    step.answers
    (loop.record_whole _ _ _ _ _ _ _ _ _ _ c.loop-tuples.strays (told_some _ _ _ _ c.in-Some.is c.in_ok-depth.ensures.ok) c.loop-tuples.invariant
    (told_none _ _ _ c.in_default-2.is c.in_ok-key.ensures.ok) (list_form (map (λ p. argument_pattern_form (argument_pattern_view p)) c.in-Some-tuples.tuples.items) ∷ []) _
    c.if-strays.false (rw c.in-Some-tuples.is refl)
    (ap (λ ds. under (codes "tuples") (array ds)) (arguments_items c.in-Some-tuples.tuples.items) ∙ ap tuple_form (sym (tuple_seen c.in-Some-tuples.tuples))))
    (turn.no_more c.loop-tuples.invariant.so_far.shorter c.in_ok-key.ensures.shorter)

pub tuple-loop-tuples-smaller : goal.tuple-loop-tuples-smaller
tuple-loop-tuples-smaller t c = turn.less_than c.in_ok-pass-in_default-key.ensures.shorter c.in_ok-key.ensures.shorter

pub tuple-loop-tuples-smaller-then-str_eq : goal.tuple-loop-tuples-smaller-then-str_eq
tuple-loop-tuples-smaller-then-str_eq t c = turn.less_than c.in_ok-tuples-in-tuples.ensures.shorter c.in_ok-key.ensures.shorter

pub tuple-argument_patterns-requires : goal.tuple-argument_patterns-requires
tuple-argument_patterns-requires t c = (step.twice c.in_ok-key.ensures.shorter c.loop-tuples.invariant.so_far.shorter c.decreases, tt)

-- ---- argument_patterns

pub argument_patterns-returns-in_default : goal.argument_patterns-returns-in_default
argument_patterns-returns-in_default t c =
    step.answers
    (loop.no_array (λ p. argument_pattern_form (argument_pattern_view p)) _ _ c.args.depth _ c.open_array.new.reader (told_none _ _ _ c.in_default.is c.in_ok-depth.ensures.ok))
    c.in_ok-depth.ensures.shorter

pub argument_patterns-returns-in_err-depth : goal.argument_patterns-returns-in_err-depth
argument_patterns-returns-in_err-depth t c = step.fails _ _ _ c.from_residual.ensures c.in_err-depth.ensures.err

pub argument_patterns-returns-in_err-first : goal.argument_patterns-returns-in_err-first
argument_patterns-returns-in_err-first t c =
    step.stops _ _ c.from_residual-in_err-first.ensures.0
    (loop.no_item _ _ _ _ _ _ _ _ _ _ (told_some _ _ _ _ c.in-Some.is c.in_ok-depth.ensures.ok) c.loop-list.invariant (c.in_err-first.ensures.err refl c.in-Some.depth))

pub argument_patterns-returns-in_err-item : goal.argument_patterns-returns-in_err-item
argument_patterns-returns-in_err-item t c =
    step.fails _ _ _ c.from_residual-in_err-item.ensures
    (λ same. loop.item_fails _ _ _ _ _ _ _ _ _ _ (told_some _ _ _ _ c.in-Some.is c.in_ok-depth.ensures.ok) c.loop-list.invariant _
    (told_some _ _ _ _ c.in-Some-2.is c.in_ok-first.ensures.ok) (c.in_err-item.ensures.err same))

pub argument_patterns-loop-list-preserved-in_ok-push-in-Some-3 : goal.argument_patterns-loop-list-preserved-in_ok-push-in-Some-3
argument_patterns-loop-list-preserved-in_ok-push-in-Some-3 t c =
    loop.list_item _ _ c.in-Some.depth c.args.reader.now c.loop-list.reader c.loop-list.good c.loop-list.list.items c.loop-list.invariant _ c.argument_pattern.new.reader
    c.in-Some-3.item _ (told_some _ _ _ _ c.in-Some-2.is c.in_ok-first.ensures.ok) (loop.read_as _ _ _ _ _ _ _ c.in-Some-3.is c.in_ok-item.ensures.ok)
    (turn.less_than c.in_ok-item.ensures.shorter c.in_ok-first.ensures.shorter) c.in_ok-push-in-Some-3.ensures.ok

pub argument_patterns-loop-list-preserved : goal.argument_patterns-loop-list-preserved
argument_patterns-loop-list-preserved t c =
    loop.list_bad _ _ c.in-Some.depth c.args.reader.now c.loop-list.reader c.loop-list.good c.loop-list.list.items c.loop-list.invariant _ c.argument_pattern.new.reader
    (told_some _ _ _ _ c.in-Some-2.is c.in_ok-first.ensures.ok) (loop.read_as _ _ _ _ _ _ _ c.in-None.is c.in_ok-item.ensures.ok)
    (turn.less_than c.in_ok-item.ensures.shorter c.in_ok-first.ensures.shorter)

pub argument_patterns-returns-in_ok-fitted : goal.argument_patterns-returns-in_ok-fitted
argument_patterns-returns-in_ok-fitted t c =
    step.answers
    (loop.list_whole _ _ _ _ _ _ _ _ c.loop-list.good c.loop-list.list.items (told_some _ _ _ _ c.in-Some.is c.in_ok-depth.ensures.ok) c.loop-list.invariant _ _ _ c.if-good.true
    (ap (λ xs. list_form (map (λ p. argument_pattern_form (argument_pattern_view p)) xs)) (sym c.in_ok-fitted.ensures.ok))
    (told_none _ _ _ c.in_default-2.is c.in_ok-first.ensures.ok))
    (turn.no_more c.loop-list.invariant.so_far.shorter c.in_ok-first.ensures.shorter)

pub argument_patterns-returns-else-good : goal.argument_patterns-returns-else-good
argument_patterns-returns-else-good t c =
    step.answers
    (loop.list_refused _ _ _ _ _ _ _ _ c.loop-list.good c.loop-list.list.items (told_some _ _ _ _ c.in-Some.is c.in_ok-depth.ensures.ok) c.loop-list.invariant _ _ c.if-good.false
    (told_none _ _ _ c.in_default-2.is c.in_ok-first.ensures.ok))
    (turn.no_more c.loop-list.invariant.so_far.shorter c.in_ok-first.ensures.shorter)

pub argument_patterns-returns-in_err-fitted : goal.argument_patterns-returns-in_err-fitted
argument_patterns-returns-in_err-fitted t c = step.fails _ _ _ c.from_residual-in_err-fitted.ensures (λ same. absurd (c.in_err-fitted.ensures.err same))

pub argument_patterns-returns-in_err-push-in-Some-3 : goal.argument_patterns-returns-in_err-push-in-Some-3
argument_patterns-returns-in_err-push-in-Some-3 t c = step.fails _ _ _ c.from_residual-in_err-push-in-Some-3.ensures (λ same. absurd (c.in_err-push-in-Some-3.ensures.err same))

pub argument_patterns-loop-list-smaller : goal.argument_patterns-loop-list-smaller
argument_patterns-loop-list-smaller t c = turn.less_than c.in_ok-item.ensures.shorter c.in_ok-first.ensures.shorter

pub argument_patterns-loop-list-smaller-in_ok-push-in-Some-3 : goal.argument_patterns-loop-list-smaller-in_ok-push-in-Some-3
argument_patterns-loop-list-smaller-in_ok-push-in-Some-3 t c = turn.less_than c.in_ok-item.ensures.shorter c.in_ok-first.ensures.shorter

pub argument_patterns-argument_pattern-requires : goal.argument_patterns-argument_pattern-requires
argument_patterns-argument_pattern-requires t c = (step.twice c.in_ok-first.ensures.shorter c.loop-list.invariant.so_far.shorter c.decreases, tt)

-- ---- argument_pattern_of

pub argument_pattern_of-returns-in-None : goal.argument_pattern_of-returns-in-None
argument_pattern_of-returns-in-None t c =
    step.answers (loop.no_variant_of _ _ _ _ _ _ _ _ _ _ c.in-Name.is c.in-None.is c.in_ok-read-in-Name.ensures.ok (λ d e. slot_is (one shape.symbol_name) d ∙ e))
    c.in_ok-read-in-Name.ensures.shorter

pub argument_pattern_of-returns-in-Some-clause-err : goal.argument_pattern_of-returns-in-Some-clause-err
argument_pattern_of-returns-in-Some-clause-err t c = turn.never_refused

pub argument_pattern_of-returns-in-Some-clause-shorter : goal.argument_pattern_of-returns-in-Some-clause-shorter
argument_pattern_of-returns-in-Some-clause-shorter t c = c.in_ok-read-in-Name.ensures.shorter

pub argument_pattern_of-returns-in_err-pass-in_default : goal.argument_pattern_of-returns-in_err-pass-in_default
argument_pattern_of-returns-in_err-pass-in_default t c = step.fails _ _ _ c.from_residual-in_err-pass-in_default.ensures c.in_err-pass-in_default.ensures.err

pub argument_pattern_of-returns-in_err-read-in-Name : goal.argument_pattern_of-returns-in_err-read-in-Name
argument_pattern_of-returns-in_err-read-in-Name t c = step.fails _ _ _ c.from_residual.ensures c.in_err-read-in-Name.ensures.err

pub argument_pattern_of-returns-in_ok-pass-in_default : goal.argument_pattern_of-returns-in_ok-pass-in_default
argument_pattern_of-returns-in_ok-pass-in_default t c =
    step.answers (loop.no_variant_there _ _ _ _ _ _ _ (c.in_default.not-Name, (c.in_default.not-Tuple, tt)) c.in_ok-pass-in_default.ensures.ok)
    c.in_ok-pass-in_default.ensures.shorter
