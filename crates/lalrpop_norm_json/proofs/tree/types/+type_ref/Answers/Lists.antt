-- Answers on lists of types: alone, and behind a path.
use Rattle.std.proofs.Common.{[], ◌∷◌, map, refl, sym, ap, inl, inr, option_map}
use Rattle.json_records.specs.Reading.{list_form}
use Rattle.lalrpop_norm_tree_parts.specs.Paths.{path_view}
use Rattle.lalrpop_norm_tree.specs.Types.{type_view}
use Rattle.lalrpop_norm_json.specs.Forms.{path_form}
use Rattle.lalrpop_norm_json.specs.TypeForms.{type_form}
use Rattle.lalrpop_norm_json.proofs.Shaped.{told_none, told_some}
use Rattle.json_records.proofs.Turns as turn
use Rattle.lalrpop_norm_json.proofs.Loops as loop
use Rattle.lalrpop_norm_json.proofs.Steps as step
use Rattle.lalrpop_norm_json.proofs.TypesRead.{less_left}
use Rattle.lalrpop_norm_json.proofs.tree.types.+type_ref.Goals as goal

pub type_refs-returns-in_err-depth : goal.type_refs-returns-in_err-depth
type_refs-returns-in_err-depth t c = step.fails _ _ _ c.from_residual.ensures c.in_err-depth.ensures.err

pub type_refs-returns-in_default : goal.type_refs-returns-in_default
type_refs-returns-in_default t c =
    step.answers (loop.no_array (λ t. type_form (type_view t)) _ _ c.args.depth _ c.open_array.new.reader
    (told_none _ _ _ c.in_default.is c.in_ok-depth.ensures.ok))
    c.in_ok-depth.ensures.shorter

pub type_refs-returns-in_err-first : goal.type_refs-returns-in_err-first
type_refs-returns-in_err-first t c =
    step.stops _ _ c.from_residual-in_err-first.ensures.0
    (loop.no_item _ _ _ _ _ _ _ _ _ _ (told_some _ _ _ _ c.in-Some.is c.in_ok-depth.ensures.ok) c.loop-list.invariant
    (c.in_err-first.ensures.err refl c.in-Some.depth))

pub type_refs-returns-in_err-item : goal.type_refs-returns-in_err-item
type_refs-returns-in_err-item t c =
    step.fails _ _ _ c.from_residual-in_err-item.ensures
    (λ same. loop.item_fails _ _ _ _ _ _ _ _ _ _ (told_some _ _ _ _ c.in-Some.is c.in_ok-depth.ensures.ok) c.loop-list.invariant _
    (told_some _ _ _ _ c.in-Some-2.is c.in_ok-first.ensures.ok) (c.in_err-item.ensures.err same))

pub type_refs-loop-list-preserved-in_ok-push-in-Some-3 : goal.type_refs-loop-list-preserved-in_ok-push-in-Some-3
type_refs-loop-list-preserved-in_ok-push-in-Some-3 t c =
    loop.list_item _ _ c.in-Some.depth c.args.reader.now c.loop-list.reader c.loop-list.good c.loop-list.list.items c.loop-list.invariant _
    c.type_ref.new.reader c.in-Some-3.item _
    (told_some _ _ _ _ c.in-Some-2.is c.in_ok-first.ensures.ok) (loop.read_as _ _ _ _ _ _ _ c.in-Some-3.is c.in_ok-item.ensures.ok)
    (turn.less_than c.in_ok-item.ensures.shorter c.in_ok-first.ensures.shorter) c.in_ok-push-in-Some-3.ensures.ok

pub type_refs-loop-list-preserved : goal.type_refs-loop-list-preserved
type_refs-loop-list-preserved t c =
    loop.list_bad _ _ c.in-Some.depth c.args.reader.now c.loop-list.reader c.loop-list.good c.loop-list.list.items c.loop-list.invariant _
    c.type_ref.new.reader
    (told_some _ _ _ _ c.in-Some-2.is c.in_ok-first.ensures.ok) (loop.read_as _ _ _ _ _ _ _ c.in-None.is c.in_ok-item.ensures.ok)
    (turn.less_than c.in_ok-item.ensures.shorter c.in_ok-first.ensures.shorter)

pub type_refs-returns-in_ok-fitted : goal.type_refs-returns-in_ok-fitted
type_refs-returns-in_ok-fitted t c =
    step.answers
    (loop.list_whole _ _ _ _ _ _ _ _ c.loop-list.good c.loop-list.list.items (told_some _ _ _ _ c.in-Some.is c.in_ok-depth.ensures.ok)
    c.loop-list.invariant _ _ _ c.if-good.true
    (ap (λ xs. list_form (map (λ t. type_form (type_view t)) xs)) (sym c.in_ok-fitted.ensures.ok))
    (told_none _ _ _ c.in_default-2.is c.in_ok-first.ensures.ok))
    (turn.no_more c.loop-list.invariant.so_far.shorter c.in_ok-first.ensures.shorter)

pub type_refs-returns-else-good : goal.type_refs-returns-else-good
type_refs-returns-else-good t c =
    step.answers
    (loop.list_refused _ _ _ _ _ _ _ _ c.loop-list.good c.loop-list.list.items (told_some _ _ _ _ c.in-Some.is c.in_ok-depth.ensures.ok)
    c.loop-list.invariant _ _ c.if-good.false (told_none _ _ _ c.in_default-2.is c.in_ok-first.ensures.ok))
    (turn.no_more c.loop-list.invariant.so_far.shorter c.in_ok-first.ensures.shorter)

pub type_refs-returns-in_err-push-in-Some-3 : goal.type_refs-returns-in_err-push-in-Some-3
type_refs-returns-in_err-push-in-Some-3 t c =
    step.fails _ _ _ c.from_residual-in_err-push-in-Some-3.ensures (λ same. absurd (c.in_err-push-in-Some-3.ensures.err same))

pub type_refs-returns-in_err-fitted : goal.type_refs-returns-in_err-fitted
type_refs-returns-in_err-fitted t c =
    step.fails _ _ _ c.from_residual-in_err-fitted.ensures (λ same. absurd (c.in_err-fitted.ensures.err same))

pub type_refs-loop-list-smaller-in_ok-push-in-Some-3 : goal.type_refs-loop-list-smaller-in_ok-push-in-Some-3
type_refs-loop-list-smaller-in_ok-push-in-Some-3 t c = turn.less_than c.in_ok-item.ensures.shorter c.in_ok-first.ensures.shorter

pub type_refs-loop-list-smaller : goal.type_refs-loop-list-smaller
type_refs-loop-list-smaller t c = turn.less_than c.in_ok-item.ensures.shorter c.in_ok-first.ensures.shorter

pub type_refs-type_ref-requires : goal.type_refs-type_ref-requires
type_refs-type_ref-requires t c = (step.thrice c.in_ok-first.ensures.shorter c.loop-list.invariant.so_far.shorter c.decreases, tt)

pub path_and_types-returns-in_err-depth : goal.path_and_types-returns-in_err-depth
path_and_types-returns-in_err-depth t c = step.fails _ _ _ c.from_residual.ensures c.in_err-depth.ensures.err

pub path_and_types-returns-in_default : goal.path_and_types-returns-in_default
path_and_types-returns-in_default t c =
    step.answers (loop.no_object _ _ c.args.depth _ c.open_object.new.reader (told_none _ _ _ c.in_default.is c.in_ok-depth.ensures.ok))
    c.in_ok-depth.ensures.shorter

pub path_and_types-loop-types-init : goal.path_and_types-loop-types-init
path_and_types-loop-types-init t c =
    loop.record_start _ c.in-Some.depth c.args.reader.now c.open_object.new.reader
    (told_some _ _ _ _ c.in-Some.is c.in_ok-depth.ensures.ok).2

pub path_and_types-returns-in_err-key : goal.path_and_types-returns-in_err-key
path_and_types-returns-in_err-key t c =
    step.stops _ _ c.from_residual-in_err-key.ensures.0
    (loop.no_member _ _ _ _ _ _ _ (told_some _ _ _ _ c.in-Some.is c.in_ok-depth.ensures.ok) c.loop-types.invariant.so_far
    (c.in_err-key.ensures.err refl c.in-Some.depth))

pub path_and_types-returns-then-strays : goal.path_and_types-returns-then-strays
path_and_types-returns-then-strays t c =
    step.answers
    (loop.record_strays _ _ _ _ _ _ _ _ _ _ c.loop-types.strays (told_some _ _ _ _ c.in-Some.is c.in_ok-depth.ensures.ok)
    c.loop-types.invariant (told_none _ _ _ c.in_default-2.is c.in_ok-key.ensures.ok) c.if-strays.true)
    (turn.no_more c.loop-types.invariant.so_far.shorter c.in_ok-key.ensures.shorter)

pub path_and_types-returns-in_err-path-in-path : goal.path_and_types-returns-in_err-path-in-path
path_and_types-returns-in_err-path-in-path t c =
    step.fails _ _ _ c.from_residual-in_err-path-in-path.ensures
    (λ same. loop.no_value _ _ _ _ _ _ _ (told_some _ _ _ _ c.in-Some.is c.in_ok-depth.ensures.ok) c.loop-types.invariant.so_far _ _
    (told_some _ _ _ _ c.in-Some-2.is c.in_ok-key.ensures.ok) (c.in_err-path-in-path.ensures.err same))

pub path_and_types-returns-in_err-types-in-types : goal.path_and_types-returns-in_err-types-in-types
path_and_types-returns-in_err-types-in-types t c =
    step.fails _ _ _ c.from_residual-in_err-types-in-types.ensures
    (λ same. loop.no_value _ _ _ _ _ _ _ (told_some _ _ _ _ c.in-Some.is c.in_ok-depth.ensures.ok) c.loop-types.invariant.so_far _ _
    (told_some _ _ _ _ c.in-Some-2.is c.in_ok-key.ensures.ok) (c.in_err-types-in-types.ensures.err same))

pub path_and_types-returns-in_err-pass-in_default-key : goal.path_and_types-returns-in_err-pass-in_default-key
path_and_types-returns-in_err-pass-in_default-key t c =
    step.fails _ _ _ c.from_residual-in_err-pass-in_default-key.ensures
    (λ same. loop.no_value _ _ _ _ _ _ _ (told_some _ _ _ _ c.in-Some.is c.in_ok-depth.ensures.ok) c.loop-types.invariant.so_far _ _
    (told_some _ _ _ _ c.in-Some-2.is c.in_ok-key.ensures.ok) (c.in_err-pass-in_default-key.ensures.err same))

pub path_and_types-loop-types-preserved-then-str_eq : goal.path_and_types-loop-types-preserved-then-str_eq
path_and_types-loop-types-preserved-then-str_eq t c =
    loop.record_field _ c.in-Some.depth c.args.reader.now c.loop-types.reader _ c.loop-types.strays c.loop-types.invariant _ _
    c.in-Some-2.key.now _ _ c.in_ok-path-in-path.path _
    refl (told_some _ _ _ _ c.in-Some-2.is c.in_ok-key.ensures.ok) c.in_ok-path-in-path.ensures.ok
    (less_left _ _ _ c.in_ok-path-in-path.ensures.shorter c.in_ok-key.ensures.shorter) (λ made. inl (c.in-path.is, made, refl))

pub path_and_types-loop-types-preserved-then-str_eq-2 : goal.path_and_types-loop-types-preserved-then-str_eq-2
path_and_types-loop-types-preserved-then-str_eq-2 t c =
    loop.record_field _ c.in-Some.depth c.args.reader.now c.loop-types.reader _ c.loop-types.strays c.loop-types.invariant _ _
    c.in-Some-2.key.now _ _ c.in_ok-types-in-types.types
    _ refl (told_some _ _ _ _ c.in-Some-2.is c.in_ok-key.ensures.ok) c.in_ok-types-in-types.ensures.ok
    (less_left _ _ _ c.in_ok-types-in-types.ensures.shorter c.in_ok-key.ensures.shorter)
    (λ made. inr (refl, inl (c.in-types.is, made, refl)))

pub path_and_types-loop-types-preserved : goal.path_and_types-loop-types-preserved
path_and_types-loop-types-preserved t c =
    loop.record_stray _ c.in-Some.depth c.args.reader.now c.loop-types.reader _ c.loop-types.strays c.loop-types.invariant
    c.in-Some-2.key.now _ _
    (c.in_default-key.not-path, (c.in_default-key.not-types, tt)) (told_some _ _ _ _ c.in-Some-2.is c.in_ok-key.ensures.ok)
    c.in_ok-pass-in_default-key.ensures.ok (less_left _ _ _ c.in_ok-pass-in_default-key.ensures.shorter c.in_ok-key.ensures.shorter)

pub path_and_types-returns-in_default-path : goal.path_and_types-returns-in_default-path
path_and_types-returns-in_default-path t c =
    step.answers
    (loop.record_lacks _ _ _ _ _ _ _ _ _ _ c.loop-types.strays (told_some _ _ _ _ c.in-Some.is c.in_ok-depth.ensures.ok)
    c.loop-types.invariant
    (told_none _ _ _ c.in_default-2.is c.in_ok-key.ensures.ok) refl c.if-strays.false
    (inl (ap (option_map (λ p. path_form (path_view p))) c.in_default-path.is)))
    (turn.no_more c.loop-types.invariant.so_far.shorter c.in_ok-key.ensures.shorter)

pub path_and_types-returns-in_default-types : goal.path_and_types-returns-in_default-types
path_and_types-returns-in_default-types t c =
    step.answers
    (loop.record_lacks _ _ _ _ _ _ _ _ _ _ c.loop-types.strays (told_some _ _ _ _ c.in-Some.is c.in_ok-depth.ensures.ok)
    c.loop-types.invariant (told_none _ _ _ c.in_default-2.is c.in_ok-key.ensures.ok) refl c.if-strays.false
    (inr (inl (ap (option_map (λ xs. list_form (map (λ t. type_form (type_view t)) xs.items))) c.in_default-types.is))))
    (turn.no_more c.loop-types.invariant.so_far.shorter c.in_ok-key.ensures.shorter)

pub path_and_types-returns : goal.path_and_types-returns
path_and_types-returns t c =
    step.answers
    (loop.record_whole _ _ _ _ _ _ _ _ _ _ c.loop-types.strays (told_some _ _ _ _ c.in-Some.is c.in_ok-depth.ensures.ok)
    c.loop-types.invariant (told_none _ _ _ c.in_default-2.is c.in_ok-key.ensures.ok)
    (path_form (path_view c.in-Some-path.path) ∷ list_form (map (λ t. type_form (type_view t)) c.in-Some-types.types.items) ∷ []) _
    c.if-strays.false (rw (c.in-Some-path.is, c.in-Some-types.is) refl) refl)
    (turn.no_more c.loop-types.invariant.so_far.shorter c.in_ok-key.ensures.shorter)

pub path_and_types-loop-types-smaller-then-str_eq : goal.path_and_types-loop-types-smaller-then-str_eq
path_and_types-loop-types-smaller-then-str_eq t c = turn.less_than c.in_ok-path-in-path.ensures.shorter c.in_ok-key.ensures.shorter

pub path_and_types-loop-types-smaller-then-str_eq-2 : goal.path_and_types-loop-types-smaller-then-str_eq-2
path_and_types-loop-types-smaller-then-str_eq-2 t c = turn.less_than c.in_ok-types-in-types.ensures.shorter c.in_ok-key.ensures.shorter

pub path_and_types-loop-types-smaller : goal.path_and_types-loop-types-smaller
path_and_types-loop-types-smaller t c = turn.less_than c.in_ok-pass-in_default-key.ensures.shorter c.in_ok-key.ensures.shorter

pub path_and_types-type_refs-requires : goal.path_and_types-type_refs-requires
path_and_types-type_refs-requires t c = (step.thrice c.in_ok-key.ensures.shorter c.loop-types.invariant.so_far.shorter c.decreases, tt)
