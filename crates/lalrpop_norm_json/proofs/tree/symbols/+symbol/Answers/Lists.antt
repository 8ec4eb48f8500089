-- Answers on lists of symbols, and on the record that holds a group's.
use Rattle.std.proofs.Common.{[], ◌∷◌, map, refl, sym, ap, ◌∙◌, inl, option_map, Vec, Global}
use Rattle.std.specs.Prelude.{codes}
use Rattle.serde_json.specs.Data.{array}
use Rattle.json_records.specs.Reading.{list_form, under}
use Rattle.lalrpop_norm_tree.specs.declared.symbol.Symbol.{Symbol}
use Rattle.lalrpop_norm_tree.specs.Symbols.{symbol_view}
use Rattle.lalrpop_norm_tree.proofs.SymbolViews.{group_seen}
use Rattle.lalrpop_norm_json.specs.SymbolForms.{part_form, group_form}
use Rattle.lalrpop_norm_json.proofs.FormLemmas.{parts_items}
use Rattle.lalrpop_norm_json.proofs.Loops as loop
use Rattle.json_records.proofs.Turns as turn
use Rattle.lalrpop_norm_json.proofs.Steps as step
use Rattle.lalrpop_norm_json.proofs.Shaped.{told_none, told_some}
use Rattle.lalrpop_norm_json.proofs.tree.symbols.+symbol.Goals as goal

pub symbols-returns-in_err-depth : goal.symbols-returns-in_err-depth
symbols-returns-in_err-depth t c = step.fails _ _ _ c.from_residual.ensures c.in_err-depth.ensures.err

pub symbols-returns-in_default : goal.symbols-returns-in_default
symbols-returns-in_default t c =
    step.answers (loop.no_array (λ s. part_form (symbol_view s)) _ _ c.args.depth _ c.open_array.new.reader
    (told_none _ _ _ c.in_default.is c.in_ok-depth.ensures.ok))
    c.in_ok-depth.ensures.shorter

pub symbols-returns-in_err-first : goal.symbols-returns-in_err-first
symbols-returns-in_err-first t c =
    step.stops _ _ c.from_residual-in_err-first.ensures.0
    (loop.no_item _ _ _ _ _ _ _ _ _ _ (told_some _ _ _ _ c.in-Some.is c.in_ok-depth.ensures.ok) c.loop-list.invariant
    (c.in_err-first.ensures.err refl c.in-Some.depth))

pub symbols-returns-in_err-item : goal.symbols-returns-in_err-item
symbols-returns-in_err-item t c =
    step.fails _ _ _ c.from_residual-in_err-item.ensures
    (λ same. loop.item_fails _ _ _ _ _ _ _ _ _ _ (told_some _ _ _ _ c.in-Some.is c.in_ok-depth.ensures.ok) c.loop-list.invariant _
    (told_some _ _ _ _ c.in-Some-2.is c.in_ok-first.ensures.ok) (c.in_err-item.ensures.err same))

pub symbols-loop-list-preserved-in_ok-push-in-Some-3 : goal.symbols-loop-list-preserved-in_ok-push-in-Some-3
symbols-loop-list-preserved-in_ok-push-in-Some-3 t c =
    loop.list_item _ _ c.in-Some.depth c.args.reader.now c.loop-list.reader c.loop-list.good c.loop-list.list.items c.loop-list.invariant _
    c.symbol.new.reader c.in-Some-3.item _
    (told_some _ _ _ _ c.in-Some-2.is c.in_ok-first.ensures.ok) (loop.read_as _ _ _ _ _ _ _ c.in-Some-3.is c.in_ok-item.ensures.ok)
    (turn.less_than c.in_ok-item.ensures.shorter c.in_ok-first.ensures.shorter) c.in_ok-push-in-Some-3.ensures.ok

pub symbols-loop-list-preserved : goal.symbols-loop-list-preserved
symbols-loop-list-preserved t c =
    loop.list_bad _ _ c.in-Some.depth c.args.reader.now c.loop-list.reader c.loop-list.good c.loop-list.list.items c.loop-list.invariant _
    c.symbol.new.reader
    (told_some _ _ _ _ c.in-Some-2.is c.in_ok-first.ensures.ok) (loop.read_as _ _ _ _ _ _ _ c.in-None.is c.in_ok-item.ensures.ok)
    (turn.less_than c.in_ok-item.ensures.shorter c.in_ok-first.ensures.shorter)

pub symbols-returns-in_ok-fitted : goal.symbols-returns-in_ok-fitted
symbols-returns-in_ok-fitted t c =
    step.answers
    (loop.list_whole _ _ _ _ _ _ _ _ c.loop-list.good c.loop-list.list.items (told_some _ _ _ _ c.in-Some.is c.in_ok-depth.ensures.ok)
    c.loop-list.invariant _ _ _ c.if-good.true
    (ap (λ xs. list_form (map (λ s. part_form (symbol_view s)) xs)) (sym c.in_ok-fitted.ensures.ok))
    (told_none _ _ _ c.in_default-2.is c.in_ok-first.ensures.ok))
    (turn.no_more c.loop-list.invariant.so_far.shorter c.in_ok-first.ensures.shorter)

pub symbols-returns-else-good : goal.symbols-returns-else-good
symbols-returns-else-good t c =
    step.answers
    (loop.list_refused _ _ _ _ _ _ _ _ c.loop-list.good c.loop-list.list.items (told_some _ _ _ _ c.in-Some.is c.in_ok-depth.ensures.ok)
    c.loop-list.invariant _ _ c.if-good.false (told_none _ _ _ c.in_default-2.is c.in_ok-first.ensures.ok))
    (turn.no_more c.loop-list.invariant.so_far.shorter c.in_ok-first.ensures.shorter)

pub symbols-returns-in_err-push-in-Some-3 : goal.symbols-returns-in_err-push-in-Some-3
symbols-returns-in_err-push-in-Some-3 t c =
    step.fails _ _ _ c.from_residual-in_err-push-in-Some-3.ensures (λ same. absurd (c.in_err-push-in-Some-3.ensures.err same))

pub symbols-returns-in_err-fitted : goal.symbols-returns-in_err-fitted
symbols-returns-in_err-fitted t c =
    step.fails _ _ _ c.from_residual-in_err-fitted.ensures (λ same. absurd (c.in_err-fitted.ensures.err same))

pub group-returns-in_err-depth : goal.group-returns-in_err-depth
group-returns-in_err-depth t c = step.fails _ _ _ c.from_residual.ensures c.in_err-depth.ensures.err

pub group-returns-in_default : goal.group-returns-in_default
group-returns-in_default t c =
    step.answers (loop.no_object _ _ c.args.depth _ c.open_object.new.reader (told_none _ _ _ c.in_default.is c.in_ok-depth.ensures.ok))
    c.in_ok-depth.ensures.shorter

pub group-loop-list-init : goal.group-loop-list-init
group-loop-list-init t c =
    loop.record_start _ c.in-Some.depth c.args.reader.now c.open_object.new.reader
    (told_some _ _ _ _ c.in-Some.is c.in_ok-depth.ensures.ok).2

pub group-returns-in_err-key : goal.group-returns-in_err-key
group-returns-in_err-key t c =
    step.stops _ _ c.from_residual-in_err-key.ensures.0
    (loop.no_member _ _ _ _ _ _ _ (told_some _ _ _ _ c.in-Some.is c.in_ok-depth.ensures.ok) c.loop-list.invariant.so_far
    (c.in_err-key.ensures.err refl c.in-Some.depth))

pub group-returns-in_err-list-in-symbols : goal.group-returns-in_err-list-in-symbols
group-returns-in_err-list-in-symbols t c =
    step.fails _ _ _ c.from_residual-in_err-list-in-symbols.ensures
    (λ same. loop.no_value _ _ _ _ _ _ _ (told_some _ _ _ _ c.in-Some.is c.in_ok-depth.ensures.ok) c.loop-list.invariant.so_far _ _
    (told_some _ _ _ _ c.in-Some-2.is c.in_ok-key.ensures.ok) (c.in_err-list-in-symbols.ensures.err same))

pub group-loop-list-preserved-then-str_eq : goal.group-loop-list-preserved-then-str_eq
group-loop-list-preserved-then-str_eq t c =
    loop.record_field _ c.in-Some.depth c.args.reader.now c.loop-list.reader _ c.loop-list.strays c.loop-list.invariant _ _
    c.in-Some-2.key.now _ c.symbols.new.reader
    c.in_ok-list-in-symbols.list _ refl (told_some _ _ _ _ c.in-Some-2.is c.in_ok-key.ensures.ok) c.in_ok-list-in-symbols.ensures.ok
    (turn.less_than c.in_ok-list-in-symbols.ensures.shorter c.in_ok-key.ensures.shorter) (λ made. inl (c.in-symbols.is, made, refl))

pub group-returns-in_err-pass-in_default-key : goal.group-returns-in_err-pass-in_default-key
group-returns-in_err-pass-in_default-key t c =
    step.fails _ _ _ c.from_residual-in_err-pass-in_default-key.ensures
    (λ same. loop.no_value _ _ _ _ _ _ _ (told_some _ _ _ _ c.in-Some.is c.in_ok-depth.ensures.ok) c.loop-list.invariant.so_far _ _
    (told_some _ _ _ _ c.in-Some-2.is c.in_ok-key.ensures.ok) (c.in_err-pass-in_default-key.ensures.err same))

pub group-loop-list-preserved : goal.group-loop-list-preserved
group-loop-list-preserved t c =
    loop.record_stray _ c.in-Some.depth c.args.reader.now c.loop-list.reader _ c.loop-list.strays c.loop-list.invariant c.in-Some-2.key.now
    _ c.pass.new.reader
    (c.in_default-key.not-symbols, tt) (told_some _ _ _ _ c.in-Some-2.is c.in_ok-key.ensures.ok) c.in_ok-pass-in_default-key.ensures.ok
    (turn.less_than c.in_ok-pass-in_default-key.ensures.shorter c.in_ok-key.ensures.shorter)

pub group-returns-then-strays : goal.group-returns-then-strays
group-returns-then-strays t c =
    step.answers
    (loop.record_strays _ _ _ _ _ _ _ _ _ _ c.loop-list.strays (told_some _ _ _ _ c.in-Some.is c.in_ok-depth.ensures.ok)
    c.loop-list.invariant (told_none _ _ _ c.in_default-2.is c.in_ok-key.ensures.ok) c.if-strays.true)
    (turn.no_more c.loop-list.invariant.so_far.shorter c.in_ok-key.ensures.shorter)

pub group-returns-in_default-list : goal.group-returns-in_default-list
group-returns-in_default-list t c =
    step.answers
    (loop.record_lacks _ _ _ _ _ _ _ _ _ _ c.loop-list.strays (told_some _ _ _ _ c.in-Some.is c.in_ok-depth.ensures.ok)
    c.loop-list.invariant (told_none _ _ _ c.in_default-2.is c.in_ok-key.ensures.ok) refl c.if-strays.false
    (inl (ap (option_map (λ (xs : Vec Symbol Global). list_form (map (λ s. part_form (symbol_view s)) xs.items))) c.in_default-list.is)))
    (turn.no_more c.loop-list.invariant.so_far.shorter c.in_ok-key.ensures.shorter)

pub group-returns : goal.group-returns
group-returns t c =
    step.answers
    (loop.record_whole _ _ _ _ _ _ _ _ _ _ c.loop-list.strays (told_some _ _ _ _ c.in-Some.is c.in_ok-depth.ensures.ok)
    c.loop-list.invariant
    (told_none _ _ _ c.in_default-2.is c.in_ok-key.ensures.ok)
    ((λ (xs : Vec Symbol Global). list_form (map (λ s. part_form (symbol_view s)) xs.items)) c.in-Some-list.list ∷ []) _
    c.if-strays.false (rw (c.in-Some-list.is) refl)
    (ap (λ ds. under (codes "symbols") (array ds)) (parts_items c.in-Some-list.list.items)
    ∙ ap group_form (sym (group_seen c.in-Some-list.list))))
    (turn.no_more c.loop-list.invariant.so_far.shorter c.in_ok-key.ensures.shorter)
