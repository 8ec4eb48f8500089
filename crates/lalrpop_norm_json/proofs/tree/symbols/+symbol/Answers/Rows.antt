-- Answers on rows of two: a name and its symbol, and a tuple of names and its symbol.
use Rattle.std.proofs.Common.{arith, [], ◌∷◌, None, refl, sym, ap, ◌∙◌}
use Rattle.std.specs.Prelude.{codes}
use Rattle.serde_json.specs.Data.{Data}
use Rattle.json_records.specs.Reading.{list_form, under}
use Rattle.lalrpop_norm_tree.specs.declared.symbol.Name.{Name}
use Rattle.lalrpop_norm_tree.specs.declared.symbol.Symbol.{Symbol}
use Rattle.lalrpop_norm_tree.specs.declared.symbol.SymbolKind.TheVariants as kind
use Rattle.lalrpop_norm_tree.specs.declared.symbol.Tuple.{Tuple}
use Rattle.lalrpop_norm_tree.specs.Symbols.{symbol_view, tuple_view}
use Rattle.lalrpop_norm_tree.proofs.KindLevels.{named_is, tupled_is}
use Rattle.lalrpop_norm_json.specs.SymbolForms.{kind_form, part_form, name_form, tuple_form}
use Rattle.lalrpop_norm_json.specs.Shapes as shape
use Rattle.lalrpop_norm_json.specs.Shapes.{is, one}
use Rattle.lalrpop_norm_json.proofs.Loops as loop
use Rattle.json_records.proofs.Turns as turn
use Rattle.lalrpop_norm_json.proofs.Steps as step
use Rattle.lalrpop_norm_json.proofs.RowLoops as rows
use Rattle.lalrpop_norm_json.proofs.Shaped.{told_none, told_some}
use Rattle.lalrpop_norm_json.proofs.tree.symbols.+symbol.Goals as goal

-- the form of a pair
abbrev named_form : (Name × Symbol) → Data
named_form p = list_form (name_form p.0 ∷ part_form (symbol_view p.1) ∷ [])

pub named-returns-in_err-depth : goal.named-returns-in_err-depth
named-returns-in_err-depth t c = step.fails _ _ _ c.from_residual.ensures c.in_err-depth.ensures.err

pub named-returns-in_default : goal.named-returns-in_default
named-returns-in_default t c =
    step.answers
    (loop.no_variant_of _ _ named_form _ _ _ _ _ (codes "Name") None refl refl
    (rows.no_row (is shape.symbol_name ∷ is shape.symbol ∷ []) named_form c.args.depth _ c.open_array.new.reader
    (told_none _ _ _ c.in_default.is c.in_ok-depth.ensures.ok))
    (λ d e. rows.row_is (one shape.symbol_name ∷ one shape.symbol ∷ []) d ∙ e))
    c.in_ok-depth.ensures.shorter

pub named-loop-of-init : goal.named-loop-of-init
named-loop-of-init t c =
    rows.row_begins (is shape.symbol_name ∷ is shape.symbol ∷ []) c.in-Some.depth c.args.reader.now c.open_array.new.reader
    (told_some _ _ _ _ c.in-Some.is c.in_ok-depth.ensures.ok).2

pub named-returns-in_err-first : goal.named-returns-in_err-first
named-returns-in_err-first t c =
    step.stops _ _ c.from_residual-in_err-first.ensures.0
    (rows.row_stops (is shape.symbol_name ∷ is shape.symbol ∷ []) _ _ _ _ _ _ _ c.loop-of.place
    (told_some _ _ _ _ c.in-Some.is c.in_ok-depth.ensures.ok) c.loop-of.invariant
    (c.in_err-first.ensures.err refl c.in-Some.depth))

pub named-returns-in_err-names-in-0 : goal.named-returns-in_err-names-in-0
named-returns-in_err-names-in-0 t c =
    step.fails _ _ _ c.from_residual-in_err-names-in-0.ensures
    (λ same. rows.row_item_fails (is shape.symbol_name ∷ is shape.symbol ∷ []) _ _ _ _ _ _ _ c.loop-of.place
    (told_some _ _ _ _ c.in-Some.is c.in_ok-depth.ensures.ok) c.loop-of.invariant _
    (told_some _ _ _ _ c.in-Some-2.is c.in_ok-first.ensures.ok) (c.in_err-names-in-0.ensures.err same))

pub named-returns-in_err-of-in-1 : goal.named-returns-in_err-of-in-1
named-returns-in_err-of-in-1 t c =
    step.fails _ _ _ c.from_residual-in_err-of-in-1.ensures
    (λ same. rows.row_item_fails (is shape.symbol_name ∷ is shape.symbol ∷ []) _ _ _ _ _ _ _ c.loop-of.place
    (told_some _ _ _ _ c.in-Some.is c.in_ok-depth.ensures.ok) c.loop-of.invariant _
    (told_some _ _ _ _ c.in-Some-2.is c.in_ok-first.ensures.ok) (c.in_err-of-in-1.ensures.err same))

pub named-returns-in_err-pass-in_default-place : goal.named-returns-in_err-pass-in_default-place
named-returns-in_err-pass-in_default-place t c =
    step.fails _ _ _ c.from_residual-in_err-pass-in_default-place.ensures
    (λ same. rows.row_item_fails (is shape.symbol_name ∷ is shape.symbol ∷ []) _ _ _ _ _ _ _ c.loop-of.place
    (told_some _ _ _ _ c.in-Some.is c.in_ok-depth.ensures.ok) c.loop-of.invariant _
    (told_some _ _ _ _ c.in-Some-2.is c.in_ok-first.ensures.ok) (c.in_err-pass-in_default-place.ensures.err same))

pub named-loop-of-preserved-in-0 : goal.named-loop-of-preserved-in-0
named-loop-of-preserved-in-0 t c =
    rows.row_item (is shape.symbol_name ∷ is shape.symbol ∷ []) c.in-Some.depth c.args.reader.now c.loop-of.reader _ c.loop-of.place
    c.loop-of.invariant _ _ 0 _ c.read.new.reader
    c.in_ok-names-in-0.names _ c.in-0.is (told_some _ _ _ _ c.in-Some-2.is c.in_ok-first.ensures.ok) c.in_ok-names-in-0.ensures.ok
    (turn.less_than c.in_ok-names-in-0.ensures.shorter c.in_ok-first.ensures.shorter) (λ made. (made, refl))

pub named-loop-of-preserved-in-1 : goal.named-loop-of-preserved-in-1
named-loop-of-preserved-in-1 t c =
    rows.row_item (is shape.symbol_name ∷ is shape.symbol ∷ []) c.in-Some.depth c.args.reader.now c.loop-of.reader _ c.loop-of.place
    c.loop-of.invariant _ _ 1 _ c.symbol.new.reader
    c.in_ok-of-in-1.of _ c.in-1.is (told_some _ _ _ _ c.in-Some-2.is c.in_ok-first.ensures.ok) c.in_ok-of-in-1.ensures.ok
    (turn.less_than c.in_ok-of-in-1.ensures.shorter c.in_ok-first.ensures.shorter) (λ made. (refl, (made, refl)))

pub named-loop-of-preserved : goal.named-loop-of-preserved
named-loop-of-preserved t c =
    rows.row_beyond (is shape.symbol_name ∷ is shape.symbol ∷ []) c.in-Some.depth c.args.reader.now c.loop-of.reader _ c.loop-of.place
    c.loop-of.invariant _ c.pass.new.reader
    (omega (arith, c.in_default-place)) (told_some _ _ _ _ c.in-Some-2.is c.in_ok-first.ensures.ok) c.in_ok-pass-in_default-place.ensures.ok
    (turn.less_than c.in_ok-pass-in_default-place.ensures.shorter c.in_ok-first.ensures.shorter)

pub named-returns-then-place-ne2 : goal.named-returns-then-place-ne2
named-returns-then-place-ne2 t c =
    step.answers
    (loop.no_variant_of _ _ named_form _ _ _ _ _ (codes "Name") None refl refl
    (rows.row_elsewhere (is shape.symbol_name ∷ is shape.symbol ∷ []) _ _ _ _ _ _ _ c.loop-of.place
    (told_some _ _ _ _ c.in-Some.is c.in_ok-depth.ensures.ok) c.loop-of.invariant
    named_form _ c.if-place-ne2.true (told_none _ _ _ c.in_default-2.is c.in_ok-first.ensures.ok))
    (λ d e. rows.row_is (one shape.symbol_name ∷ one shape.symbol ∷ []) d ∙ e))
    (turn.no_more c.loop-of.invariant.so_far.shorter c.in_ok-first.ensures.shorter)

pub named-returns-in-None : goal.named-returns-in-None
named-returns-in-None t c =
    step.answers
    (loop.no_variant_of _ _ named_form _ _ _ _ _ (codes "Name") c.both.result refl c.in-None.is
    (rows.row_of_two (is shape.symbol_name ∷ is shape.symbol ∷ []) _ _ _ _ _ _ _ c.loop-of.place
    (told_some _ _ _ _ c.in-Some.is c.in_ok-depth.ensures.ok)
    (told_none _ _ _ c.in_default-2.is c.in_ok-first.ensures.ok) c.if-place-ne2.false name_form (λ s. part_form (symbol_view s))
    c.loop-of.names c.loop-of.of c.both.result c.both.ensures c.loop-of.invariant)
    (λ d e. rows.row_is (one shape.symbol_name ∷ one shape.symbol ∷ []) d ∙ e))
    (turn.no_more c.loop-of.invariant.so_far.shorter c.in_ok-first.ensures.shorter)

pub named-returns-in_ok-new-in-Some-both : goal.named-returns-in_ok-new-in-Some-both
named-returns-in_ok-new-in-Some-both t c =
    step.answers
    (loop.variant_of _ _ named_form _ _ _ _ _ (codes "Name") c.both.result _ _ refl c.in-Some-both.is
    (rows.row_of_two (is shape.symbol_name ∷ is shape.symbol ∷ []) _ _ _ _ _ _ _ c.loop-of.place
    (told_some _ _ _ _ c.in-Some.is c.in_ok-depth.ensures.ok)
    (told_none _ _ _ c.in_default-2.is c.in_ok-first.ensures.ok) c.if-place-ne2.false name_form (λ s. part_form (symbol_view s))
    c.loop-of.names c.loop-of.of c.both.result c.both.ensures c.loop-of.invariant)
    (ap (λ (s : Symbol). under (codes "Name") (named_form (c.in-Some-both.names, s))) (sym c.in_ok-new-in-Some-both.ensures.ok)
    ∙ ap kind_form
    (sym (named_is (kind.Name c.in-Some-both.names c.in_ok-new-in-Some-both.field-0) c.in-Some-both.names c.in_ok-new-in-Some-both.field-0
    refl))))
    (turn.no_more c.loop-of.invariant.so_far.shorter c.in_ok-first.ensures.shorter)

pub named-returns-in_err-new-in-Some-both-clause-ok : goal.named-returns-in_err-new-in-Some-both-clause-ok
named-returns-in_err-new-in-Some-both-clause-ok t c = loop.not_ok _ _ c.from_residual-in_err-new-in-Some-both.ensures.0

abbrev tupled_form : (Tuple × Symbol) → Data
tupled_form p = list_form (tuple_form (tuple_view p.0) ∷ part_form (symbol_view p.1) ∷ [])

pub tupled-returns-in_err-depth : goal.tupled-returns-in_err-depth
tupled-returns-in_err-depth t c = step.fails _ _ _ c.from_residual.ensures c.in_err-depth.ensures.err

pub tupled-returns-in_default : goal.tupled-returns-in_default
tupled-returns-in_default t c =
    step.answers
    (loop.no_variant_of _ _ tupled_form _ _ _ _ _ (codes "Tuple") None refl refl
    (rows.no_row (is shape.name_tuple ∷ is shape.symbol ∷ []) tupled_form c.args.depth _ c.open_array.new.reader
    (told_none _ _ _ c.in_default.is c.in_ok-depth.ensures.ok))
    (λ d e. rows.row_is (one shape.name_tuple ∷ one shape.symbol ∷ []) d ∙ e))
    c.in_ok-depth.ensures.shorter

pub tupled-loop-of-init : goal.tupled-loop-of-init
tupled-loop-of-init t c =
    rows.row_begins (is shape.name_tuple ∷ is shape.symbol ∷ []) c.in-Some.depth c.args.reader.now c.open_array.new.reader
    (told_some _ _ _ _ c.in-Some.is c.in_ok-depth.ensures.ok).2

pub tupled-returns-in_err-first : goal.tupled-returns-in_err-first
tupled-returns-in_err-first t c =
    step.stops _ _ c.from_residual-in_err-first.ensures.0
    (rows.row_stops (is shape.name_tuple ∷ is shape.symbol ∷ []) _ _ _ _ _ _ _ c.loop-of.place
    (told_some _ _ _ _ c.in-Some.is c.in_ok-depth.ensures.ok) c.loop-of.invariant
    (c.in_err-first.ensures.err refl c.in-Some.depth))

pub tupled-returns-in_err-names-in-0 : goal.tupled-returns-in_err-names-in-0
tupled-returns-in_err-names-in-0 t c =
    step.fails _ _ _ c.from_residual-in_err-names-in-0.ensures
    (λ same. rows.row_item_fails (is shape.name_tuple ∷ is shape.symbol ∷ []) _ _ _ _ _ _ _ c.loop-of.place
    (told_some _ _ _ _ c.in-Some.is c.in_ok-depth.ensures.ok) c.loop-of.invariant _
    (told_some _ _ _ _ c.in-Some-2.is c.in_ok-first.ensures.ok) (c.in_err-names-in-0.ensures.err same))

pub tupled-returns-in_err-of-in-1 : goal.tupled-returns-in_err-of-in-1
tupled-returns-in_err-of-in-1 t c =
    step.fails _ _ _ c.from_residual-in_err-of-in-1.ensures
    (λ same. rows.row_item_fails (is shape.name_tuple ∷ is shape.symbol ∷ []) _ _ _ _ _ _ _ c.loop-of.place
    (told_some _ _ _ _ c.in-Some.is c.in_ok-depth.ensures.ok) c.loop-of.invariant _
    (told_some _ _ _ _ c.in-Some-2.is c.in_ok-first.ensures.ok) (c.in_err-of-in-1.ensures.err same))

pub tupled-returns-in_err-pass-in_default-place : goal.tupled-returns-in_err-pass-in_default-place
tupled-returns-in_err-pass-in_default-place t c =
    step.fails _ _ _ c.from_residual-in_err-pass-in_default-place.ensures
    (λ same. rows.row_item_fails (is shape.name_tuple ∷ is shape.symbol ∷ []) _ _ _ _ _ _ _ c.loop-of.place
    (told_some _ _ _ _ c.in-Some.is c.in_ok-depth.ensures.ok) c.loop-of.invariant _
    (told_some _ _ _ _ c.in-Some-2.is c.in_ok-first.ensures.ok) (c.in_err-pass-in_default-place.ensures.err same))

pub tupled-loop-of-preserved-in-0 : goal.tupled-loop-of-preserved-in-0
tupled-loop-of-preserved-in-0 t c =
    rows.row_item (is shape.name_tuple ∷ is shape.symbol ∷ []) c.in-Some.depth c.args.reader.now c.loop-of.reader _ c.loop-of.place
    c.loop-of.invariant _ _ 0 _ c.read.new.reader
    c.in_ok-names-in-0.names _ c.in-0.is (told_some _ _ _ _ c.in-Some-2.is c.in_ok-first.ensures.ok) c.in_ok-names-in-0.ensures.ok
    (turn.less_than c.in_ok-names-in-0.ensures.shorter c.in_ok-first.ensures.shorter) (λ made. (made, refl))

pub tupled-loop-of-preserved-in-1 : goal.tupled-loop-of-preserved-in-1
tupled-loop-of-preserved-in-1 t c =
    rows.row_item (is shape.name_tuple ∷ is shape.symbol ∷ []) c.in-Some.depth c.args.reader.now c.loop-of.reader _ c.loop-of.place
    c.loop-of.invariant _ _ 1 _ c.symbol.new.reader
    c.in_ok-of-in-1.of _ c.in-1.is (told_some _ _ _ _ c.in-Some-2.is c.in_ok-first.ensures.ok) c.in_ok-of-in-1.ensures.ok
    (turn.less_than c.in_ok-of-in-1.ensures.shorter c.in_ok-first.ensures.shorter) (λ made. (refl, (made, refl)))

pub tupled-loop-of-preserved : goal.tupled-loop-of-preserved
tupled-loop-of-preserved t c =
    rows.row_beyond (is shape.name_tuple ∷ is shape.symbol ∷ []) c.in-Some.depth c.args.reader.now c.loop-of.reader _ c.loop-of.place
    c.loop-of.invariant _ c.pass.new.reader
    (omega (arith, c.in_default-place)) (told_some _ _ _ _ c.in-Some-2.is c.in_ok-first.ensures.ok) c.in_ok-pass-in_default-place.ensures.ok
    (turn.less_than c.in_ok-pass-in_default-place.ensures.shorter c.in_ok-first.ensures.shorter)

pub tupled-returns-then-place-ne2 : goal.tupled-returns-then-place-ne2
tupled-returns-then-place-ne2 t c =
    step.answers
    (loop.no_variant_of _ _ tupled_form _ _ _ _ _ (codes "Tuple") None refl refl
    (rows.row_elsewhere (is shape.name_tuple ∷ is shape.symbol ∷ []) _ _ _ _ _ _ _ c.loop-of.place
    (told_some _ _ _ _ c.in-Some.is c.in_ok-depth.ensures.ok) c.loop-of.invariant
    tupled_form _ c.if-place-ne2.true (told_none _ _ _ c.in_default-2.is c.in_ok-first.ensures.ok))
    (λ d e. rows.row_is (one shape.name_tuple ∷ one shape.symbol ∷ []) d ∙ e))
    (turn.no_more c.loop-of.invariant.so_far.shorter c.in_ok-first.ensures.shorter)

pub tupled-returns-in-None : goal.tupled-returns-in-None
tupled-returns-in-None t c =
    step.answers
    (loop.no_variant_of _ _ tupled_form _ _ _ _ _ (codes "Tuple") c.both.result refl c.in-None.is
    (rows.row_of_two (is shape.name_tuple ∷ is shape.symbol ∷ []) _ _ _ _ _ _ _ c.loop-of.place
    (told_some _ _ _ _ c.in-Some.is c.in_ok-depth.ensures.ok)
    (told_none _ _ _ c.in_default-2.is c.in_ok-first.ensures.ok) c.if-place-ne2.false (λ t. tuple_form (tuple_view t))
    (λ s. part_form (symbol_view s)) c.loop-of.names c.loop-of.of c.both.result c.both.ensures c.loop-of.invariant)
    (λ d e. rows.row_is (one shape.name_tuple ∷ one shape.symbol ∷ []) d ∙ e))
    (turn.no_more c.loop-of.invariant.so_far.shorter c.in_ok-first.ensures.shorter)

pub tupled-returns-in_ok-new-in-Some-both : goal.tupled-returns-in_ok-new-in-Some-both
tupled-returns-in_ok-new-in-Some-both t c =
    step.answers
    (loop.variant_of _ _ tupled_form _ _ _ _ _ (codes "Tuple") c.both.result _ _ refl c.in-Some-both.is
    (rows.row_of_two (is shape.name_tuple ∷ is shape.symbol ∷ []) _ _ _ _ _ _ _ c.loop-of.place
    (told_some _ _ _ _ c.in-Some.is c.in_ok-depth.ensures.ok)
    (told_none _ _ _ c.in_default-2.is c.in_ok-first.ensures.ok) c.if-place-ne2.false (λ t. tuple_form (tuple_view t))
    (λ s. part_form (symbol_view s)) c.loop-of.names c.loop-of.of c.both.result c.both.ensures c.loop-of.invariant)
    (ap (λ (s : Symbol). under (codes "Tuple") (tupled_form (c.in-Some-both.names, s))) (sym c.in_ok-new-in-Some-both.ensures.ok)
    ∙ ap kind_form
    (sym (tupled_is (kind.Tuple c.in-Some-both.names c.in_ok-new-in-Some-both.field-0) c.in-Some-both.names c.in_ok-new-in-Some-both.field-0
    refl))))
    (turn.no_more c.loop-of.invariant.so_far.shorter c.in_ok-first.ensures.shorter)

pub tupled-returns-in_err-new-in-Some-both-clause-ok : goal.tupled-returns-in_err-new-in-Some-both-clause-ok
tupled-returns-in_err-new-in-Some-both-clause-ok t c = loop.not_ok _ _ c.from_residual-in_err-new-in-Some-both.ensures.0
