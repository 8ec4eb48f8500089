-- Answers on records of symbols: a symbol with its span, a call of a macro, and a repeat.
use Rattle.std.proofs.Common.{[], ◌∷◌, map, None, Some, refl, sym, ap, ◌∙◌, inl, inr, option_map, Vec, Global}
use Rattle.std.specs.Prelude.{codes}
use Rattle.serde_json.specs.Data.{Data, array, object, member, no_members}
use Rattle.json_records.specs.Reading.{list_form, under}
use Rattle.lalrpop_norm_tree.specs.declared.symbol.RepeatSymbol.{RepeatSymbol}
use Rattle.lalrpop_norm_tree.specs.declared.symbol.Symbol.{Symbol}
use Rattle.lalrpop_norm_tree.specs.declared.symbol.SymbolKind.TheVariants as kind
use Rattle.lalrpop_norm_tree.specs.Symbols.{repeated, Again, kind_view, symbol_view, repeat_view}
use Rattle.lalrpop_norm_tree.proofs.KindLevels.{repeat_is}
use Rattle.lalrpop_norm_tree.proofs.SymbolViews.{symbol_seen, repeat_seen}
use Rattle.lalrpop_norm_json.specs.Forms.{span_form, nonterminal_form}
use Rattle.lalrpop_norm_json.specs.SymbolForms.{kind_form, part_form, op_form}
use Rattle.lalrpop_norm_json.specs.Shapes as shape
use Rattle.lalrpop_norm_json.specs.Shapes.{one, many}
use Rattle.lalrpop_norm_json.proofs.FormLemmas.{parts_items}
use Rattle.lalrpop_norm_json.proofs.CallViews.{call_seen}
use Rattle.lalrpop_norm_json.proofs.Loops as loop
use Rattle.json_records.proofs.Turns as turn
use Rattle.lalrpop_norm_json.proofs.Steps as step
use Rattle.lalrpop_norm_json.proofs.Shaped.{told_none, told_some}
use Rattle.lalrpop_norm_json.proofs.tree.symbols.+symbol.Goals as goal

pub symbol-returns-in_err-depth : goal.symbol-returns-in_err-depth
symbol-returns-in_err-depth t c = step.fails _ _ _ c.from_residual.ensures c.in_err-depth.ensures.err

pub symbol-returns-in_default : goal.symbol-returns-in_default
symbol-returns-in_default t c =
    step.answers (loop.no_object _ _ c.args.depth _ c.open_object.new.reader (told_none _ _ _ c.in_default.is c.in_ok-depth.ensures.ok))
    c.in_ok-depth.ensures.shorter

pub symbol-loop-of-init : goal.symbol-loop-of-init
symbol-loop-of-init t c =
    loop.record_start _ c.in-Some.depth c.args.reader.now c.open_object.new.reader
    (told_some _ _ _ _ c.in-Some.is c.in_ok-depth.ensures.ok).2

pub symbol-returns-in_err-key : goal.symbol-returns-in_err-key
symbol-returns-in_err-key t c =
    step.stops _ _ c.from_residual-in_err-key.ensures.0
    (loop.no_member _ _ _ _ _ _ _ (told_some _ _ _ _ c.in-Some.is c.in_ok-depth.ensures.ok) c.loop-of.invariant.so_far
    (c.in_err-key.ensures.err refl c.in-Some.depth))

pub symbol-returns-in_err-of-in-kind : goal.symbol-returns-in_err-of-in-kind
symbol-returns-in_err-of-in-kind t c =
    step.fails _ _ _ c.from_residual-in_err-of-in-kind.ensures
    (λ same. loop.no_value _ _ _ _ _ _ _ (told_some _ _ _ _ c.in-Some.is c.in_ok-depth.ensures.ok) c.loop-of.invariant.so_far _ _
    (told_some _ _ _ _ c.in-Some-2.is c.in_ok-key.ensures.ok) (c.in_err-of-in-kind.ensures.err same))

pub symbol-loop-of-preserved-then-str_eq : goal.symbol-loop-of-preserved-then-str_eq
symbol-loop-of-preserved-then-str_eq t c =
    loop.record_field _ c.in-Some.depth c.args.reader.now c.loop-of.reader _ c.loop-of.strays c.loop-of.invariant _ _ c.in-Some-2.key.now _
    c.kind.new.reader c.in_ok-of-in-kind.of
    _ refl (told_some _ _ _ _ c.in-Some-2.is c.in_ok-key.ensures.ok) c.in_ok-of-in-kind.ensures.ok
    (turn.less_than c.in_ok-of-in-kind.ensures.shorter c.in_ok-key.ensures.shorter)
    (λ made. inl (c.in-kind.is, made, refl))

pub symbol-returns-in_err-span-in-span : goal.symbol-returns-in_err-span-in-span
symbol-returns-in_err-span-in-span t c =
    step.fails _ _ _ c.from_residual-in_err-span-in-span.ensures
    (λ same. loop.no_value _ _ _ _ _ _ _ (told_some _ _ _ _ c.in-Some.is c.in_ok-depth.ensures.ok) c.loop-of.invariant.so_far _ _
    (told_some _ _ _ _ c.in-Some-2.is c.in_ok-key.ensures.ok) (c.in_err-span-in-span.ensures.err same))

pub symbol-loop-of-preserved-then-str_eq-2 : goal.symbol-loop-of-preserved-then-str_eq-2
symbol-loop-of-preserved-then-str_eq-2 t c =
    loop.record_field _ c.in-Some.depth c.args.reader.now c.loop-of.reader _ c.loop-of.strays c.loop-of.invariant _ _ c.in-Some-2.key.now _
    c.read.new.reader
    c.in_ok-span-in-span.span _ refl (told_some _ _ _ _ c.in-Some-2.is c.in_ok-key.ensures.ok) c.in_ok-span-in-span.ensures.ok
    (turn.less_than c.in_ok-span-in-span.ensures.shorter c.in_ok-key.ensures.shorter) (λ made. inr (refl, inl (c.in-span.is, made, refl)))

pub symbol-returns-in_err-pass-in_default-key : goal.symbol-returns-in_err-pass-in_default-key
symbol-returns-in_err-pass-in_default-key t c =
    step.fails _ _ _ c.from_residual-in_err-pass-in_default-key.ensures
    (λ same. loop.no_value _ _ _ _ _ _ _ (told_some _ _ _ _ c.in-Some.is c.in_ok-depth.ensures.ok) c.loop-of.invariant.so_far _ _
    (told_some _ _ _ _ c.in-Some-2.is c.in_ok-key.ensures.ok) (c.in_err-pass-in_default-key.ensures.err same))

pub symbol-loop-of-preserved : goal.symbol-loop-of-preserved
symbol-loop-of-preserved t c =
    loop.record_stray _ c.in-Some.depth c.args.reader.now c.loop-of.reader _ c.loop-of.strays c.loop-of.invariant c.in-Some-2.key.now _
    c.pass.new.reader
    (c.in_default-key.not-kind, (c.in_default-key.not-span, tt)) (told_some _ _ _ _ c.in-Some-2.is c.in_ok-key.ensures.ok)
    c.in_ok-pass-in_default-key.ensures.ok (turn.less_than c.in_ok-pass-in_default-key.ensures.shorter c.in_ok-key.ensures.shorter)

pub symbol-returns-then-strays : goal.symbol-returns-then-strays
symbol-returns-then-strays t c =
    step.answers
    (loop.record_strays _ _ _ _ _ _ _ _ _ _ c.loop-of.strays (told_some _ _ _ _ c.in-Some.is c.in_ok-depth.ensures.ok) c.loop-of.invariant
    (told_none _ _ _ c.in_default-2.is c.in_ok-key.ensures.ok) c.if-strays.true)
    (turn.no_more c.loop-of.invariant.so_far.shorter c.in_ok-key.ensures.shorter)

pub symbol-returns-in_default-of : goal.symbol-returns-in_default-of
symbol-returns-in_default-of t c =
    step.answers
    (loop.record_lacks _ _ _ _ _ _ _ _ _ _ c.loop-of.strays (told_some _ _ _ _ c.in-Some.is c.in_ok-depth.ensures.ok) c.loop-of.invariant
    (told_none _ _ _ c.in_default-2.is c.in_ok-key.ensures.ok) refl c.if-strays.false
    (inl (ap (option_map (λ k. kind_form (kind_view k))) c.in_default-of.is)))
    (turn.no_more c.loop-of.invariant.so_far.shorter c.in_ok-key.ensures.shorter)

pub symbol-returns-in_default-span : goal.symbol-returns-in_default-span
symbol-returns-in_default-span t c =
    step.answers
    (loop.record_lacks _ _ _ _ _ _ _ _ _ _ c.loop-of.strays (told_some _ _ _ _ c.in-Some.is c.in_ok-depth.ensures.ok) c.loop-of.invariant
    (told_none _ _ _ c.in_default-2.is c.in_ok-key.ensures.ok) refl c.if-strays.false
    (inr (inl (ap (option_map span_form) c.in_default-span.is))))
    (turn.no_more c.loop-of.invariant.so_far.shorter c.in_ok-key.ensures.shorter)

pub symbol-returns : goal.symbol-returns
symbol-returns t c =
    step.answers
    (loop.record_whole _ _ _ _ _ _ _ _ _ _ c.loop-of.strays (told_some _ _ _ _ c.in-Some.is c.in_ok-depth.ensures.ok) c.loop-of.invariant
    (told_none _ _ _ c.in_default-2.is c.in_ok-key.ensures.ok)
    (kind_form (kind_view c.in-Some-of.kind) ∷ span_form c.in-Some-span.span ∷ []) _ c.if-strays.false
    (rw (c.in-Some-of.is, c.in-Some-span.is) refl) (ap part_form (sym (symbol_seen c.in-Some-span.span c.in-Some-of.kind))))
    (turn.no_more c.loop-of.invariant.so_far.shorter c.in_ok-key.ensures.shorter)

pub called-returns-in_err-depth : goal.called-returns-in_err-depth
called-returns-in_err-depth t c = step.fails _ _ _ c.from_residual.ensures c.in_err-depth.ensures.err

pub called-returns-in_default : goal.called-returns-in_default
called-returns-in_default t c =
    step.answers
    (loop.no_variant_of _ _ (λ (d : Data). d) _ _ _ _ _ (codes "Macro") None refl refl
    (loop.no_object ((codes "args", many shape.symbol) ∷ (codes "name", one shape.text) ∷ []) (λ (d : Data). d) c.args.depth _
    c.open_object.new.reader (told_none _ _ _ c.in_default.is c.in_ok-depth.ensures.ok))
    (λ d e. e))
    c.in_ok-depth.ensures.shorter

pub called-loop-name-init : goal.called-loop-name-init
called-loop-name-init t c =
    loop.record_start _ c.in-Some.depth c.args.reader.now c.open_object.new.reader
    (told_some _ _ _ _ c.in-Some.is c.in_ok-depth.ensures.ok).2

pub called-returns-in_err-key : goal.called-returns-in_err-key
called-returns-in_err-key t c =
    step.stops _ _ c.from_residual-in_err-key.ensures.0
    (loop.no_member _ _ _ _ _ _ _ (told_some _ _ _ _ c.in-Some.is c.in_ok-depth.ensures.ok) c.loop-name.invariant.so_far
    (c.in_err-key.ensures.err refl c.in-Some.depth))

pub called-returns-in_err-args-in-args : goal.called-returns-in_err-args-in-args
called-returns-in_err-args-in-args t c =
    step.fails _ _ _ c.from_residual-in_err-args-in-args.ensures
    (λ same. loop.no_value _ _ _ _ _ _ _ (told_some _ _ _ _ c.in-Some.is c.in_ok-depth.ensures.ok) c.loop-name.invariant.so_far _ _
    (told_some _ _ _ _ c.in-Some-2.is c.in_ok-key.ensures.ok) (c.in_err-args-in-args.ensures.err same))

pub called-loop-name-preserved-then-str_eq : goal.called-loop-name-preserved-then-str_eq
called-loop-name-preserved-then-str_eq t c =
    loop.record_field _ c.in-Some.depth c.args.reader.now c.loop-name.reader _ c.loop-name.strays c.loop-name.invariant _ _
    c.in-Some-2.key.now _ c.symbols.new.reader
    c.in_ok-args-in-args.args _ refl (told_some _ _ _ _ c.in-Some-2.is c.in_ok-key.ensures.ok) c.in_ok-args-in-args.ensures.ok
    (turn.less_than c.in_ok-args-in-args.ensures.shorter c.in_ok-key.ensures.shorter) (λ made. inl (c.in-args.is, made, refl))

pub called-returns-in_err-name-in-name : goal.called-returns-in_err-name-in-name
called-returns-in_err-name-in-name t c =
    step.fails _ _ _ c.from_residual-in_err-name-in-name.ensures
    (λ same. loop.no_value _ _ _ _ _ _ _ (told_some _ _ _ _ c.in-Some.is c.in_ok-depth.ensures.ok) c.loop-name.invariant.so_far _ _
    (told_some _ _ _ _ c.in-Some-2.is c.in_ok-key.ensures.ok) (c.in_err-name-in-name.ensures.err same))

pub called-loop-name-preserved-then-str_eq-2 : goal.called-loop-name-preserved-then-str_eq-2
called-loop-name-preserved-then-str_eq-2 t c =
    loop.record_field _ c.in-Some.depth c.args.reader.now c.loop-name.reader _ c.loop-name.strays c.loop-name.invariant _ _
    c.in-Some-2.key.now _ c.read.new.reader
    c.in_ok-name-in-name.name _ refl (told_some _ _ _ _ c.in-Some-2.is c.in_ok-key.ensures.ok) c.in_ok-name-in-name.ensures.ok
    (turn.less_than c.in_ok-name-in-name.ensures.shorter c.in_ok-key.ensures.shorter) (λ made. inr (refl, inl (c.in-name.is, made, refl)))

pub called-returns-in_err-pass-in_default-key : goal.called-returns-in_err-pass-in_default-key
called-returns-in_err-pass-in_default-key t c =
    step.fails _ _ _ c.from_residual-in_err-pass-in_default-key.ensures
    (λ same. loop.no_value _ _ _ _ _ _ _ (told_some _ _ _ _ c.in-Some.is c.in_ok-depth.ensures.ok) c.loop-name.invariant.so_far _ _
    (told_some _ _ _ _ c.in-Some-2.is c.in_ok-key.ensures.ok) (c.in_err-pass-in_default-key.ensures.err same))

pub called-loop-name-preserved : goal.called-loop-name-preserved
called-loop-name-preserved t c =
    loop.record_stray _ c.in-Some.depth c.args.reader.now c.loop-name.reader _ c.loop-name.strays c.loop-name.invariant c.in-Some-2.key.now
    _ c.pass.new.reader
    (c.in_default-key.not-args, (c.in_default-key.not-name, tt)) (told_some _ _ _ _ c.in-Some-2.is c.in_ok-key.ensures.ok)
    c.in_ok-pass-in_default-key.ensures.ok (turn.less_than c.in_ok-pass-in_default-key.ensures.shorter c.in_ok-key.ensures.shorter)

pub called-returns-then-strays : goal.called-returns-then-strays
called-returns-then-strays t c =
    step.answers
    (loop.no_variant_of _ _ (λ (d : Data). d) _ _ _ _ _ (codes "Macro") None refl refl
    (loop.record_strays _ _ _ _ _ _ _ _ _ _ c.loop-name.strays (told_some _ _ _ _ c.in-Some.is c.in_ok-depth.ensures.ok)
    c.loop-name.invariant (told_none _ _ _ c.in_default-2.is c.in_ok-key.ensures.ok) c.if-strays.true)
    (λ d e. e))
    (turn.no_more c.loop-name.invariant.so_far.shorter c.in_ok-key.ensures.shorter)

pub called-returns-in_default-args : goal.called-returns-in_default-args
called-returns-in_default-args t c =
    step.answers
    (loop.no_variant_of _ _ (λ (d : Data). d) _ _ _ _ _ (codes "Macro") None refl refl
    (loop.record_lacks _ _ _ _ _ _ _ _ _ _ c.loop-name.strays (told_some _ _ _ _ c.in-Some.is c.in_ok-depth.ensures.ok)
    c.loop-name.invariant (told_none _ _ _ c.in_default-2.is c.in_ok-key.ensures.ok) refl c.if-strays.false
    (inl (ap (option_map (λ (xs : Vec Symbol Global). list_form (map (λ s. part_form (symbol_view s)) xs.items))) c.in_default-args.is)))
    (λ d e. e))
    (turn.no_more c.loop-name.invariant.so_far.shorter c.in_ok-key.ensures.shorter)

pub called-returns-in_default-name : goal.called-returns-in_default-name
called-returns-in_default-name t c =
    step.answers
    (loop.no_variant_of _ _ (λ (d : Data). d) _ _ _ _ _ (codes "Macro") None refl refl
    (loop.record_lacks _ _ _ _ _ _ _ _ _ _ c.loop-name.strays (told_some _ _ _ _ c.in-Some.is c.in_ok-depth.ensures.ok)
    c.loop-name.invariant
    (told_none _ _ _ c.in_default-2.is c.in_ok-key.ensures.ok) refl c.if-strays.false
    (inr (inl (ap (option_map nonterminal_form) c.in_default-name.is))))
    (λ d e. e))
    (turn.no_more c.loop-name.invariant.so_far.shorter c.in_ok-key.ensures.shorter)

pub called-returns : goal.called-returns
called-returns t c =
    let l = c.loop-name in
    let d =
    object (member (codes "args") ((λ (xs : Vec Symbol Global). list_form (map (λ s. part_form (symbol_view s)) xs.items))
    c.in-Some-args.args) (member (codes "name") (nonterminal_form c.in-Some-name.name) no_members)) in
    record {
      ok = loop.variant_of _ _ (λ (e : Data). e) _ _ _ _ _ (codes "Macro") (Some d) d _ refl refl
          (loop.record_whole _ (λ (e : Data). e) _ _ _ _ _ _ _ _ l.strays (told_some _ _ _ _ c.in-Some.is c.in_ok-depth.ensures.ok)
          l.invariant (told_none _ _ _ c.in_default-2.is c.in_ok-key.ensures.ok)
          ((λ (xs : Vec Symbol Global). list_form (map (λ s. part_form (symbol_view s)) xs.items)) c.in-Some-args.args
          ∷ nonterminal_form c.in-Some-name.name ∷ []) d
          c.if-strays.false (rw (c.in-Some-args.is, c.in-Some-name.is) refl) refl)
          (ap (λ ds. under (codes "Macro")
          (object (member (codes "args") (array ds) (member (codes "name") (nonterminal_form c.in-Some-name.name) no_members))))
          (parts_items c.in-Some-args.args.items)
          ∙ ap kind_form (sym (call_seen c.in-Some-name.name c.in-Some-args.args)));
      err = turn.never_refused;
      shorter = turn.no_more l.invariant.so_far.shorter c.in_ok-key.ensures.shorter;
    }

pub repeated-returns-in_err-depth : goal.repeated-returns-in_err-depth
repeated-returns-in_err-depth t c = step.fails _ _ _ c.from_residual.ensures c.in_err-depth.ensures.err

pub repeated-returns-in_default : goal.repeated-returns-in_default
repeated-returns-in_default t c =
    step.answers
    (loop.no_variant_of _ _ (λ (d : Data). d) _ _ _ _ _ (codes "Repeat") None refl refl
    (loop.no_object ((codes "op", one shape.repeat_operator) ∷ (codes "symbol", one shape.symbol) ∷ []) (λ (d : Data). d) c.args.depth _
    c.open_object.new.reader (told_none _ _ _ c.in_default.is c.in_ok-depth.ensures.ok))
    (λ d e. e))
    c.in_ok-depth.ensures.shorter

pub repeated-loop-repeated-init : goal.repeated-loop-repeated-init
repeated-loop-repeated-init t c =
    loop.record_start _ c.in-Some.depth c.args.reader.now c.open_object.new.reader
    (told_some _ _ _ _ c.in-Some.is c.in_ok-depth.ensures.ok).2

pub repeated-returns-in_err-key : goal.repeated-returns-in_err-key
repeated-returns-in_err-key t c =
    step.stops _ _ c.from_residual-in_err-key.ensures.0
    (loop.no_member _ _ _ _ _ _ _ (told_some _ _ _ _ c.in-Some.is c.in_ok-depth.ensures.ok) c.loop-repeated.invariant.so_far
    (c.in_err-key.ensures.err refl c.in-Some.depth))

pub repeated-returns-in_err-op-in-op : goal.repeated-returns-in_err-op-in-op
repeated-returns-in_err-op-in-op t c =
    step.fails _ _ _ c.from_residual-in_err-op-in-op.ensures
    (λ same. loop.no_value _ _ _ _ _ _ _ (told_some _ _ _ _ c.in-Some.is c.in_ok-depth.ensures.ok) c.loop-repeated.invariant.so_far _ _
    (told_some _ _ _ _ c.in-Some-2.is c.in_ok-key.ensures.ok) (c.in_err-op-in-op.ensures.err same))

pub repeated-loop-repeated-preserved-then-str_eq : goal.repeated-loop-repeated-preserved-then-str_eq
repeated-loop-repeated-preserved-then-str_eq t c =
    loop.record_field _ c.in-Some.depth c.args.reader.now c.loop-repeated.reader _ c.loop-repeated.strays c.loop-repeated.invariant _ _
    c.in-Some-2.key.now _ c.read.new.reader
    c.in_ok-op-in-op.op _ refl (told_some _ _ _ _ c.in-Some-2.is c.in_ok-key.ensures.ok) c.in_ok-op-in-op.ensures.ok
    (turn.less_than c.in_ok-op-in-op.ensures.shorter c.in_ok-key.ensures.shorter) (λ made. inl (c.in-op.is, made, refl))

pub repeated-returns-in_err-repeated-in-symbol : goal.repeated-returns-in_err-repeated-in-symbol
repeated-returns-in_err-repeated-in-symbol t c =
    step.fails _ _ _ c.from_residual-in_err-repeated-in-symbol.ensures
    (λ same. loop.no_value _ _ _ _ _ _ _ (told_some _ _ _ _ c.in-Some.is c.in_ok-depth.ensures.ok) c.loop-repeated.invariant.so_far _ _
    (told_some _ _ _ _ c.in-Some-2.is c.in_ok-key.ensures.ok) (c.in_err-repeated-in-symbol.ensures.err same))

pub repeated-loop-repeated-preserved-then-str_eq-2 : goal.repeated-loop-repeated-preserved-then-str_eq-2
repeated-loop-repeated-preserved-then-str_eq-2 t c =
    loop.record_field _ c.in-Some.depth c.args.reader.now c.loop-repeated.reader _ c.loop-repeated.strays c.loop-repeated.invariant _ _
    c.in-Some-2.key.now _ c.symbol.new.reader
    c.in_ok-repeated-in-symbol.repeated _ refl (told_some _ _ _ _ c.in-Some-2.is c.in_ok-key.ensures.ok)
    c.in_ok-repeated-in-symbol.ensures.ok
    (turn.less_than c.in_ok-repeated-in-symbol.ensures.shorter c.in_ok-key.ensures.shorter)
    (λ made. inr (refl, inl (c.in-symbol.is, made, refl)))

pub repeated-returns-in_err-pass-in_default-key : goal.repeated-returns-in_err-pass-in_default-key
repeated-returns-in_err-pass-in_default-key t c =
    step.fails _ _ _ c.from_residual-in_err-pass-in_default-key.ensures
    (λ same. loop.no_value _ _ _ _ _ _ _ (told_some _ _ _ _ c.in-Some.is c.in_ok-depth.ensures.ok) c.loop-repeated.invariant.so_far _ _
    (told_some _ _ _ _ c.in-Some-2.is c.in_ok-key.ensures.ok) (c.in_err-pass-in_default-key.ensures.err same))

pub repeated-loop-repeated-preserved : goal.repeated-loop-repeated-preserved
repeated-loop-repeated-preserved t c =
    loop.record_stray _ c.in-Some.depth c.args.reader.now c.loop-repeated.reader _ c.loop-repeated.strays c.loop-repeated.invariant
    c.in-Some-2.key.now _ c.pass.new.reader
    (c.in_default-key.not-op, (c.in_default-key.not-symbol, tt)) (told_some _ _ _ _ c.in-Some-2.is c.in_ok-key.ensures.ok)
    c.in_ok-pass-in_default-key.ensures.ok (turn.less_than c.in_ok-pass-in_default-key.ensures.shorter c.in_ok-key.ensures.shorter)

pub repeated-returns-then-strays : goal.repeated-returns-then-strays
repeated-returns-then-strays t c =
    step.answers
    (loop.no_variant_of _ _ (λ (d : Data). d) _ _ _ _ _ (codes "Repeat") None refl refl
    (loop.record_strays _ _ _ _ _ _ _ _ _ _ c.loop-repeated.strays (told_some _ _ _ _ c.in-Some.is c.in_ok-depth.ensures.ok)
    c.loop-repeated.invariant (told_none _ _ _ c.in_default-2.is c.in_ok-key.ensures.ok) c.if-strays.true)
    (λ d e. e))
    (turn.no_more c.loop-repeated.invariant.so_far.shorter c.in_ok-key.ensures.shorter)

pub repeated-returns-in_default-op : goal.repeated-returns-in_default-op
repeated-returns-in_default-op t c =
    step.answers
    (loop.no_variant_of _ _ (λ (d : Data). d) _ _ _ _ _ (codes "Repeat") None refl refl
    (loop.record_lacks _ _ _ _ _ _ _ _ _ _ c.loop-repeated.strays (told_some _ _ _ _ c.in-Some.is c.in_ok-depth.ensures.ok)
    c.loop-repeated.invariant
    (told_none _ _ _ c.in_default-2.is c.in_ok-key.ensures.ok) refl c.if-strays.false (inl (ap (option_map op_form) c.in_default-op.is)))
    (λ d e. e))
    (turn.no_more c.loop-repeated.invariant.so_far.shorter c.in_ok-key.ensures.shorter)

pub repeated-returns-in_default-repeated : goal.repeated-returns-in_default-repeated
repeated-returns-in_default-repeated t c =
    step.answers
    (loop.no_variant_of _ _ (λ (d : Data). d) _ _ _ _ _ (codes "Repeat") None refl refl
    (loop.record_lacks _ _ _ _ _ _ _ _ _ _ c.loop-repeated.strays (told_some _ _ _ _ c.in-Some.is c.in_ok-depth.ensures.ok)
    c.loop-repeated.invariant
    (told_none _ _ _ c.in_default-2.is c.in_ok-key.ensures.ok) refl c.if-strays.false
    (inr (inl (ap (option_map (λ s. part_form (symbol_view s))) c.in_default-repeated.is))))
    (λ d e. e))
    (turn.no_more c.loop-repeated.invariant.so_far.shorter c.in_ok-key.ensures.shorter)

pub repeated-returns : goal.repeated-returns
repeated-returns t c =
    let l = c.loop-repeated in
    let b = c.in_ok-new.field-0 in
    let d = object (member (codes "op") (op_form c.in-Some-op.op)
    (member (codes "symbol") (part_form (symbol_view c.in-Some-repeated.repeated)) no_members)) in
    record {
      ok = loop.variant_of _ _ (λ (e : Data). e) _ _ _ _ _ (codes "Repeat") (Some d) d _ refl refl
          (loop.record_whole _ (λ (e : Data). e) _ _ _ _ _ _ _ _ l.strays (told_some _ _ _ _ c.in-Some.is c.in_ok-depth.ensures.ok)
          l.invariant
          (told_none _ _ _ c.in_default-2.is c.in_ok-key.ensures.ok)
          (op_form c.in-Some-op.op ∷ part_form (symbol_view c.in-Some-repeated.repeated) ∷ []) d c.if-strays.false
          (rw (c.in-Some-op.is, c.in-Some-repeated.is) refl) refl)
          (ap kind_form
          (sym (repeat_is (kind.Repeat b) b refl
          ∙ ap (λ (r : RepeatSymbol). repeated (repeat_view r).0 (repeat_view r).1) c.in_ok-new.ensures.ok
          ∙ ap (λ (r : Again). repeated r.0 r.1) (repeat_seen c.in-Some-op.op c.in-Some-repeated.repeated))));
      err = turn.never_refused;
      shorter = turn.no_more l.invariant.so_far.shorter c.in_ok-key.ensures.shorter;
    }

pub repeated-returns-in_err-new-clause-ok : goal.repeated-returns-in_err-new-clause-ok
repeated-returns-in_err-new-clause-ok t c = loop.not_ok _ _ c.from_residual-in_err-new.ensures.0
