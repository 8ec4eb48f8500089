use Rattle.std.proofs.Common.{◌≡◌, Ok, refl, ap, sym, ◌∙◌, arith}
use borrow.Author.Count.{falls}
use Rattle.lalrpop_norm_tree.specs.declared.symbol.MacroSymbol.{MacroSymbol}
use Rattle.lalrpop_norm_tree.specs.declared.symbol.SymbolKind.TheViews.{out-MacroSymbol, roll-out-MacroSymbol, sized-Choose, sized-Name, sized-Tuple, sized-Repeat}
use Rattle.lalrpop_norm_tree.specs.Symbols.{chosen, named, tupled, symbol_view, tuple_view, parts_of, parts_view}
use Rattle.lalrpop_norm_tree.proofs.KindLevels.{chosen_is, named_is, tupled_is}
use Rattle.lalrpop_norm_model.specs.Scopes.{resolved_part}
use Rattle.lalrpop_norm_resolve.specs.NameFaults.{part_name_faults, parts_name_faults}
use Rattle.lalrpop_norm_resolve.specs.NameTables.{sense_in}
use Rattle.lalrpop_norm_resolve.proofs.NameLemmas.{resolved_one_by_one}
use Rattle.lalrpop_norm_resolve.proofs.InPlace.{left_more, done_more, sound_more, exit_more, each_done, none_left}
use Rattle.lalrpop_norm_resolve.proofs.KindSteps.{told_exit, told_from, symbol_told, boxed_told, again_told, ambiguous_told, ambiguous_faults, plain_told, wrapped_told, repeated_told, group_told, call_faults, call_told}
use Rattle.lalrpop_norm_resolve.proofs.SymbolSizes.{to_kind, to_boxed, to_repeated, to_one, to_items, to_arguments}
use Rattle.lalrpop_norm_resolve.proofs.resolve.symbols.+resolve.Goals as goal

pub resolve_each-loop-symbol-init : goal.resolve_each-loop-symbol-init
resolve_each-loop-symbol-init t c = record {
  rest = λ k d h. refl;
  done = refl;
  sound = refl;
}

pub resolve_each-loop-symbol-preserved : goal.resolve_each-loop-symbol-preserved
resolve_each-loop-symbol-preserved t c =
    let sense = sense_in c.args.globals.now c.args.args.now in
    let was = c.args.symbols.now in
    let now = c.loop-symbol.symbols in
    let i = c.loop-symbol.symbol-index in
    let within = c.loop-symbol-test.true in
    let long = c.loop-symbol.auto.symbols in
    let told = c.in_ok-resolve_symbol.ensures in
    let v = c.loop-symbol.invariant in
    record {
      rest = left_more was now i within long v.rest c.resolve_symbol.new.symbol;
      done = done_more was now i within long v.rest symbol_view (resolved_part sense) c.resolve_symbol.new.symbol c.symbol-item.result told.resolves v.done;
      sound = sound_more was now i within long v.rest (λ ss. parts_name_faults sense (parts_view ss)) (λ s. part_name_faults sense (symbol_view s)) (λ y ys. refl) c.symbol-item.result told.refuses v.sound;
    }

pub resolve_each-loop-symbol-smaller : goal.resolve_each-loop-symbol-smaller
resolve_each-loop-symbol-smaller t c = falls _ _ c.loop-symbol-test.true

pub resolve_each-returns-in_err-resolve_symbol-clause-refuses : goal.resolve_each-returns-in_err-resolve_symbol-clause-refuses
resolve_each-returns-in_err-resolve_symbol-clause-refuses t c =
    let sense = sense_in c.args.globals.now c.args.args.now in
    exit_more c.args.symbols.now c.loop-symbol.symbols c.loop-symbol.symbol-index c.loop-symbol-test.true c.loop-symbol.auto.symbols c.loop-symbol.invariant.rest
    (λ ss. parts_name_faults sense (parts_view ss)) (λ s. part_name_faults sense (symbol_view s)) (λ y ys. refl) c.symbol-item.result
    _ _ c.from_residual.ensures.1 c.in_err-resolve_symbol.ensures.refuses c.loop-symbol.invariant.sound

pub resolve_each-returns-clause-refuses : goal.resolve_each-returns-clause-refuses
resolve_each-returns-clause-refuses t c =
    none_left c.args.symbols.now c.loop-symbol.symbols c.loop-symbol.symbol-index c.loop-symbol-test.false c.loop-symbol.auto.symbols
    (λ ss. parts_name_faults (sense_in c.args.globals.now c.args.args.now) (parts_view ss)) refl c.loop-symbol.invariant.sound

pub resolve_each-returns-clause-resolves : goal.resolve_each-returns-clause-resolves
resolve_each-returns-clause-resolves t c =
    let sense = sense_in c.args.globals.now c.args.args.now in
    ap parts_of (each_done c.args.symbols.now c.loop-symbol.symbols c.loop-symbol.symbol-index c.loop-symbol-test.false c.loop-symbol.auto.symbols symbol_view (resolved_part sense) c.loop-symbol.invariant.done)
    ∙ resolved_one_by_one sense c.args.symbols.now

pub resolve_each-resolve_symbol-requires : goal.resolve_each-resolve_symbol-requires
resolve_each-resolve_symbol-requires t c =
    (to_one t c.loop-symbol.symbols c.args.symbols.now c.loop-symbol.symbol-index _ c.loop-symbol-test.true c.loop-symbol.invariant.rest c.decreases, tt)

pub resolve_symbol-resolve_kind-requires : goal.resolve_symbol-resolve_kind-requires
resolve_symbol-resolve_kind-requires t c = (to_kind t c.args.symbol.now c.decreases, tt)

pub resolve_boxed-resolve_symbol-requires : goal.resolve_boxed-resolve_symbol-requires
resolve_boxed-resolve_symbol-requires t c = (to_boxed t _ _ c.deref_mut.ensures.value c.decreases, tt)

pub resolve_repeat-resolve_symbol-requires : goal.resolve_repeat-resolve_symbol-requires
resolve_repeat-resolve_symbol-requires t c = (to_repeated t _ _ c.deref_mut.ensures.value c.decreases, tt)

pub resolve_kind-resolve_each-requires : goal.resolve_kind-resolve_each-requires
resolve_kind-resolve_each-requires t c = (to_items t c.args.kind.now _ _ c.in-Expr.is c.deref_mut.ensures.value c.decreases, tt)

pub resolve_kind-resolve_each-requires-in-Macro : goal.resolve_kind-resolve_each-requires-in-Macro
resolve_kind-resolve_each-requires-in-Macro t c =
    let is = c.deref_mut-in-Macro.ensures.value ∙ ap (λ (m : MacroSymbol). (out-MacroSymbol m).args.items) (roll-out-MacroSymbol c.in-Macro.call) in
    (to_arguments t c.args.kind.now c.in-Macro.call c.deref_mut-in-Macro.result.now c.in-Macro.is is c.decreases, tt)

pub resolve_kind-resolve_boxed-requires : goal.resolve_kind-resolve_boxed-requires
resolve_kind-resolve_boxed-requires t c = (omega (arith, rw (c.in-Choose.is) at c.decreases, sized-Choose c.in-Choose.symbol), tt)

pub resolve_kind-resolve_boxed-requires-in-Name : goal.resolve_kind-resolve_boxed-requires-in-Name
resolve_kind-resolve_boxed-requires-in-Name t c = (omega (arith, rw (c.in-Name.is) at c.decreases, sized-Name c.in-Name.field-0 c.in-Name.symbol), tt)

pub resolve_kind-resolve_boxed-requires-in-Tuple : goal.resolve_kind-resolve_boxed-requires-in-Tuple
resolve_kind-resolve_boxed-requires-in-Tuple t c = (omega (arith, rw (c.in-Tuple.is) at c.decreases, sized-Tuple c.in-Tuple.field-0 c.in-Tuple.symbol), tt)

pub resolve_kind-resolve_repeat-requires : goal.resolve_kind-resolve_repeat-requires
resolve_kind-resolve_repeat-requires t c = (omega (arith, rw (c.in-Repeat.is) at c.decreases, sized-Repeat c.in-Repeat.repeat), tt)

pub resolve_kind-returns-in-Choose : goal.resolve_kind-returns-in-Choose
resolve_kind-returns-in-Choose t c =
    wrapped_told (sense_in c.args.globals.now c.args.args.now) c.args.span c.args.kind.now _ chosen _ _ _ (chosen_is c.args.kind.now _ c.in-Choose.is) (chosen_is _ _ refl) refl refl c.resolve_boxed.ensures

pub resolve_kind-returns-in-Name : goal.resolve_kind-returns-in-Name
resolve_kind-returns-in-Name t c =
    wrapped_told (sense_in c.args.globals.now c.args.args.now) c.args.span c.args.kind.now _ (named c.in-Name.field-0) _ _ _ (named_is c.args.kind.now _ _ c.in-Name.is) (named_is _ _ _ refl) refl refl c.resolve_boxed-in-Name.ensures

pub resolve_kind-returns-in-Tuple : goal.resolve_kind-returns-in-Tuple
resolve_kind-returns-in-Tuple t c =
    wrapped_told (sense_in c.args.globals.now c.args.args.now) c.args.span c.args.kind.now _ (tupled (tuple_view c.in-Tuple.field-0)) _ _ _ (tupled_is c.args.kind.now _ _ c.in-Tuple.is) (tupled_is _ _ _ refl) refl refl c.resolve_boxed-in-Tuple.ensures

pub resolve_kind-returns-in-Repeat : goal.resolve_kind-returns-in-Repeat
resolve_kind-returns-in-Repeat t c = repeated_told (sense_in c.args.globals.now c.args.args.now) c.args.span c.args.kind.now _ _ _ c.in-Repeat.is c.resolve_repeat.ensures

pub resolve_kind-returns-in-Expr : goal.resolve_kind-returns-in-Expr
resolve_kind-returns-in-Expr t c =
    group_told (sense_in c.args.globals.now c.args.args.now) c.args.span c.args.kind.now c.resolve_each.result _ _ c.resolve_each.new.symbols c.in-Expr.is c.deref_mut.ensures.value
    (c.resolve_each.auto.symbols ∙ c.deref_mut.ensures.len) c.resolve_each.ensures

pub resolve_kind-returns-in_ok-check_call-in-Macro : goal.resolve_kind-returns-in_ok-check_call-in-Macro
resolve_kind-returns-in_ok-check_call-in-Macro t c =
    let kept = roll-out-MacroSymbol c.in-Macro.call in
    let is = c.deref_mut-in-Macro.ensures.value ∙ ap (λ (m : MacroSymbol). (out-MacroSymbol m).args.items) kept in
    let alike : c.deref.result.now ≡ c.deref_mut-in-Macro.result.now = c.deref.ensures.value ∙ sym is in
    call_told (sense_in c.args.globals.now c.args.args.now) c.args.span c.args.kind.now c.in-Macro.call c.deref_mut-in-Macro.result.now c.in-Macro.is is
    c.resolve_each-in-Macro.result _ c.resolve_each-in-Macro.new.symbols kept (c.resolve_each-in-Macro.auto.symbols ∙ c.deref_mut-in-Macro.ensures.len)
    (rw (alike) at c.in_ok-check_call-in-Macro.ensures) c.resolve_each-in-Macro.ensures

pub resolve_kind-returns-in_err-check_call-in-Macro : goal.resolve_kind-returns-in_err-check_call-in-Macro
resolve_kind-returns-in_err-check_call-in-Macro t c =
    told_exit _ _ _ _ _ _ c.from_residual-in_err-check_call-in-Macro.ensures c.in_err-check_call-in-Macro.ensures
    (call_faults (sense_in c.args.globals.now c.args.args.now) c.args.span c.args.kind.now _ _ c.in-Macro.is c.deref.ensures.value)

pub resolve_kind-returns-in-Terminal : goal.resolve_kind-returns-in-Terminal
resolve_kind-returns-in-Terminal t c = plain_told (sense_in c.args.globals.now c.args.args.now) c.args.span c.args.kind.now c.in-Terminal.is

pub resolve_kind-returns-in_ok-kind-in-AmbiguousId : goal.resolve_kind-returns-in_ok-kind-in-AmbiguousId
resolve_kind-returns-in_ok-kind-in-AmbiguousId t c =
    let told = c.in_ok-kind-in-AmbiguousId.ensures in
    ambiguous_told (sense_in c.args.globals.now c.args.args.now) c.args.span c.args.kind.now (Ok (tt {0})) c.in-AmbiguousId.id _ c.in-AmbiguousId.is (record { refuses = told.0; resolves = told.1 })

pub resolve_kind-returns-in_err-kind-in-AmbiguousId : goal.resolve_kind-returns-in_err-kind-in-AmbiguousId
resolve_kind-returns-in_err-kind-in-AmbiguousId t c =
    told_from _ _ _ _ _ c.from_residual.ensures c.in_err-kind-in-AmbiguousId.ensures
    (ambiguous_faults (sense_in c.args.globals.now c.args.args.now) c.args.span c.args.kind.now c.in-AmbiguousId.id c.in-AmbiguousId.is)

pub resolve_symbol-returns : goal.resolve_symbol-returns
resolve_symbol-returns t c = symbol_told (sense_in c.args.globals.now c.args.args.now) _ c.args.symbol.now _ c.resolve_kind.ensures

pub resolve_boxed-returns : goal.resolve_boxed-returns
resolve_boxed-returns t c = boxed_told (sense_in c.args.globals.now c.args.args.now) _ _ _ _ c.deref_mut.ensures.value c.resolve_symbol.ensures

pub resolve_repeat-returns : goal.resolve_repeat-returns
resolve_repeat-returns t c = again_told (sense_in c.args.globals.now c.args.args.now) _ _ _ _ c.deref_mut.ensures.value c.resolve_symbol.ensures
