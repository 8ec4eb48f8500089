use Rattle.std.proofs.Common.{map, refl, sym, ap, ◌∙◌}
use Rattle.std.proofs.lemmas.List.{take_all}
use Rattle.std.proofs.lemmas.Result.{IfOk-from_err}
use borrow.Author.Count.{falls}
use Rattle.lalrpop_norm_tree.specs.Symbols.{group, parts_of, kind_view, symbol_view, repeat_view, parts_view}
use Rattle.lalrpop_norm_tree.proofs.KindLevels.{group_is, call_is, named_is, tupled_is}
use Rattle.lalrpop_norm_tree.proofs.SymbolCopies.{symbol_copied, group_copied, call_copied, repeat_copied, again_copied, chosen_copied, symbols_more}
use Rattle.lalrpop_norm_tree.proofs.SymbolViews.{ambiguous_seen, terminal_seen, nonterminal_seen}
use Rattle.lalrpop_norm_tree.proofs.SymbolSizes.{to_kind, to_items, to_arguments, to_again, to_boxed, to_repeated, to_one, to_group, to_call, to_repeat, to_chosen, to_named, to_tupled, less}
use Rattle.lalrpop_norm_tree.proofs.symbol.copy.+copy.Goals as goal

pub copy_symbol-returns : goal.copy_symbol-returns
copy_symbol-returns t c = symbol_copied c.args.symbol.now c.in_ok-kind.kind c.in_ok-kind.ensures

pub copy_kind-returns-in-Expr : goal.copy_kind-returns-in-Expr
copy_kind-returns-in-Expr t c = rw (group_is c.args.kind.now c.in-Expr.expr c.in-Expr.is) c.group_copy.ensures

pub copy_kind-returns-in-AmbiguousId : goal.copy_kind-returns-in-AmbiguousId
copy_kind-returns-in-AmbiguousId t c = rw (c.in-AmbiguousId.is, ambiguous_seen c.in-AmbiguousId.id) c.id_copy.ensures

pub copy_kind-returns-in-Terminal : goal.copy_kind-returns-in-Terminal
copy_kind-returns-in-Terminal t c = rw (c.in-Terminal.is, terminal_seen c.in-Terminal.token) c.terminal_copy.ensures

pub copy_kind-returns-in-Nonterminal : goal.copy_kind-returns-in-Nonterminal
copy_kind-returns-in-Nonterminal t c = rw (c.in-Nonterminal.is, nonterminal_seen c.in-Nonterminal.name) c.nonterminal_copy.ensures

pub copy_kind-returns-in-Macro : goal.copy_kind-returns-in-Macro
copy_kind-returns-in-Macro t c = rw (call_is c.args.kind.now c.in-Macro.instance c.in-Macro.is) c.call_copy.ensures

pub copy_kind-returns-in_ok-boxed_repeat-in-Repeat : goal.copy_kind-returns-in_ok-boxed_repeat-in-Repeat
copy_kind-returns-in_ok-boxed_repeat-in-Repeat t c = again_copied c.args.kind.now c.in-Repeat.repeat c.in_ok-boxed_repeat-in-Repeat.field-0 c.in-Repeat.is c.in_ok-boxed_repeat-in-Repeat.ensures

pub copy_kind-returns-in_ok-boxed_symbol-in-Choose : goal.copy_kind-returns-in_ok-boxed_symbol-in-Choose
copy_kind-returns-in_ok-boxed_symbol-in-Choose t c = chosen_copied c.args.kind.now c.in-Choose.symbol c.in_ok-boxed_symbol-in-Choose.field-0 c.in-Choose.is c.in_ok-boxed_symbol-in-Choose.ensures

pub copy_kind-returns-in_ok-boxed_symbol-in-Name : goal.copy_kind-returns-in_ok-boxed_symbol-in-Name
copy_kind-returns-in_ok-boxed_symbol-in-Name t c =
    rw (named_is c.args.kind.now c.in-Name.name c.in-Name.symbol c.in-Name.is, ← c.in_ok-boxed_symbol-in-Name.ensures) c.named_copy.ensures

pub copy_kind-returns-in_ok-boxed_symbol-in-Tuple : goal.copy_kind-returns-in_ok-boxed_symbol-in-Tuple
copy_kind-returns-in_ok-boxed_symbol-in-Tuple t c =
    rw (tupled_is c.args.kind.now c.in-Tuple.tuple c.in-Tuple.symbol c.in-Tuple.is, ← c.in_ok-boxed_symbol-in-Tuple.ensures) c.tupled_copy.ensures

pub copy_kind-returns-in-Lookahead : goal.copy_kind-returns-in-Lookahead
copy_kind-returns-in-Lookahead t c = ap kind_view (sym c.in-Lookahead.is)

pub copy_kind-returns-in-Lookbehind : goal.copy_kind-returns-in-Lookbehind
copy_kind-returns-in-Lookbehind t c = ap kind_view (sym c.in-Lookbehind.is)

pub copy_kind-returns-in-Error : goal.copy_kind-returns-in-Error
copy_kind-returns-in-Error t c = ap kind_view (sym c.in-Error.is)

pub group_copy-returns : goal.group_copy-returns
group_copy-returns t c = group_is _ c.in_ok-copy_expr.field-0 refl ∙ ap group c.in_ok-copy_expr.ensures

pub call_copy-returns : goal.call_copy-returns
call_copy-returns t c = rw (← c.in_ok-copy_macro.ensures) (call_is _ c.in_ok-copy_macro.field-0 refl)

pub boxed_repeat-returns : goal.boxed_repeat-returns
boxed_repeat-returns t c = ap repeat_view c.in_ok-new.ensures.ok ∙ c.in_ok-copy_repeat.ensures ∙ ap repeat_view c.deref.ensures

pub boxed_symbol-returns : goal.boxed_symbol-returns
boxed_symbol-returns t c = ap symbol_view c.in_ok-new.ensures.ok ∙ c.in_ok-copy_symbol.ensures ∙ ap symbol_view c.deref.ensures

pub copy_expr-returns : goal.copy_expr-returns
copy_expr-returns t c = group_copied c.args.expr.now c.in_ok-symbols.symbols (rw (← c.deref.ensures.value) c.in_ok-symbols.ensures)

pub copy_macro-returns : goal.copy_macro-returns
copy_macro-returns t c = call_copied c.args.call.now c.in_ok-clone.field-0 c.in_ok-args.args c.in_ok-clone.ensures.cases (rw (← c.deref.ensures.value) c.in_ok-args.ensures)

pub copy_repeat-returns : goal.copy_repeat-returns
copy_repeat-returns t c = repeat_copied c.args.repeat.now c.in_ok-symbol.symbol c.in_ok-symbol.ensures

pub copy_symbols-loop-symbol-init : goal.copy_symbols-loop-symbol-init
copy_symbols-loop-symbol-init t c = rw (c.in_ok-copies.ensures.items) refl

pub copy_symbols-loop-symbol-smaller : goal.copy_symbols-loop-symbol-smaller
copy_symbols-loop-symbol-smaller t c = falls _ _ c.loop-symbol-test.true

pub copy_symbols-returns : goal.copy_symbols-returns
copy_symbols-returns t c = ap parts_of (c.loop-symbol.invariant ∙ ap (map symbol_view) (take_all c.loop-symbol.symbol-index c.args.symbols.now c.loop-symbol-test.false))

pub copy_symbols-loop-symbol-preserved : goal.copy_symbols-loop-symbol-preserved
copy_symbols-loop-symbol-preserved t c =
    symbols_more c.args.symbols.now c.loop-symbol.copies.items _ c.loop-symbol.symbol-index c.symbol-item.result c.in_ok-kind.kind
    c.loop-symbol-test.true c.symbol-item.is c.loop-symbol.invariant c.in_ok-kind.ensures c.in_ok-add.ensures

pub boxed_repeat-returns-in_err-copy_repeat : goal.boxed_repeat-returns-in_err-copy_repeat
boxed_repeat-returns-in_err-copy_repeat t c = IfOk-from_err _ _ c.from_residual.ensures.0

pub boxed_repeat-returns-in_err-new : goal.boxed_repeat-returns-in_err-new
boxed_repeat-returns-in_err-new t c = IfOk-from_err _ _ c.from_residual-in_err-new.ensures.0

pub boxed_symbol-returns-in_err-copy_symbol : goal.boxed_symbol-returns-in_err-copy_symbol
boxed_symbol-returns-in_err-copy_symbol t c = IfOk-from_err _ _ c.from_residual.ensures.0

pub boxed_symbol-returns-in_err-new : goal.boxed_symbol-returns-in_err-new
boxed_symbol-returns-in_err-new t c = IfOk-from_err _ _ c.from_residual-in_err-new.ensures.0

pub call_copy-returns-in_err-copy_macro : goal.call_copy-returns-in_err-copy_macro
call_copy-returns-in_err-copy_macro t c = IfOk-from_err _ _ c.from_residual.ensures.0

pub copy_expr-returns-in_err-symbols : goal.copy_expr-returns-in_err-symbols
copy_expr-returns-in_err-symbols t c = IfOk-from_err _ _ c.from_residual.ensures.0

pub copy_kind-returns-in_err-boxed_repeat-in-Repeat : goal.copy_kind-returns-in_err-boxed_repeat-in-Repeat
copy_kind-returns-in_err-boxed_repeat-in-Repeat t c = IfOk-from_err _ _ c.from_residual.ensures.0

pub copy_kind-returns-in_err-boxed_symbol-in-Choose : goal.copy_kind-returns-in_err-boxed_symbol-in-Choose
copy_kind-returns-in_err-boxed_symbol-in-Choose t c = IfOk-from_err _ _ c.from_residual-in_err-boxed_symbol-in-Choose.ensures.0

pub copy_kind-returns-in_err-boxed_symbol-in-Name : goal.copy_kind-returns-in_err-boxed_symbol-in-Name
copy_kind-returns-in_err-boxed_symbol-in-Name t c = IfOk-from_err _ _ c.from_residual-in_err-boxed_symbol-in-Name.ensures.0

pub copy_kind-returns-in_err-boxed_symbol-in-Tuple : goal.copy_kind-returns-in_err-boxed_symbol-in-Tuple
copy_kind-returns-in_err-boxed_symbol-in-Tuple t c = IfOk-from_err _ _ c.from_residual-in_err-boxed_symbol-in-Tuple.ensures.0

pub copy_macro-returns-in_err-args : goal.copy_macro-returns-in_err-args
copy_macro-returns-in_err-args t c = IfOk-from_err _ _ c.from_residual.ensures.0

pub copy_macro-returns-in_err-clone : goal.copy_macro-returns-in_err-clone
copy_macro-returns-in_err-clone t c = IfOk-from_err _ _ c.from_residual-in_err-clone.ensures.0

pub copy_repeat-returns-in_err-symbol : goal.copy_repeat-returns-in_err-symbol
copy_repeat-returns-in_err-symbol t c = IfOk-from_err _ _ c.from_residual.ensures.0

pub copy_symbol-returns-in_err-kind : goal.copy_symbol-returns-in_err-kind
copy_symbol-returns-in_err-kind t c = IfOk-from_err _ _ c.from_residual.ensures.0

pub copy_symbols-returns-in_err-add : goal.copy_symbols-returns-in_err-add
copy_symbols-returns-in_err-add t c = IfOk-from_err _ _ c.from_residual-in_err-add.ensures.0

pub copy_symbols-returns-in_err-copies : goal.copy_symbols-returns-in_err-copies
copy_symbols-returns-in_err-copies t c = IfOk-from_err _ _ c.from_residual.ensures.0

pub copy_symbols-returns-in_err-kind : goal.copy_symbols-returns-in_err-kind
copy_symbols-returns-in_err-kind t c = IfOk-from_err _ _ c.from_residual-in_err-kind.ensures.0

pub group_copy-returns-in_err-copy_expr : goal.group_copy-returns-in_err-copy_expr
group_copy-returns-in_err-copy_expr t c = IfOk-from_err _ _ c.from_residual.ensures.0

pub copy_symbol-copy_kind-requires : goal.copy_symbol-copy_kind-requires
copy_symbol-copy_kind-requires t c = (to_kind t c.args.symbol.now c.decreases, tt)

pub copy_kind-group_copy-requires : goal.copy_kind-group_copy-requires
copy_kind-group_copy-requires t c = (to_group t c.args.kind.now c.in-Expr.expr c.in-Expr.is c.decreases, tt)

pub copy_kind-call_copy-requires : goal.copy_kind-call_copy-requires
copy_kind-call_copy-requires t c = (to_call t c.args.kind.now c.in-Macro.instance c.in-Macro.is c.decreases, tt)

pub copy_kind-boxed_repeat-requires : goal.copy_kind-boxed_repeat-requires
copy_kind-boxed_repeat-requires t c = (to_repeat t c.args.kind.now c.in-Repeat.repeat c.in-Repeat.is c.decreases, tt)

pub copy_kind-boxed_symbol-requires : goal.copy_kind-boxed_symbol-requires
copy_kind-boxed_symbol-requires t c = (to_chosen t c.args.kind.now c.in-Choose.symbol c.in-Choose.is c.decreases, tt)

pub copy_kind-boxed_symbol-requires-in-Name : goal.copy_kind-boxed_symbol-requires-in-Name
copy_kind-boxed_symbol-requires-in-Name t c = (to_named t c.args.kind.now c.in-Name.name c.in-Name.symbol c.in-Name.is c.decreases, tt)

pub copy_kind-boxed_symbol-requires-in-Tuple : goal.copy_kind-boxed_symbol-requires-in-Tuple
copy_kind-boxed_symbol-requires-in-Tuple t c = (to_tupled t c.args.kind.now c.in-Tuple.tuple c.in-Tuple.symbol c.in-Tuple.is c.decreases, tt)

pub group_copy-copy_expr-requires : goal.group_copy-copy_expr-requires
group_copy-copy_expr-requires t c = (less _ t c.decreases, tt)

pub call_copy-copy_macro-requires : goal.call_copy-copy_macro-requires
call_copy-copy_macro-requires t c = (less _ t c.decreases, tt)

pub boxed_repeat-copy_repeat-requires : goal.boxed_repeat-copy_repeat-requires
boxed_repeat-copy_repeat-requires t c = (to_repeated t c.deref.result.now c.args.repeat.now.value c.deref.ensures c.decreases, tt)

pub boxed_symbol-copy_symbol-requires : goal.boxed_symbol-copy_symbol-requires
boxed_symbol-copy_symbol-requires t c = (to_boxed t c.deref.result.now c.args.symbol.now.value c.deref.ensures c.decreases, tt)

pub copy_expr-copy_symbols-requires : goal.copy_expr-copy_symbols-requires
copy_expr-copy_symbols-requires t c = (to_items t c.args.expr.now c.deref.result.now c.deref.ensures.value c.decreases, tt)

pub copy_macro-copy_symbols-requires : goal.copy_macro-copy_symbols-requires
copy_macro-copy_symbols-requires t c = (to_arguments t c.args.call.now c.deref.result.now c.deref.ensures.value c.decreases, tt)

pub copy_repeat-copy_symbol-requires : goal.copy_repeat-copy_symbol-requires
copy_repeat-copy_symbol-requires t c = (to_again t c.args.repeat.now c.decreases, tt)

pub copy_symbols-copy_kind-requires : goal.copy_symbols-copy_kind-requires
copy_symbols-copy_kind-requires t c = (to_one t c.args.symbols.now c.loop-symbol.symbol-index c.symbol-item.result c.loop-symbol-test.true c.symbol-item.is c.decreases, tt)
