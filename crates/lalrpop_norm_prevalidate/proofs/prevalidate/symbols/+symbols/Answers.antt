use Rattle.std.proofs.Common.{◌+◌, ◌++◌, List, drop, sym, ap, ◌∙◌}
use Rattle.lalrpop_norm_tree.specs.declared.symbol.Symbol.{Symbol}
use Rattle.lalrpop_norm_tree.specs.Symbols.{Call, call, symbol_view, parts_view}
use Rattle.lalrpop_norm_tree.proofs.KindLevels.{call_is, called_with}
use Rattle.lalrpop_norm_faults.specs.Faults.{Fault}
use Rattle.lalrpop_norm_faults.proofs.FaultLemmas.{at_drop_item, exit_at}
use Rattle.lalrpop_norm_prevalidate.specs.declared.prevalidate.Surroundings.{Surroundings}
use Rattle.lalrpop_norm_prevalidate.specs.SymbolFaults.{call_faults, kind_faults, part_faults, parts_faults}
use Rattle.lalrpop_norm_prevalidate.proofs.prevalidate.symbols.+symbols.Goals as goal

abbrev faults : Surroundings → List Symbol → List Fault
faults around xs = parts_faults around (parts_view xs)

pub validate_each-returns-in_err-validate_symbol : goal.validate_each-returns-in_err-validate_symbol
validate_each-returns-in_err-validate_symbol t c =
    let xs = c.args.symbols.now in
    let i = c.loop-symbol.symbol-index in
    let x = c.symbol-item.result in
    exit_at _ _ (part_faults c.args.around (symbol_view x)) (faults c.args.around (drop (i + 1) xs)) _
    c.from_residual.ensures.1 c.in_err-validate_symbol.ensures
    (sym c.loop-symbol.invariant ∙ at_drop_item (faults c.args.around) xs i x c.loop-symbol-test.true c.symbol-item.is)

pub validate_kind-returns-in_err-validate_call-in-Macro : goal.validate_kind-returns-in_err-validate_call-in-Macro
validate_kind-returns-in_err-validate_call-in-Macro t c =
    let around = c.args.around in
    let s = c.args.span in
    let xs = c.deref-in-Macro.result.now in
    exit_at _ _ (call_faults s (parts_view xs)) (faults around xs) _ c.from_residual.ensures.1 c.in_err-validate_call-in-Macro.ensures
    (ap (kind_faults around s) (call_is c.args.kind.now c.in-Macro.call c.in-Macro.is ∙ ap (λ (x : Call). call x.0 x.1) (called_with c.in-Macro.call))
    ∙ ap (λ (ys : List Symbol). call_faults s (parts_view ys) ++ faults around ys) (sym c.deref-in-Macro.ensures.value))
