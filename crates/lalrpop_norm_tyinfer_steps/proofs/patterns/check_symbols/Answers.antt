use Rattle.std.proofs.Common.{drop, List, sym, ◌∙◌, ◌+◌}
use Rattle.lalrpop_norm_tree.specs.declared.symbol.Symbol.{Symbol}
use Rattle.lalrpop_norm_tree.specs.Accessors.{tuple_of}
use Rattle.lalrpop_norm_tree.specs.Symbols.{symbol_view, parts_view}
use Rattle.lalrpop_norm_tyinfer_steps.specs.Numbered.{numbered_table}
use Rattle.lalrpop_norm_faults.proofs.FaultLemmas.{exit_at, at_drop_item}
use Rattle.lalrpop_norm_tyinfer_steps.specs.TableFaults.{parts_misfits, tuple_misfits}
use Rattle.lalrpop_norm_tyinfer_steps.specs.TableValues.{type_by_name}
use Rattle.lalrpop_norm_tyinfer_steps.proofs.patterns.check_symbols.Goals as goal

pub returns-in_err-check_part : goal.returns-in_err-check_part
returns-in_err-check_part c =
    let f = type_by_name (numbered_table c.args.types.now) in
    let xs = c.args.symbols.now in
    let i = c.loop-symbol.symbol-index in
    let x = c.symbol-item.result in
    exit_at _ _ (tuple_misfits f (tuple_of (symbol_view x))) (parts_misfits f (parts_view (drop (i + 1) xs))) _ c.from_residual.ensures.1 c.in_err-check_part.ensures
    (sym c.loop-symbol.invariant ∙ at_drop_item (λ (ys : List Symbol). parts_misfits f (parts_view ys)) xs i x c.loop-symbol-test.true c.symbol-item.is)
