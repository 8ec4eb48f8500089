use Rattle.std.proofs.Common.{◌∙◌, ◌+◌, ◌++◌, ap, sym, length, drop}
use Rattle.lalrpop_norm_faults.proofs.FaultLemmas.{at_drop_item}
use Rattle.lalrpop_norm_tree.specs.Symbols.{parts_view, symbol_view}
use Rattle.lalrpop_norm_lower.specs.Naming.{names_from, source_names}
use Rattle.lalrpop_norm_lower.proofs.ArgumentLemmas.{one_more_name, names_told}
use Rattle.lalrpop_norm_lower.proofs.arguments.put_source_names.Goals as goal

pub loop-symbol-init : goal.loop-symbol-init
loop-symbol-init c =
    ap (λ ns. ns ++ names_from c.args.prefix.now c.args.sources.some_named c.args.sources.some_chosen (length ns) (parts_view c.args.symbols.now)) (c.reserve.ensures.items ∙ c.clear.ensures.items)
    ∙ names_told c.args.prefix.now (parts_view c.args.symbols.now) c.args.sources c.requires

pub loop-symbol-preserved : goal.loop-symbol-preserved
loop-symbol-preserved c =
    let prefix = c.args.prefix.now in
    let named = c.args.sources.some_named in
    let chosen = c.args.sources.some_chosen in
    let old = c.loop-symbol.names in
    one_more_name prefix named chosen c.contain-source.result (symbol_view c.symbol-item.result) (parts_view (drop (c.loop-symbol.symbol-index + 1) c.args.symbols.now)) _ c.contain-source.ensures
    old.items c.add_name.new.names.items old.ok.0 c.in_ok-add_name.ensures (source_names prefix (parts_view c.args.symbols.now))
    (sym (at_drop_item (λ ys. old.items ++ names_from prefix named chosen (length old.items) (parts_view ys)) c.args.symbols.now c.loop-symbol.symbol-index c.symbol-item.result c.loop-symbol-test.true c.symbol-item.is)
    ∙ c.loop-symbol.invariant)
