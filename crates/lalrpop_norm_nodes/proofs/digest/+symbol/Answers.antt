use Rattle.std.proofs.Common.{◌∙◌, refl, arith}
use Rattle.lalrpop_norm_tree.specs.declared.symbol.Symbol.{Symbol}
use Rattle.lalrpop_norm_tree.specs.Symbols.{symbol_view, parts_view}
use Rattle.lalrpop_norm_nodes.specs.Digests.{part_writes, parts_writes}
use Rattle.lalrpop_norm_nodes.proofs.DigestLemmas.{one_read, all_read}
use Rattle.lalrpop_norm_nodes.proofs.digest.+symbol.Goals as goal

pub read_row-loop-symbol-preserved : goal.read_row-loop-symbol-preserved
read_row-loop-symbol-preserved t c =
    one_read (λ ss. parts_writes (parts_view ss)) (λ (s : Symbol). part_writes (symbol_view s)) (λ s ss. refl)
    c.args.symbols.now c.loop-symbol.symbol-index c.symbol-item.result c.loop-symbol.reader c.read_symbol.new.reader
    (omega arith) c.symbol-item.is c.read_symbol.ensures
    ∙ c.loop-symbol.invariant

pub read_row-returns : goal.read_row-returns
read_row-returns t c =
    c.write_u8.ensures
    ∙ all_read (λ ss. parts_writes (parts_view ss))
    c.args.symbols.now c.loop-symbol.symbol-index c.loop-symbol.reader (omega arith)
    ∙ c.loop-symbol.invariant
