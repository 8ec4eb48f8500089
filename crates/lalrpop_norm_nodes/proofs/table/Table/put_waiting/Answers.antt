use Rattle.std.proofs.Common.{Some, ◌≡◌, option_and_then, slice_get, subst, sym}
use Rattle.lalrpop_norm_tree.specs.declared.symbol.Symbol.{Symbol}
use Rattle.lalrpop_norm_tree.specs.Symbols.{symbol_view}
use Rattle.lalrpop_norm_tree.specs.SymbolTexts.{part_text}
use Rattle.lalrpop_norm_nodes.specs.declared.table.Waiting.{Waiting}
use Rattle.lalrpop_norm_nodes.specs.Tables.{wholes_in, own_text_in}
use Rattle.lalrpop_norm_nodes.proofs.TableLemmas.{waiting_more}
use Rattle.lalrpop_norm_nodes.proofs.table.Table.put_waiting.Goals as goal

pub returns-clause-table : goal.returns-clause-table
returns-clause-table c =
    let a = c.args.self.now in
    let w : Waiting = record { number = c.args.number; symbol = c.replace-symbol.result } in
    waiting_more a c.push.new.self w c.requires.table c.in_ok-push.ensures.items
    (subst (λ (s : Symbol). option_and_then own_text_in (slice_get (wholes_in a) c.args.number) ≡ Some (part_text (symbol_view s)))
    (sym c.replace-symbol.ensures.value) c.requires.text)
