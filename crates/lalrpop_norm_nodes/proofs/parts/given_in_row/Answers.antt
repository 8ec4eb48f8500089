use Rattle.lalrpop_norm_nodes.specs.Tables.{wholes_in}
use Rattle.lalrpop_norm_nodes.specs.Wholes.{symbols_at}
use Rattle.lalrpop_norm_nodes.proofs.RowTaken.{all_left, one_taken, none_taken, fewer}
use Rattle.lalrpop_norm_nodes.proofs.parts.given_in_row.Goals as goal

pub loop-symbol-init : goal.loop-symbol-init
loop-symbol-init c = all_left (wholes_in c.args.table.now) c.args.row c.args.symbols.items c.in_ok-given.given.items c.in_ok-given.ensures.items c.requires.row c.requires.long

pub loop-symbol-preserved-in-Some-row_end : goal.loop-symbol-preserved-in-Some-row_end
loop-symbol-preserved-in-Some-row_end c =
    let ws = wholes_in c.args.table.now in
    one_taken ws c.loop-symbol.row c.in-Some-row_end.before c.in-Some-row_end.number c.loop-symbol.symbols.items c.pop.new.self.items c.in-Some.symbol c.loop-symbol.given.items
    c.push.new.self.items (symbols_at ws c.args.row) c.args.symbols.items c.in-Some-row_end.ensures c.in-Some.ensures.items c.in_ok-push.ensures.items c.loop-symbol.invariant

pub loop-symbol-preserved : goal.loop-symbol-preserved
loop-symbol-preserved c =
    absurd (none_taken (wholes_in c.args.table.now) c.loop-symbol.row c.row_end.result _ _ _ c.row_end.ensures c.in_default-row_end.is c.in-Some.ensures.items c.loop-symbol.invariant.long)

pub loop-symbol-smaller-in-Some-row_end : goal.loop-symbol-smaller-in-Some-row_end
loop-symbol-smaller-in-Some-row_end c = fewer _ _ _ c.in-Some.ensures.items

pub loop-symbol-smaller : goal.loop-symbol-smaller
loop-symbol-smaller c = fewer _ _ _ c.in-Some.ensures.items
