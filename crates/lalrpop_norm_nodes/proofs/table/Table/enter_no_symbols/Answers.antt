use Rattle.std.proofs.Common.{refl}
use Rattle.lalrpop_norm_nodes.specs.declared.node.Node.TheVariants as node
use Rattle.lalrpop_norm_nodes.specs.declared.node.Leaf.TheVariants as leaf
use Rattle.lalrpop_norm_nodes.specs.declared.table.Table.{Table}
use Rattle.lalrpop_norm_nodes.proofs.TableLemmas.{entered_meets}
use Rattle.lalrpop_norm_nodes.proofs.table.Table.enter_no_symbols.Goals as goal

pub returns-clause-meets : goal.returns-clause-meets
returns-clause-meets c =
    let a : Table = c.args.self.now in
    let e = c.in_ok-number.ensures in
    let b : Table = record a { nodes = c.enter.new.self; no_symbols = c.in_ok-number.number } in
    entered_meets a b (node.Leaf leaf.NoSymbols) c.requires tt refl e.nodes refl refl refl e.entered
