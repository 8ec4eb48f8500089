use Rattle.std.proofs.Common.{refl, []}
use Rattle.lalrpop_norm_nodes.specs.Tables.{TableMeets}
use Rattle.lalrpop_norm_nodes.specs.declared.table.Table.{Table}
use Rattle.lalrpop_norm_nodes.proofs.TableLemmas.{on_ok_both, entered_meets}
use Rattle.lalrpop_norm_nodes.proofs.table.Table.enter.Goals as goal

pub returns-clause-meets : goal.returns-clause-meets
returns-clause-meets c =
    let a : Table = c.args.self.now in
    let b : Table = record { names = a.names; nodes = c.enter.new.self; places = a.places; made = a.made; waiting = a.waiting; no_symbols = a.no_symbols } in
    on_ok_both c.enter.result _ _ (TableMeets a b [])
    (λ nodes entered. entered_meets a b c.args.node c.requires.table c.requires.fits c.requires.plain nodes refl refl refl entered)
    c.enter.ensures.nodes c.enter.ensures.entered
