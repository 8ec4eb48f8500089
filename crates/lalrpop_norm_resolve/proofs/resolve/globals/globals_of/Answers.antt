use Rattle.std.proofs.Common.{map, sym, ◌∙◌}
use Rattle.lalrpop_norm_tree.specs.Items.{item_view}
use Rattle.lalrpop_norm_faults.proofs.FaultLemmas.{exit_or}
use Rattle.lalrpop_norm_resolve.specs.NameTables.{items_globals}
use Rattle.lalrpop_norm_resolve.proofs.GlobalLemmas.{faults_listed, rows_listed}
use Rattle.lalrpop_norm_resolve.proofs.resolve.globals.globals_of.Goals as goal

pub returns-in_err-declare_items : goal.returns-in_err-declare_items
returns-in_err-declare_items c =
    let ds = items_globals (map item_view c.args.items.now) in
    let listed = faults_listed c.in_ok-globals.globals ds c.in_ok-globals.ensures.empty in
    exit_or _ _ _ _ c.from_residual-in_err-declare_items.ensures.1 (rw listed at c.in_err-declare_items.ensures.refuses)

pub returns : goal.returns
returns c =
    let ds = items_globals (map item_view c.args.items.now) in
    let m = c.in_ok-globals.globals in
    let empty = c.in_ok-globals.ensures.empty in
    let told = c.in_ok-declare_items.ensures in
    (sym (faults_listed m ds empty) ∙ told.refuses, told.declares ∙ rows_listed m ds empty told.refuses)
