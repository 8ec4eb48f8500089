use Rattle.std.proofs.Common.{[], append-nil, map, sym, ◌∙◌}
use Rattle.std.specs.List.{flat_map}
use Rattle.lalrpop_norm_tree.specs.Items.{item_view}
use Rattle.lalrpop_norm_faults.proofs.FaultLemmas.{exit_at}
use Rattle.lalrpop_norm_resolve.specs.NameTables.{items_globals, item_faults_in}
use Rattle.lalrpop_norm_resolve.proofs.GlobalLemmas.{faults_in_items, resolved_items_same}
use Rattle.lalrpop_norm_resolve.proofs.names.resolve_in_place.Goals as goal

pub returns-in_err-resolve_items-clause-refuses : goal.returns-in_err-resolve_items-clause-refuses
returns-in_err-resolve_items-clause-refuses c =
    let is = map item_view c.args.items.now in
    let told = c.in_ok-globals.ensures in
    let m = c.in_ok-globals.globals in
    exit_at _ _ (flat_map (item_faults_in m) is) [] _ c.from_residual-in_err-resolve_items.ensures.1 c.in_err-resolve_items.ensures.refuses
    (faults_in_items m is told.1 told.0 ∙ sym (append-nil (flat_map (item_faults_in m) is)))

pub returns-clause-refuses : goal.returns-clause-refuses
returns-clause-refuses c =
    let told = c.in_ok-globals.ensures in
    faults_in_items c.in_ok-globals.globals (map item_view c.args.items.now) told.1 told.0 ∙ c.in_ok-resolve_items.ensures.refuses

pub returns-clause-resolves : goal.returns-clause-resolves
returns-clause-resolves c =
    let is = map item_view c.args.items.now in
    c.in_ok-resolve_items.ensures.resolves ∙ resolved_items_same c.in_ok-globals.globals (items_globals is) c.in_ok-globals.ensures.1 is
