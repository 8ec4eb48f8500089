use Rattle.std.proofs.Common.{◌∙◌, sym, ap, subst}
use Rattle.lalrpop_norm_tree.specs.Symbols.{symbol_view}
use Rattle.lalrpop_norm_nodes.proofs.MeetLemmas.{meets_nothing}
use Rattle.lalrpop_norm_nodes.proofs.WaitLemmas.{waits_nothing}
use Rattle.lalrpop_norm_nodes.specs.Tables.{wholes_in, TableMeets, refused_in}
use Rattle.lalrpop_norm_nodes.specs.Waits.{LeavesWaiting}
use Rattle.lalrpop_norm_macro_expand_rules.proofs.UnchangedLemmas.{unchanged_meets, unchanged_shown_met, unchanged_shown}
use Rattle.lalrpop_norm_macro_expand_rules.proofs.reading.read_in_place.Goals as goal

pub returns-then-is_unchanged-clause-refuses : goal.returns-then-is_unchanged-clause-refuses
returns-then-is_unchanged-clause-refuses c =
    let same = sym c.is_unchanged.ensures ∙ c.if-is_unchanged.true in
    ap (refused_in c.args.table.now) (unchanged_meets c.args.environment.now (symbol_view c.args.symbol.now) same (wholes_in c.args.table.now))

pub returns-then-is_unchanged-clause-meets : goal.returns-then-is_unchanged-clause-meets
returns-then-is_unchanged-clause-meets c =
    let same = sym c.is_unchanged.ensures ∙ c.if-is_unchanged.true in
    subst (TableMeets c.args.table.now c.args.table.now) (sym (unchanged_meets c.args.environment.now (symbol_view c.args.symbol.now) same (wholes_in c.args.table.now)))
    (meets_nothing c.args.table.now c.requires.table)

pub returns-then-is_unchanged-clause-waits : goal.returns-then-is_unchanged-clause-waits
returns-then-is_unchanged-clause-waits c =
    let same = sym c.is_unchanged.ensures ∙ c.if-is_unchanged.true in
    subst (LeavesWaiting c.args.table.now c.args.table.now) (sym (unchanged_shown_met c.args.environment.now (symbol_view c.args.symbol.now) same))
    (waits_nothing c.args.table.now)

pub returns-then-is_unchanged-clause-value : goal.returns-then-is_unchanged-clause-value
returns-then-is_unchanged-clause-value c =
    sym (unchanged_shown c.args.environment.now (symbol_view c.args.symbol.now) (sym c.is_unchanged.ensures ∙ c.if-is_unchanged.true))
