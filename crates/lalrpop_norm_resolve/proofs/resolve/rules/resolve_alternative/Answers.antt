use Rattle.std.proofs.Common.{Ok, refl, ◌∙◌}
use Rattle.lalrpop_norm_resolve.specs.NameTables.{sense_in}
use Rattle.lalrpop_norm_resolve.proofs.KindSteps.{told_exit, told_from, alternative_faults, symbol_faults, alternative_told}
use Rattle.lalrpop_norm_resolve.proofs.resolve.rules.resolve_alternative.Goals as goal

pub returns-in_err-check_condition : goal.returns-in_err-check_condition
returns-in_err-check_condition c =
    told_exit _ _ _ _ _ _ c.from_residual.ensures c.in_err-check_condition.ensures (alternative_faults (sense_in c.args.globals.now c.args.args.now) c.args.alternative.now _ refl)

pub returns-in_err-resolve_each : goal.returns-in_err-resolve_each
returns-in_err-resolve_each c =
    told_from _ _ _ _ _ c.from_residual-in_err-resolve_each.ensures c.in_err-resolve_each.ensures.refuses
    (symbol_faults (sense_in c.args.globals.now c.args.args.now) c.args.alternative.now _ c.deref_mut.ensures.value c.in_ok-check_condition.ensures)

pub returns : goal.returns
returns c =
    alternative_told (sense_in c.args.globals.now c.args.args.now) c.args.alternative.now _ c.deref_mut.ensures.value (Ok c.in_ok-resolve_each.field-0) c.resolve_each.new.symbols
    (c.resolve_each.auto.symbols ∙ c.deref_mut.ensures.len) c.in_ok-check_condition.ensures c.in_ok-resolve_each.ensures
