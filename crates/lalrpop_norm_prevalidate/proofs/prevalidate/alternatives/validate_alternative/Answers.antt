use Rattle.std.proofs.Common.{◌++◌, sym, ap, ◌∙◌}
use Rattle.lalrpop_norm_tree.specs.Items.{AlternativeData, alternative_view}
use Rattle.lalrpop_norm_tree.specs.Symbols.{parts_view}
use Rattle.lalrpop_norm_tree.proofs.KindLevels.{symbols_of}
use Rattle.lalrpop_norm_faults.proofs.FaultLemmas.{exit_at}
use Rattle.lalrpop_norm_prevalidate_attributes.specs.AttributeFaults.{alternative_attributes_faults}
use Rattle.lalrpop_norm_prevalidate.specs.SymbolFaults.{list_faults}
use Rattle.lalrpop_norm_prevalidate.specs.AlternativeFaults.{alternative_faults, action_faults, first_inside}
use Rattle.lalrpop_norm_prevalidate.proofs.prevalidate.alternatives.validate_alternative.Goals as goal

pub returns-in_err-validate_list : goal.returns-in_err-validate_list
unfolding alternative_faults
returns-in_err-validate_list c =
    let a : AlternativeData = alternative_view c.args.alternative.now in
    let rest = alternative_attributes_faults a.attributes ++ action_faults a.span (first_inside a.parts) a.action in
    exit_at _ _ (list_faults c.args.around (parts_view c.deref.result.now)) rest _ c.from_residual.ensures.1 c.in_err-validate_list.ensures
    (ap (λ ps. list_faults c.args.around ps ++ rest) (symbols_of c.args.alternative.now.expr ∙ ap parts_view (sym c.deref.ensures.value)))
