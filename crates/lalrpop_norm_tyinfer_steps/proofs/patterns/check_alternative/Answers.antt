use Rattle.std.proofs.Common.{List, subst, sym}
use Rattle.lalrpop_norm_tree.specs.Items.{alternative_view}
use Rattle.lalrpop_norm_faults.specs.Faults.{Fault, Refuses}
use Rattle.lalrpop_norm_tyinfer_steps.specs.Numbered.{numbered_table}
use Rattle.lalrpop_norm_tyinfer_steps.specs.TableValues.{type_by_name}
use Rattle.lalrpop_norm_tyinfer_steps.proofs.MisfitLemmas.{misfits_are}
use Rattle.lalrpop_norm_tyinfer_steps.proofs.patterns.check_alternative.Goals as goal

pub returns : goal.returns
returns c =
    let P : List Fault → Type 0 = λ fs. Refuses c.check_expr.result fs in
    subst P (sym (misfits_are (type_by_name (numbered_table c.args.types.now)) (alternative_view c.args.alternative.now).parts)) c.check_expr.ensures
