use Rattle.std.proofs.Common.{refl}
use Rattle.lalrpop_norm_tree.specs.Symbols.{parts_view}
use Rattle.lalrpop_norm_tree.specs.Items.{rule_view}
use Rattle.lalrpop_norm_faults.proofs.FaultLemmas.{exit_or}
use Rattle.lalrpop_norm_macro_expand_rules.specs.Conditions.{instance_faults}
use Rattle.lalrpop_norm_macro_expand.proofs.macro_expand.instance.instance_rule.Goals as goal

pub returns-in_err-kept : goal.returns-in_err-kept
returns-in_err-kept c =
    exit_or _ _ (instance_faults (rule_view c.args.called.now.definition) (parts_view c.args.arguments.now)) _ c.from_residual.ensures.1
    (rw (c.deref-names.ensures.value, c.deref.ensures.value) at c.in_err-kept.ensures)

pub returns : goal.returns
returns c =
    let read = rw (c.deref-names.ensures.value, c.deref.ensures.value) at c.in_ok-kept.ensures in
    let type = rw c.deref-names.ensures.value at c.in_ok-type_decl.ensures in
    (read.0, (rw (c.in_ok-clone.ensures.cases, c.in_ok-copy_attributes.ensures, c.new.ensures.items, type, read.1.0) refl, read.1.1))
