use Rattle.std.proofs.Common.{Bool, List, ◌++◌, not, map, sym, subst}
use Rattle.std.specs.List.{flat_map}
use Rattle.lalrpop_norm_tree_names.specs.declared.names.TerminalString.{TerminalString}
use Rattle.lalrpop_norm_tree.specs.Items.{conversion_view}
use Rattle.lalrpop_norm_faults.specs.Faults.{Fault, Refuses, fault_if}
use Rattle.lalrpop_norm_faults.specs.declared.kind.FaultKind.TheVariants.{NoPattern}
use Rattle.lalrpop_norm_token_check.specs.Converted.{unconverted_faults}
use Rattle.lalrpop_norm_token_check.specs.Uses.{uses_left}
use Rattle.lalrpop_norm_common.specs.Uses.{Use}
use Rattle.lalrpop_norm_token_check.proofs.token_check.conversions.check_enum.Goals as goal

pub returns : goal.returns
returns c =
    let told = rw c.deref.ensures.value at c.in_ok-converted.ensures in
    let cs = map conversion_view c.args.tokens.now.conversions.items in
    let used = subst (λ (h : TerminalString → Bool). Refuses c.check_uses.result
    (flat_map (λ (p : Use). fault_if (not (h p.0)) (NoPattern, p.1)) (uses_left c.args.uses))) told.1 c.check_uses.ensures in
    subst (λ (fs : List Fault). Refuses c.check_uses.result (fs ++ unconverted_faults cs (uses_left c.args.uses))) (sym told.0) used
