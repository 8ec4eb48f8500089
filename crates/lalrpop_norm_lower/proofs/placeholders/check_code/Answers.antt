use Rattle.std.proofs.Common.{◌∙◌, ap, subst, map}
use Rattle.lalrpop_norm_faults.specs.Faults.{Refuses}
use Rattle.lalrpop_norm_tree.specs.Items.{alternative_view}
use Rattle.lalrpop_norm_tree.specs.Symbols.{symbol_view}
use Rattle.lalrpop_norm_model.specs.LoweringFaults.{slots}
use Rattle.lalrpop_norm_model.specs.Sources.{Source}
use Rattle.lalrpop_norm_lower_steps.specs.Counts.{count_faults}
use Rattle.lalrpop_norm_lower.proofs.SourceLemmas.{named_clean, unnamed_faults}
use Rattle.lalrpop_norm_lower.proofs.placeholders.check_code.Goals as goal

pub returns-in-Named : goal.returns-in-Named
returns-in-Named c = named_clean (alternative_view c.args.alternative.now) _ (rw c.in-Named.is at c.in_ok-analyze_expr.ensures)

pub returns : goal.returns
returns c =
    let faults = unnamed_faults (λ t. (t.0, symbol_view t.1.now)) (alternative_view c.args.alternative.now) c.in-Anon.sources.items c.slots-count.result
    (rw c.in-Anon.is at c.in_ok-analyze_expr.ensures) (c.slots-count.ensures ∙ ap slots c.code_in.ensures) c.if-count-lt2.false in
    subst (λ fs. Refuses c.check_count.result fs)
    (ap (λ xs. count_faults c.args.alternative.now.span c.slots-count.result (map (λ t. let s : Source = record { place = t.0; symbol = symbol_view t.1.now } in s) xs)) c.deref.ensures.value ∙ faults)
    c.check_count.ensures
