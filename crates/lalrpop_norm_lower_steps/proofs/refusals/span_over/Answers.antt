use Rattle.std.proofs.Common.{refl}
use Rattle.lalrpop_norm_tree.specs.Symbols.{symbol_view}
use Rattle.lalrpop_norm_model.specs.Sources.{Source}
use Rattle.lalrpop_norm_lower_steps.proofs.SpanLemmas.{span_made}
use Rattle.lalrpop_norm_lower_steps.proofs.refusals.span_over.Goals as goal

pub returns-in-Some : goal.returns-in-Some
returns-in-Some c =
    span_made (λ t. let s : Source = record { place = t.0; symbol = symbol_view t.1.now } in s) c.args.all c.args.sources.now c.in-Some.others.now c.in-Some.field-0-0.now c.in-Some.field-0-0.now.1.now c.end_of.result
    c.in-Some.ensures.cases.0 refl c.end_of.ensures
