use Rattle.std.proofs.Common.{◌∙◌, ◌++◌, ap, string_bytes}
use Rattle.std.proofs.lemmas.Result.{on_ok_weaker}
use Rattle.lalrpop_norm_repr.specs.Productions.{production_view}
use Rattle.lnorm_run.specs.Lines.{origin_text}
use Rattle.lnorm_run.proofs.ProductionOrigins.{origin_at, origin_past}
use Rattle.lnorm_run.proofs.lines.push_origin_among.Goals as goal

pub returns-in-Some : goal.returns-in-Some
returns-in-Some c =
    let found = c.in-Some.ensures.lookup in
    on_ok_weaker c.push_origin.result
    (λ e. e ∙ ap (λ o. string_bytes c.args.text.now ++ origin_text o)
    (origin_at c.args.origins.now c.index.result (production_view c.args.production.now) c.index.ensures c.in-Some.origin.now found.3.0 found.1))
    c.push_origin.ensures

pub returns-in-None : goal.returns-in-None
returns-in-None c =
    on_ok_weaker c.push_origin-in-None.result
    (λ e. e ∙ ap (λ o. string_bytes c.args.text.now ++ origin_text o)
    (origin_past c.args.origins.now c.index.result (production_view c.args.production.now) c.index.ensures c.in-None.ensures.lookup.0))
    c.push_origin-in-None.ensures
