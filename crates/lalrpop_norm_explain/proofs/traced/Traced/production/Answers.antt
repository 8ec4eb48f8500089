use Rattle.std.proofs.Common.{ap, ◌∙◌}
use Rattle.std.specs.Prelude.{option_map}
use Rattle.lalrpop_norm_explain.specs.TracedGrammars.{pair_view}
use Rattle.lalrpop_norm_explain.proofs.Origins.{production_there, no_production_there}
use Rattle.lalrpop_norm_explain.proofs.traced.Traced.production.Goals as goal

pub returns : goal.returns
returns c =
    let found = c.in_ok-production.ensures.lookup in
    production_there c.args.self.now c.productions.result.now c.args.place c.in_ok-production.production.now c.as_slice.result c.origin_of.result _ found.3.0 found.1 c.as_slice.ensures.value
    c.origin_of.ensures c.productions.ensures

pub returns-in_err-production : goal.returns-in_err-production
returns-in_err-production c =
    ap (option_map pair_view) c.from_residual.ensures ∙ no_production_there c.args.self.now c.productions.result.now c.args.place _ c.in_err-production.ensures.lookup.0 c.productions.ensures
