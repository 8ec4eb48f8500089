use Rattle.std.proofs.Common.{ap, ◌∙◌, map}
use Rattle.lalrpop_norm_explain.specs.Derivations.{traced}
use Rattle.lalrpop_norm_explain.specs.TracedGrammars.{origins_in}
use Rattle.lalrpop_norm_explain.proofs.WaySteps.{traced_each}
use Rattle.lalrpop_norm_explain.proofs.traced.Traced.productions.Goals as goal

pub returns : goal.returns
returns c = traced_each c.args.self.now c.productions_for.result.now ∙ ap (map (traced (origins_in c.args.self.now))) c.productions_for.ensures
