use Rattle.lalrpop_norm_explain.proofs.Origins.{origin_there, no_origin_there}
use Rattle.lalrpop_norm_explain.proofs.traced.Traced.origin_of.Goals as goal

pub returns-in-Some : goal.returns-in-Some
returns-in-Some c =
    let found = c.in-Some.ensures.lookup in
    origin_there c.args.self.now c.deref.result.now c.index.result c.in-Some.origin.now c.args.production.now c.deref.ensures.value c.index.ensures found.3.0 found.1

pub returns-in-None : goal.returns-in-None
returns-in-None c = no_origin_there c.args.self.now c.deref.result.now c.index.result c.args.production.now c.deref.ensures.value c.index.ensures c.in-None.ensures.lookup.0
