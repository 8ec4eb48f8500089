use Rattle.lalrpop_norm.proofs.MapCompositions.{patterns_compose}
use Rattle.lalrpop_norm.proofs.laws.patterns_map_by_composition.Goals as goal

pub returns : goal.returns
returns g c = patterns_compose g.F.FnMut g.G.FnMut g.H.FnMut
