use Rattle.lalrpop_norm.proofs.MapCompositions.{bounds_compose}
use Rattle.lalrpop_norm.proofs.laws.bounds_map_by_composition.Goals as goal

pub returns : goal.returns
returns g c = bounds_compose g.F.FnMut g.G.FnMut g.H.FnMut
