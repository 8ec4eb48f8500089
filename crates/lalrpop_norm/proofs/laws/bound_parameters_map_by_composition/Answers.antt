use Rattle.lalrpop_norm.proofs.MapCompositions.{parameters_compose}
use Rattle.lalrpop_norm.proofs.laws.bound_parameters_map_by_composition.Goals as goal

pub returns : goal.returns
returns g c = parameters_compose g.F.FnMut g.G.FnMut g.H.FnMut
