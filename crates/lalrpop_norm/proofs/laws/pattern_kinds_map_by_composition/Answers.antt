use Rattle.lalrpop_norm.proofs.MapCompositions.{kinds_compose}
use Rattle.lalrpop_norm.proofs.laws.pattern_kinds_map_by_composition.Goals as goal

pub returns : goal.returns
returns g c = kinds_compose g.F.FnMut g.G.FnMut g.H.FnMut
