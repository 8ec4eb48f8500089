use Rattle.lalrpop_norm.proofs.MapCompositions.{fields_compose}
use Rattle.lalrpop_norm.proofs.laws.field_patterns_map_by_composition.Goals as goal

pub returns : goal.returns
returns g c = fields_compose g.F.FnMut g.G.FnMut g.H.FnMut
