use Rattle.lalrpop_norm.proofs.ComposedFaithful.{lowered_faithful}
use Rattle.lalrpop_norm.proofs.plain_laws.lowered_grammars_are_faithful.Goals as goal

pub returns : goal.returns
returns g c = λ fs tree limit checked table l tokens h. lowered_faithful fs tree limit checked table h _ tokens l
