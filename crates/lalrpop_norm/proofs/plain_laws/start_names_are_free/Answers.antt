use Rattle.lalrpop_norm.proofs.ComposedFaithful.{starts_free}
use Rattle.lalrpop_norm.proofs.plain_laws.start_names_are_free.Goals as goal

pub returns : goal.returns
returns c = starts_free
