use Rattle.lalrpop_norm.proofs.ComposedFaithful.{plain_is_expanded}
use Rattle.lalrpop_norm.proofs.plain_laws.plain_grammars_are_expanded.Goals as goal

pub returns : goal.returns
returns c = plain_is_expanded
