use Rattle.lalrpop_norm.proofs.ComposedFaithful.{plain_is_typed}
use Rattle.lalrpop_norm.proofs.plain_laws.plain_grammars_are_typed.Goals as goal

pub returns : goal.returns
returns c = plain_is_typed
