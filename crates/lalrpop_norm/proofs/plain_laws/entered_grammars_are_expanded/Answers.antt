use Rattle.lalrpop_norm.proofs.ComposedFaithful.{entered_is_expanded}
use Rattle.lalrpop_norm.proofs.plain_laws.entered_grammars_are_expanded.Goals as goal

pub returns : goal.returns
returns c = entered_is_expanded
