use Rattle.std.proofs.Common.{refl}
use Rattle.lalrpop_norm_nodes.proofs.texts.make_text.Goals as goal

pub returns-clause-counted : goal.returns-clause-counted
returns-clause-counted c = refl
