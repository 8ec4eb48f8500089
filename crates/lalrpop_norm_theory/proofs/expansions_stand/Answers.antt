use Rattle.lalrpop_norm_theory.proofs.Expansion.{expansion_stands}
use Rattle.lalrpop_norm_theory.proofs.expansions_stand.Goals as goal

pub returns : goal.returns
returns c = expansion_stands
