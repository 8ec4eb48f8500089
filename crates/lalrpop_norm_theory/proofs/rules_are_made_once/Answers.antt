use Rattle.lalrpop_norm_theory.proofs.MadeLemmas.{rules_made_once}
use Rattle.lalrpop_norm_theory.proofs.rules_are_made_once.Goals as goal

pub returns : goal.returns
returns c = rules_made_once
