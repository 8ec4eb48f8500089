use Rattle.lalrpop_norm_theory.proofs.TableLemmas.{rules_realize}
use Rattle.lalrpop_norm_theory.proofs.rules_realize.Goals as goal

pub returns : goal.returns
returns c = rules_realize
