use Rattle.lalrpop_norm_model.proofs.AutomatonLemmas.{automaton_unseen}
use Rattle.lalrpop_norm_model.proofs.automaton_is_unseen.Goals as goal

pub returns : goal.returns
returns c = automaton_unseen
