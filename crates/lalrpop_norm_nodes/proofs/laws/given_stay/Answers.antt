use Rattle.lalrpop_norm_nodes.proofs.GivenLemmas.{all_given_stay, wholes_stay, shown_text}
use Rattle.lalrpop_norm_nodes.proofs.laws.given_stay.Goals as goal

pub returns : goal.returns
returns c = λ ws vs e grows h. (all_given_stay ws vs e grows h, wholes_stay ws vs e grows h, λ k. shown_text ws e h k)
