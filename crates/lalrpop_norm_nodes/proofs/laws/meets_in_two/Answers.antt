use Rattle.lalrpop_norm_nodes.proofs.MeetLemmas.{meets_both, refused_both}
use Rattle.lalrpop_norm_nodes.proofs.laws.meets_in_two.Goals as goal

pub returns : goal.returns
returns c = λ a b d xs ys h k. (meets_both a b d xs ys h k, refused_both a b xs ys h)
