use Rattle.lalrpop_norm_tree_parts.proofs.WrittenLemmas.{then_then_last}
use Rattle.lalrpop_norm_tree_parts.proofs.lowered.show.show_associated.Goals as goal

pub returns : goal.returns
returns g c = then_then_last g.W.Write.write_str_gives _ _ _ _ _ _ _ _ c.in_ok-fmt.ensures.writes c.in_ok-write_str.ensures.writes c.fmt-2.ensures.writes
