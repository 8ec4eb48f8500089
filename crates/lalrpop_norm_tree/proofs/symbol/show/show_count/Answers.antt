use Rattle.lalrpop_norm_tree_parts.proofs.WrittenLemmas.{not_written, then_then_last}
use Rattle.lalrpop_norm_tree.proofs.symbol.show.show_count.Goals as goal

pub returns : goal.returns
returns g c = then_then_last g.W.Write.write_str_gives _ _ _ _ _ _ _ _ c.in_ok-write_str.ensures.writes c.in_ok-fmt.ensures.writes c.write_str-2.ensures.writes

pub returns-in_err-write_str : goal.returns-in_err-write_str
returns-in_err-write_str g c = not_written g.W.Write.write_str_gives _ _ _ _ c.from_residual.ensures.0

pub returns-in_err-fmt : goal.returns-in_err-fmt
returns-in_err-fmt g c = not_written g.W.Write.write_str_gives _ _ _ _ c.from_residual-in_err-fmt.ensures.0
