use Rattle.lalrpop_norm_tree_parts.proofs.KnownTextLemmas.{written_then}
use Rattle.lalrpop_norm_tree_parts.proofs.WrittenLemmas.{failed}
use Rattle.lalrpop_norm_tree_parts.proofs.show.show_return.Goals as goal

pub returns-in_err-write_str-in-Some : goal.returns-in_err-write_str-in-Some
returns-in_err-write_str-in-Some g c = failed g.W.Write.write_str_gives _ _ _ _ c.from_residual.ensures.0

pub returns-in_ok-write_str-in-Some : goal.returns-in_ok-write_str-in-Some
returns-in_ok-write_str-in-Some g c =
    rw (c.in-Some.is) (written_then g.W.Write.write_str_gives c.args.f.now _ _ c.fmt.result _ _ c.in_ok-write_str-in-Some.ensures.writes c.fmt.ensures.writes)
