use Rattle.lalrpop_norm_tree_parts.proofs.WrittenLemmas.{not_written, then_last}
use Rattle.lalrpop_norm_repr.proofs.WriteSteps.{and_then}
use Rattle.lalrpop_norm_repr.proofs.action.show.show_user.Goals as goal

pub returns-in_err-show_signature : goal.returns-in_err-show_signature
returns-in_err-show_signature g c = not_written g.W.Write.write_str_gives _ _ _ _ c.from_residual.ensures.0

pub returns-in_err-write_str : goal.returns-in_err-write_str
returns-in_err-write_str g c = not_written g.W.Write.write_str_gives _ _ _ _ c.from_residual-in_err-write_str.ensures.0

pub returns-in_err-fmt : goal.returns-in_err-fmt
returns-in_err-fmt g c = not_written g.W.Write.write_str_gives _ _ _ _ c.from_residual-in_err-fmt.ensures.0

pub returns : goal.returns
returns g c =
    let took = g.W.Write.write_str_gives in
    then_last took _ _ _ _ _ _ (and_then took _ _ _ _ _ (and_then took _ _ _ _ _ c.in_ok-show_signature.ensures c.in_ok-write_str.ensures.writes) c.in_ok-fmt.ensures.writes) c.write_str-2.ensures.writes
