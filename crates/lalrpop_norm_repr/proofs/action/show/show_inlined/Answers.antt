use Rattle.lalrpop_norm_tree_parts.proofs.WrittenLemmas.{not_written, then_last}
use Rattle.lalrpop_norm_repr.proofs.WriteSteps.{and_then}
use Rattle.lalrpop_norm_repr.proofs.action.show.show_inlined.Goals as goal

pub returns-in_err-fmt-in-Inlined : goal.returns-in_err-fmt-in-Inlined
returns-in_err-fmt-in-Inlined g c = not_written g.W.Write.write_str_gives _ _ _ _ c.from_residual.ensures.0

pub returns-in_err-write_str-in-Inlined : goal.returns-in_err-write_str-in-Inlined
returns-in_err-write_str-in-Inlined g c = not_written g.W.Write.write_str_gives _ _ _ _ c.from_residual-in_err-write_str-in-Inlined.ensures.0

pub returns-in_err-show_symbols-in-Inlined : goal.returns-in_err-show_symbols-in-Inlined
returns-in_err-show_symbols-in-Inlined g c = not_written g.W.Write.write_str_gives _ _ _ _ c.from_residual-in_err-show_symbols-in-Inlined.ensures.0

pub returns-in-Original : goal.returns-in-Original
returns-in-Original g c =
    rw c.in-Original.is c.fmt.ensures.writes

pub returns-in_ok-show_symbols-in-Inlined : goal.returns-in_ok-show_symbols-in-Inlined
returns-in_ok-show_symbols-in-Inlined g c =
    let took = g.W.Write.write_str_gives in
    rw c.in-Inlined.is
    (then_last took _ _ _ _ _ _ (and_then took _ _ _ _ _ (and_then took _ _ _ _ _ c.in_ok-fmt-in-Inlined.ensures.writes c.in_ok-write_str-in-Inlined.ensures.writes) c.in_ok-show_symbols-in-Inlined.ensures) c.write_str-in-Inlined.ensures.writes)
