use Rattle.lalrpop_norm_tree_parts.proofs.KnownTextLemmas.{written_then}
use Rattle.lalrpop_norm_tree_parts.proofs.path.show.show_signature.Goals as goal

pub returns : goal.returns
returns g c =
    let took = g.W.Write.write_str_gives in
    let r = c.show_between.result in
    written_then took c.args.f.now _ _ r _ _ c.in_ok-write_str.ensures.writes
    (written_then took c.write_str.new.self _ _ r _ _ c.in_ok-show_forall_path.ensures c.show_between.ensures)
