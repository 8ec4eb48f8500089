use Rattle.std.proofs.Common.{Some, codes, map}
use Rattle.lalrpop_norm_tree_parts.specs.KnownTexts.{joined_known}
use Rattle.lalrpop_norm_tree_parts.proofs.KnownTextLemmas.{written_then, known_then}
use Rattle.lalrpop_norm_tree_parts.proofs.show.show_between.Goals as goal

pub returns : goal.returns
returns g c =
    let took = g.W.Write.write_str_gives in
    let r = c.write_str-2.result in
    written_then took c.args.f.now _ _ r _ _ c.in_ok-write_str.ensures.writes
    (known_then took c.write_str.new.self _ _ r (joined_known (codes ", ") (map g.T.Display.output c.args.items.now.items)) (Some (codes ")")) c.in_ok-show_joined.ensures c.write_str-2.ensures.writes)
