use Rattle.std.proofs.Common.{sym, ap, ◌∙◌}
use Rattle.std.specs.List.{flat_map}
use Rattle.std.proofs.Output.{has_written_of_eq}
use Rattle.std.proofs.lemmas.Iterator.{YieldsList-from_chars}
use Rattle.std.proofs.lemmas.Iterator.Consumers.{YieldsList-end}
use Rattle.lalrpop_norm_tree_names.specs.Texts.{escape_char}
use Rattle.lalrpop_norm_tree_names.proofs.ListLemmas.{map_same}
use Rattle.lalrpop_norm_tree_names.proofs.escape.write_escaped.Goals as goal

pub returns : goal.returns
returns g c =
    λ plain _.
    let all = YieldsList-end (YieldsList-from_chars c.args.text.now c.utf8.text cc) c.loop-c.yielded _ c.loop-c.yielded_by _ _ c.in-None.is c.next.ensures.steps in
    has_written_of_eq _ _ _ _ _ (ap (flat_map escape_char) (sym (map_same _) ∙ all.0)) (c.loop-c.invariant plain)
