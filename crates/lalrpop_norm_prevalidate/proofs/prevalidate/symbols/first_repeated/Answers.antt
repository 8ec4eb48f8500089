use Rattle.std.proofs.Common.{◌-◌, drop, map, ◌∙◌, arith, length-drop}
use Rattle.std.proofs.lemmas.List.{length-map}
use Rattle.lalrpop_norm_prevalidate.proofs.NameLemmas.{one_left}
use Rattle.lalrpop_norm_prevalidate.proofs.prevalidate.symbols.first_repeated.Goals as goal

pub returns : goal.returns
returns c =
    let left = drop (c.loop-later.later - 1) c.args.names.now in
    let long = length-map left (λ a. a.now) in
    let rest = length-drop (c.loop-later.later - 1) c.args.names.now in
    one_left (map (λ a. a.now) left) (omega arith) ∙ c.loop-later.invariant
