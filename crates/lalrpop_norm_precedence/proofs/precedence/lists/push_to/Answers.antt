use Rattle.std.proofs.Common.{◌<◌, [], ◌∷◌, ◌∙◌, ap, length, arith}
use Rattle.std.proofs.lemmas.List.{map-append}
use Rattle.lalrpop_norm_origins.specs.Origins.{origin_view, origins_view}
use Rattle.lalrpop_norm_precedence.proofs.LevelListLemmas.{pushed_lists}
use Rattle.lalrpop_norm_precedence.proofs.precedence.lists.push_to.Goals as goal

pub returns : goal.returns
returns c =
    let gs = c.args.groups.now.items in
    let x = c.index_mut.result.now in
    let within : c.args.i < length gs = omega arith in
    pushed_lists gs c.args.i x c.push.new.self (origin_view c.args.origin) within c.index_mut.ensures.value
    (ap origins_view c.in_ok-push.ensures.items ∙ map-append origin_view x.items (c.args.origin ∷ []))
