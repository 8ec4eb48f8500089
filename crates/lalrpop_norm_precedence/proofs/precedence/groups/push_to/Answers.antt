use Rattle.std.proofs.Common.{◌≡◌, ◌<◌, ◌++◌, [], ◌∷◌, map, length, arith, rules, ◌∙◌, ap}
use Rattle.std.proofs.lemmas.List.{map-append}
use Rattle.lalrpop_norm_precedence.specs.Grouped.{marked_view}
use Rattle.lalrpop_norm_precedence.proofs.GroupLemmas.{pushed_at}
use Rattle.lalrpop_norm_precedence.proofs.precedence.groups.push_to.Goals as goal

pub returns : goal.returns
returns c =
    let gs = c.args.groups.now.items in
    let x = c.index_mut.result.now in
    let within : c.args.i < length gs = omega arith in
    let longer : c.push.new.self.items ≡ x.alternatives.items ++ c.args.alternative ∷ [] = search rules in
    pushed_at gs c.args.i x (record { level = x.level; alternatives = c.push.new.self }) (marked_view c.args.alternative) within c.index_mut.ensures.value
    (ap (λ ys. (x.level, map marked_view ys)) longer ∙ ap (λ ys. (x.level, ys)) (map-append marked_view x.alternatives.items (c.args.alternative ∷ [])))
