use Rattle.std.proofs.Common.{rules, refl, []}
use Rattle.std.proofs.Output.{has_written_append, has_written_of_eq}
use Rattle.std.proofs.lemmas.Slice.Zip.{Zip-more, either_empty_from_Zip}
use Rattle.lalrpop_norm_repr.proofs.ArgumentTexts.{one_more_pair, last_pair}
use Rattle.lalrpop_norm_repr.proofs.action.show.show_others.Goals as goal

pub loop-pattern-init : goal.loop-pattern-init
loop-pattern-init g c = λ plain. ([], search rules, search rules)

pub loop-pattern-preserved : goal.loop-pattern-preserved
loop-pattern-preserved g c =
    λ plain.
    let before = c.loop-pattern.invariant plain in
    let between = c.in_ok-write_str.ensures.writes before.1.plain refl in
    let shown = c.in_ok-show_argument.ensures between.plain refl in
    let left = Zip-more c.loop-pattern.pattern-iterator c.next.new.self _ (c.in-Some.pattern, c.in-Some.ty) c.in-Some.is c.next.ensures.steps in (
      _,
      has_written_append _ _ _ _ _ _ before.1 (has_written_append _ _ _ _ _ _ between shown),
      one_more_pair _ _ c.in-Some.pattern.now _ c.in-Some.ty.now _ before.0 _ left.0 left.1 before.2,
    )

pub returns : goal.returns
returns g c =
    λ plain _.
    let all = c.loop-pattern.invariant plain in
    has_written_of_eq _ _ _ _ _ (last_pair _ _ all.0 _ (either_empty_from_Zip c.loop-pattern.pattern-iterator c.next.new.self _ c.in-None.is c.next.ensures.steps) all.2) all.1
