use Rattle.std.proofs.Common.{get_or, refl}
use Rattle.lalrpop_norm_origins.specs.Origins.{origins_view}
use Rattle.lalrpop_norm_macro_expand.specs.TracedRules.{origin_at, at_places}
use Rattle.lalrpop_norm_macro_expand.proofs.LoopLemmas.{one_further, all_through}
use Rattle.lalrpop_norm_macro_expand.proofs.macro_expand.made_origins.kept_origins.Goals as goal

pub loop-place-preserved : goal.loop-place-preserved
loop-place-preserved c =
    let own = origins_view c.args.own.now in
    let place = get_or c.args.kept.now c.loop-place.place-index 0 in
    one_further c.args.kept.now c.loop-place.place-index (at_places own) (at_places own) place 0 (origin_at own place) _ _ _
    c.loop-place-test.true refl refl c.in_ok-add_origin.ensures c.loop-place.invariant

pub returns : goal.returns
returns c = all_through c.args.kept.now c.loop-place.place-index (at_places (origins_view c.args.own.now)) _ _ c.loop-place-test.false refl c.loop-place.invariant
