use Rattle.std.proofs.Common.{refl}
use Rattle.std.proofs.lemmas.List.{map_push}
use Rattle.lalrpop_norm_common.proofs.ExprLemmas.{more_of_all}
use Rattle.lalrpop_norm_common.proofs.norm_util.all_symbols.Goals as goal

pub loop-place-preserved : goal.loop-place-preserved
loop-place-preserved c =
    more_of_all c.args.symbols.now c.loop-place.place c.index-symbols-place.result _ _ _ c.loop-place-test.true c.index-symbols-place.is (rw (c.in_ok-push.ensures.items, map_push) refl) c.loop-place.invariant
