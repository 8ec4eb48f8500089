use Rattle.std.proofs.Common.{refl, append-nil}
use Rattle.std.proofs.lemmas.List.{map_push}
use Rattle.lalrpop_norm_common.proofs.ExprLemmas.{more_named}
use Rattle.lalrpop_norm_common.proofs.norm_util.named_symbols.Goals as goal
use Rattle.lalrpop_norm_common.proofs.norm_util.named_symbols.Goals.{in-Some+in_ok-push, in_default}

pub loop-place-preserved : goal.loop-place-preserved
loop-place-preserved c =
    let e = c.in_ok-entry.ensures in
    let before = c.loop-place.invariant in
    elim c.match-branch-2.branch [
      | in-Some+in_ok-push w ↦ more_named c.args.symbols.now c.loop-place.place c.index-symbols-place.result _ _ _ _ c.loop-place-test.true c.index-symbols-place.is e (rw (w.found-is, w.in-Some.is, w.in_ok-push.ensures.items, map_push) refl) before
      | in_default w ↦ more_named c.args.symbols.now c.loop-place.place c.index-symbols-place.result _ _ _ _ c.loop-place-test.true c.index-symbols-place.is e (rw (w.found-is, w.in_default.is, append-nil) refl) before
    ]
