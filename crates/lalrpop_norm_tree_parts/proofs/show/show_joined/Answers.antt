use Rattle.std.proofs.Common.{arith, sym, ◌∙◌}
use Rattle.lalrpop_norm_tree_parts.proofs.KnownTextLemmas.{each_after-more, shown_more, joined_shown}
use Rattle.lalrpop_norm_tree_parts.proofs.show.show_joined.Goals as goal

pub loop-other-preserved : goal.loop-other-preserved
loop-other-preserved g c =
    λ plain.
    rw (each_after-more g.T.Display.output c.args.separator.now c.in-Some.others.now c.loop-other.other-index c.other-item.result c.loop-other-test.true c.other-item.is)
    (shown_more g.W.Write.write_str_gives _ _ c.write_str.new.self _ _ _ (g.T.Display.output c.other-item.result) (c.loop-other.invariant plain) c.in_ok-write_str.ensures.writes c.in_ok-fmt-2.ensures.writes)

pub returns-after-loop-other : goal.returns-after-loop-other
returns-after-loop-other g c =
    joined_shown g.W.Write.write_str_gives g.T.Display.output c.args.separator.now c.args.f.now c.fmt.new.f c.loop-other.f
    c.args.items.now.items c.in-Some.first.now c.in-Some.others.now c.loop-other.other-index (sym c.deref.ensures.value ∙ c.in-Some.ensures.cases.0) (omega arith) c.in_ok-fmt.ensures.writes c.loop-other.invariant
