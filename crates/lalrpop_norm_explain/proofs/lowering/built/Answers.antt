use Rattle.std.proofs.Common.{◌≡◌, ◌∷◌, ◌∙◌, sym, ap, map}
use Rattle.std.specs.Prelude.{reverse}
use Rattle.lalrpop_norm_explain.specs.Trees.{lowered_view, lowered_views}
use Rattle.lalrpop_norm_explain.specs.Plans.{stepped, planned_tree, step_pair, way_view}
use Rattle.std.proofs.lemmas.Result.{IfOk-from_err}
use Rattle.lalrpop_norm_explain.proofs.Lowered.{built_on, empty_list}
use Rattle.lalrpop_norm_explain.proofs.lowering.built.Goals as goal

pub loop-name-preserved-in_ok-whole : goal.loop-name-preserved-in_ok-whole
loop-name-preserved-in_ok-whole c =
    let before : stepped (reverse (map step_pair ((c.in-Some.name, c.in-Some.place) ∷ c.next.new.self.rest.items))) (lowered_view c.loop-name.whole)
    ≡ planned_tree (way_view c.args.way) (lowered_views c.args.children.items) = rw c.in-Some.ensures.steps.0 at c.loop-name.invariant in
    ap (stepped (reverse (map step_pair c.next.new.self.rest.items))) c.in_ok-whole.ensures
    ∙ sym (built_on c.next.new.self.rest.items (c.in-Some.name, c.in-Some.place) (lowered_view c.loop-name.whole)) ∙ before

pub loop-name-preserved : goal.loop-name-preserved
loop-name-preserved c =
    let before : stepped (reverse (map step_pair ((c.in-Some.name, c.in-Some.place) ∷ c.next.new.self.rest.items))) (lowered_view c.loop-name.whole)
    ≡ planned_tree (way_view c.args.way) (lowered_views c.args.children.items) = rw c.in-Some.ensures.steps.0 at c.loop-name.invariant in
    ap (stepped (reverse (map step_pair c.next.new.self.rest.items))) c.in_ok-whole.ensures
    ∙ sym (built_on c.next.new.self.rest.items (c.in-Some.name, c.in-Some.place) (lowered_view c.loop-name.whole)) ∙ before

pub loop-name-init : goal.loop-name-init
loop-name-init c =
    ap (λ ss. stepped (reverse (map step_pair ss)) (lowered_view c.node-whole.result)) c.into_iter-name-iterator.ensures.into_iter_gives.0
    ∙ ap (stepped (reverse (map step_pair c.args.way.steps.items))) c.node-whole.ensures

pub returns : goal.returns
returns c =
    let rest = c.loop-name.name-iterator.rest in
    sym (ap (λ ss. stepped (reverse (map step_pair ss)) (lowered_view c.loop-name.whole)) (empty_list rest.items (sym rest.ok.0 ∙ c.in-None.ensures.steps.0)))
    ∙ c.loop-name.invariant

pub returns-in_err-whole : goal.returns-in_err-whole
returns-in_err-whole c = IfOk-from_err _ _ c.from_residual.ensures.0
