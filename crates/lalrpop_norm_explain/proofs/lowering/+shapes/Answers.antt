use Rattle.std.proofs.Common.{◌≡◌, ◌<◌, ◌≤◌, ◌≢◌, ◌+◌, ◌∙◌, ◌++◌, sym, ap, refl, subst, arith, length, drop, map}
use borrow.Author.Count.{falls}
use Rattle.lalrpop_norm_theory.specs.Symbols.{lookahead}
use Rattle.lalrpop_norm_theory.specs.LoweredTrees.{lowered_node, no_lowered, lowered_and}
use Rattle.lalrpop_norm_theory.specs.Translations.{left_leaning}
use Rattle.lalrpop_norm_explain.specs.Derivations.{tree_symbol, symbols_view}
use Rattle.lalrpop_norm_explain.specs.TracedGrammars.{grammar_of}
use Rattle.lalrpop_norm_explain.specs.Plans.{each, planned_tree, way_view, most_steps}
use Rattle.lalrpop_norm_explain.specs.TreeLowering.{shapes_faults, each_lowered}
use Rattle.lalrpop_norm_explain.specs.TreeFaults.{raised}
use Rattle.lalrpop_norm_model.specs.Reading.{terminal_of}
use Rattle.lalrpop_norm_explain.specs.Trees.{lowered_view, lowered_views, written_view, written_views}
use Rattle.lalrpop_norm_explain.proofs.Lowered.{fit, not_fit, filled, star_faults, star_lowered, plus_same, plus_lowered_same, plus_built, question_many, question_one}
use Rattle.lalrpop_norm_explain.proofs.Lowered.{put_before, put_all, all_step, all_put, each_step, each_put, shapes_done, lowered_done}
use Rattle.lalrpop_norm_explain.proofs.Steps.{found_same, found_on}
use Rattle.lalrpop_norm_explain.proofs.TreeSizes.{falls_by, to_list, to_node, to_one}
use Rattle.lalrpop_norm_explain.proofs.ShapeSteps.{handed_on, no_memory, leaf_found, leaf_missed, no_leaf, of_nothing, of_list, of_node, node_faults, node_made, no_node, group_faults, group_made, times_faults, times_made, star_none, question_none, plus_none}
use Rattle.lalrpop_norm_explain.proofs.lowering.+shapes.Goals as goal

pub lower_child-returns-in-Err : goal.lower_child-returns-in-Err
lower_child-returns-in-Err t c = c.raised.ensures _ c.in-Err.ensures

pub lower_list-returns-in_err-filled-in-Some-Star :
    goal.lower_list-returns-in_err-filled-in-Some-Star
lower_list-returns-in_err-filled-in-Some-Star t c =
    let e = rw c.in-Some-Star.field-0-is at c.in-Some-Star.ensures in
    let same = star_faults (grammar_of c.args.traced.now) c.args.name.now.0 c.in-Some-Star.more.now.0 c.args.trees.now e (filled (length c.args.trees.now) c.if-is_empty.ensures) in
    handed_on _ _ _ _ _ c.from_residual-in_err-filled-in-Some-Star.ensures.1 same c.in_err-filled-in-Some-Star.ensures

pub lower_list-returns-in_ok-over-in-Some-Star : goal.lower_list-returns-in_ok-over-in-Some-Star
lower_list-returns-in_ok-over-in-Some-Star t c =
    let e = rw c.in-Some-Star.field-0-is at c.in-Some-Star.ensures in
    let h = filled (length c.args.trees.now) c.if-is_empty.ensures in
    let of = c.in_ok-filled-in-Some-Star.ensures in (
      star_faults (grammar_of c.args.traced.now) c.args.name.now.0 c.in-Some-Star.more.now.0 c.args.trees.now e h ∙ of.0,
      c.in_ok-over-in-Some-Star.ensures ∙ ap (λ u. lowered_node c.args.name.now.0 1 (lowered_and u no_lowered)) of.1
          ∙ sym (star_lowered (grammar_of c.args.traced.now) c.args.name.now.0 c.in-Some-Star.more.now.0 c.args.trees.now e h of.0),
    )

pub lower_list-returns-in-Some-Plus : goal.lower_list-returns-in-Some-Plus
lower_list-returns-in-Some-Plus t c =
    let e = rw c.in-Some-Plus.field-0-is at c.in-Some-Plus.ensures in
    let x = tree_symbol c.in-Some-Plus.field-0-0.now in
    rw (plus_same (grammar_of c.args.traced.now) c.args.name.now.0 x (written_views c.args.trees.now) e, plus_lowered_same (grammar_of c.args.traced.now) c.args.name.now.0 x (written_views c.args.trees.now) e)
    c.lower_plus-in-Some-Plus.ensures

pub lower_list-returns-in_ok-lowered-in-Some-Question :
    goal.lower_list-returns-in_ok-lowered-in-Some-Question
lower_list-returns-in_ok-lowered-in-Some-Question t c =
    let e = rw c.in-Some-Question.field-0-is at c.in-Some-Question.ensures in
    let one : length c.args.trees.now ≡ 1 = omega arith in
    let q = question_one (grammar_of c.args.traced.now) c.args.name.now.0 (tree_symbol c.in-Some-Question.symbol.now) c.args.trees.now e one in
    let of = c.in_ok-lowered-in-Some-Question.ensures in
    (q.0 ∙ of.0, c.node-in-Some-Question.ensures ∙ ap (λ us. lowered_node c.args.name.now.0 0 us) of.1 ∙ sym q.1)

pub lower_plus-returns-in_ok-left_leaning-in-Some-Plus :
    goal.lower_plus-returns-in_ok-left_leaning-in-Some-Plus
lower_plus-returns-in_ok-left_leaning-in-Some-Plus t c =
    let e = rw c.in-Some-Plus.field-0-is at c.in-Some-Plus.ensures in
    let p = plus_built (grammar_of c.args.traced.now) c.args.name.now.0 (tree_symbol c.in-Some-Plus.symbol.now) c.args.trees.now e (filled (length c.args.trees.now) c.if-is_empty.ensures) in
    let of = c.in_ok-lowered-in-Some-Plus.ensures in
    (p.0 ∙ of.0, c.in_ok-left_leaning-in-Some-Plus.ensures ∙ ap (λ us. left_leaning (λ _. c.args.name.now.0) lookahead us) of.1 ∙ sym p.1)

pub lower_list-returns-then-trees-ne1 : goal.lower_list-returns-then-trees-ne1
lower_list-returns-then-trees-ne1 t c =
    let e = rw c.in-Some-Question.field-0-is at c.in-Some-Question.ensures in
    let many : length c.args.trees.now ≢ 1 = omega arith in
    rw (question_many (grammar_of c.args.traced.now) c.args.name.now.0 (tree_symbol c.in-Some-Question.symbol.now) c.args.trees.now e (filled (length c.args.trees.now) c.if-is_empty-2.ensures) many)
    c.refused.ensures

pub lower_list-returns-in_err-lowered-in-Some-Question :
    goal.lower_list-returns-in_err-lowered-in-Some-Question
lower_list-returns-in_err-lowered-in-Some-Question t c =
    let e = rw c.in-Some-Question.field-0-is at c.in-Some-Question.ensures in
    let one : length c.args.trees.now ≡ 1 = omega arith in
    let q = question_one (grammar_of c.args.traced.now) c.args.name.now.0 (tree_symbol c.in-Some-Question.symbol.now) c.args.trees.now e one in
    handed_on _ _ _ _ _ c.from_residual-in_err-lowered-in-Some-Question.ensures.1 q.0 c.in_err-lowered-in-Some-Question.ensures

pub lower_fitting-returns-then-trees-symbols : goal.lower_fitting-returns-then-trees-symbols
lower_fitting-returns-then-trees-symbols t c =
    let odd : length c.args.trees.now ≢ length c.args.symbols.now = omega arith in
    rw (not_fit c.args.trees.now c.args.symbols.now odd) c.refused.ensures

pub lower_fitting-returns : goal.lower_fitting-returns
lower_fitting-returns t c =
    let even : length c.args.trees.now ≡ length c.args.symbols.now = omega arith in
    rw (fit c.args.trees.now c.args.symbols.now even) c.lower_all.ensures

pub lower_all-loop-place-preserved : goal.lower_all-loop-place-preserved
lower_all-loop-place-preserved t c =
    let P = grammar_of c.args.traced.now in
    let lt = c.loop-place-test.true in
    let ls = subst (λ n. c.loop-place.place < n) c.requires lt in
    let step = all_step P c.args.trees.now c.loop-place.place c.index-trees-place.result lt c.index-trees-place.is c.args.symbols.now c.index-symbols-place.result ls c.index-symbols-place.is in
    let put = all_put P c.args.trees.now c.loop-place.place c.index-trees-place.result lt c.index-trees-place.is c.args.symbols.now c.index-symbols-place.result ls c.index-symbols-place.is
    c.loop-place.lowered.items c.in_ok-child.child c.in_ok-child.ensures.1 in
    record {
      faults = sym (step ∙ ap (λ fs. fs ++ shapes_faults P most_steps (written_views (drop (c.loop-place.place + 1) c.args.trees.now)) (symbols_view (drop (c.loop-place.place + 1) c.args.symbols.now)) (c.loop-place.place + 1)) c.in_ok-child.ensures.0)
          ∙ c.loop-place.invariant.faults;
      made = ap (λ v. put_before (map lowered_view v) (each_lowered P most_steps (written_views (drop (c.loop-place.place + 1) c.args.trees.now)) (symbols_view (drop (c.loop-place.place + 1) c.args.symbols.now)))) c.in_ok-push.ensures.items
          ∙ put ∙ c.loop-place.invariant.made;
    }

pub lower_all-returns : goal.lower_all-returns
lower_all-returns t c =
    let P = grammar_of c.args.traced.now in
    let done : length c.args.trees.now ≤ c.loop-place.place = omega arith in
    let rest = symbols_view (drop c.loop-place.place c.args.symbols.now) in (
      sym c.loop-place.invariant.faults ∙ shapes_done P c.args.trees.now rest c.loop-place.place done,
      sym (put_all (map lowered_view c.loop-place.lowered.items))
          ∙ ap (put_before (map lowered_view c.loop-place.lowered.items)) (sym (lowered_done P c.args.trees.now rest c.loop-place.place done))
          ∙ c.loop-place.invariant.made,
    )

pub lower_each-loop-place-preserved : goal.lower_each-loop-place-preserved
lower_each-loop-place-preserved t c =
    let P = grammar_of c.args.traced.now in
    let lt = c.loop-place-test.true in
    let step = each_step P c.args.trees.now c.loop-place.place c.index-trees-place.result lt c.index-trees-place.is c.args.symbol.now in
    let put = each_put P c.args.trees.now c.loop-place.place c.index-trees-place.result lt c.index-trees-place.is c.args.symbol.now
    c.loop-place.lowered.items c.in_ok-child.child c.in_ok-child.ensures.1 in
    record {
      faults = sym (step ∙ ap (λ fs. fs ++ shapes_faults P most_steps (written_views (drop (c.loop-place.place + 1) c.args.trees.now)) (each (tree_symbol c.args.symbol.now) (written_views (drop (c.loop-place.place + 1) c.args.trees.now))) (c.loop-place.place + 1)) c.in_ok-child.ensures.0)
          ∙ c.loop-place.invariant.faults;
      made = ap (λ v. put_before (map lowered_view v) (each_lowered P most_steps (written_views (drop (c.loop-place.place + 1) c.args.trees.now)) (each (tree_symbol c.args.symbol.now) (written_views (drop (c.loop-place.place + 1) c.args.trees.now))))) c.in_ok-push.ensures.items
          ∙ put ∙ c.loop-place.invariant.made;
    }

pub lower_each-returns : goal.lower_each-returns
lower_each-returns t c =
    let P = grammar_of c.args.traced.now in
    let done : length c.args.trees.now ≤ c.loop-place.place = omega arith in
    let rest = each (tree_symbol c.args.symbol.now) (written_views (drop c.loop-place.place c.args.trees.now)) in (
      sym c.loop-place.invariant.faults ∙ shapes_done P c.args.trees.now rest c.loop-place.place done,
      sym (put_all (map lowered_view c.loop-place.lowered.items))
          ∙ ap (put_before (map lowered_view c.loop-place.lowered.items)) (sym (lowered_done P c.args.trees.now rest c.loop-place.place done))
          ∙ c.loop-place.invariant.made,
    )

pub lower_under-returns-in-Leaf : goal.lower_under-returns-in-Leaf
lower_under-returns-in-Leaf t c = no_leaf (grammar_of c.args.traced.now) c.args.name.now.0 c.args.tree.now _ _ c.in-Leaf.is c.refused.ensures

pub lower_under-returns-in-Nothing : goal.lower_under-returns-in-Nothing
lower_under-returns-in-Nothing t c = of_nothing (grammar_of c.args.traced.now) c.args.name.now.0 c.lower_nothing.result c.args.tree.now c.in-Nothing.is c.lower_nothing.ensures

pub lower_under-returns-in-List : goal.lower_under-returns-in-List
lower_under-returns-in-List t c = of_list (grammar_of c.args.traced.now) c.args.name.now.0 c.lower_list.result c.args.tree.now _ _ c.in-List.is c.deref.ensures.value c.lower_list.ensures

pub lower_under-returns-in-Node : goal.lower_under-returns-in-Node
lower_under-returns-in-Node t c = of_node (grammar_of c.args.traced.now) c.args.name.now.0 c.lower_node.result c.args.tree.now _ _ _ _ c.in-Node.is c.deref-in-Node.ensures.value c.lower_node.ensures

pub lower_node-returns-in_err-way_to : goal.lower_node-returns-in_err-way_to
lower_node-returns-in_err-way_to t c = no_memory _ _ _ c.from_residual.ensures.1

pub lower_node-returns-in-None : goal.lower_node-returns-in-None
lower_node-returns-in-None t c = found_same _ _ _ (no_node (grammar_of c.args.traced.now) c.args.name.now.0 c.args.rule.now.0 c.args.alternative (written_views c.args.children.now) (rw c.in-None.is at c.in_ok-way_to.ensures)) c.refused.ensures

pub lower_node-returns-in_err-lowered-in-Some : goal.lower_node-returns-in_err-lowered-in-Some
lower_node-returns-in_err-lowered-in-Some t c =
    let planned = rw c.in-Some.is at c.in_ok-way_to.ensures in
    handed_on _ _ _ _ _ c.from_residual-in_err-lowered-in-Some.ensures.1 (node_faults (grammar_of c.args.traced.now) (written_views c.args.children.now) (way_view c.in-Some.way) c.args.name.now.0 c.args.rule.now.0 c.args.alternative planned) c.in_err-lowered-in-Some.ensures

pub lower_node-returns-in_err-built-in-Some : goal.lower_node-returns-in_err-built-in-Some
lower_node-returns-in_err-built-in-Some t c = no_memory _ _ _ c.from_residual-in_err-built-in-Some.ensures.1

pub lower_node-returns-in_ok-built-in-Some : goal.lower_node-returns-in_ok-built-in-Some
lower_node-returns-in_ok-built-in-Some t c =
    let planned = rw c.in-Some.is at c.in_ok-way_to.ensures in
    let of = c.in_ok-lowered-in-Some.ensures in (
      node_faults (grammar_of c.args.traced.now) (written_views c.args.children.now) (way_view c.in-Some.way) c.args.name.now.0 c.args.rule.now.0 c.args.alternative planned ∙ of.0,
      c.in_ok-built-in-Some.ensures ∙ ap (planned_tree (way_view c.in-Some.way)) of.1 ∙ sym (node_made (grammar_of c.args.traced.now) (written_views c.args.children.now) (way_view c.in-Some.way) c.args.name.now.0 c.args.rule.now.0 c.args.alternative planned of.0),
    )

pub lower_list-returns-in_err-lowered-in-Some-Group : goal.lower_list-returns-in_err-lowered-in-Some-Group
lower_list-returns-in_err-lowered-in-Some-Group t c =
    let e = rw c.in-Some-Group.field-0-is at c.in-Some-Group.ensures in
    handed_on _ _ _ _ _ c.from_residual.ensures.1 (group_faults (grammar_of c.args.traced.now) c.args.name.now.0 (written_views c.args.trees.now) (symbols_view c.in-Some-Group.symbols.now) e) c.in_err-lowered-in-Some-Group.ensures

pub lower_list-returns-in_ok-lowered-in-Some-Group : goal.lower_list-returns-in_ok-lowered-in-Some-Group
lower_list-returns-in_ok-lowered-in-Some-Group t c =
    let e = rw c.in-Some-Group.field-0-is at c.in-Some-Group.ensures in
    let of = c.in_ok-lowered-in-Some-Group.ensures in (
      group_faults (grammar_of c.args.traced.now) c.args.name.now.0 (written_views c.args.trees.now) (symbols_view c.in-Some-Group.symbols.now) e ∙ of.0,
      c.node.ensures ∙ ap (lowered_node c.args.name.now.0 0) of.1 ∙ sym (group_made (grammar_of c.args.traced.now) c.args.name.now.0 (written_views c.args.trees.now) (symbols_view c.in-Some-Group.symbols.now) e of.0),
    )

pub lower_list-returns-in_err-lowered-in-Some-Times : goal.lower_list-returns-in_err-lowered-in-Some-Times
lower_list-returns-in_err-lowered-in-Some-Times t c =
    let e = rw c.in-Some-Times.field-0-is at c.in-Some-Times.ensures in
    handed_on _ _ _ _ _ c.from_residual-in_err-lowered-in-Some-Times.ensures.1 (times_faults (grammar_of c.args.traced.now) c.args.name.now.0 (written_views c.args.trees.now) (symbols_view c.in-Some-Times.symbols.now) e) c.in_err-lowered-in-Some-Times.ensures

pub lower_list-returns-in_ok-lowered-in-Some-Times : goal.lower_list-returns-in_ok-lowered-in-Some-Times
lower_list-returns-in_ok-lowered-in-Some-Times t c =
    let e = rw c.in-Some-Times.field-0-is at c.in-Some-Times.ensures in
    let of = c.in_ok-lowered-in-Some-Times.ensures in (
      times_faults (grammar_of c.args.traced.now) c.args.name.now.0 (written_views c.args.trees.now) (symbols_view c.in-Some-Times.symbols.now) e ∙ of.0,
      c.node-in-Some-Times.ensures ∙ ap (lowered_node c.args.name.now.0 0) of.1 ∙ sym (times_made (grammar_of c.args.traced.now) c.args.name.now.0 (written_views c.args.trees.now) (symbols_view c.in-Some-Times.symbols.now) e of.0),
    )

pub lower_list-returns-then-is_empty : goal.lower_list-returns-then-is_empty
lower_list-returns-then-is_empty t c =
    let none = star_none (grammar_of c.args.traced.now) c.args.name.now.0 c.in-Some-Star.more.now.0 c.args.trees.now (rw c.in-Some-Star.field-0-is at c.in-Some-Star.ensures) c.if-is_empty.ensures in
    (none.0, c.node-then-is_empty.ensures ∙ ap (λ us. lowered_node c.args.name.now.0 0 (lowered_views us)) c.new.ensures.items ∙ sym none.1)

pub lower_list-returns-then-is_empty-2 : goal.lower_list-returns-then-is_empty-2
lower_list-returns-then-is_empty-2 t c =
    let none = question_none (grammar_of c.args.traced.now) c.args.name.now.0 (tree_symbol c.in-Some-Question.symbol.now) c.args.trees.now (rw c.in-Some-Question.field-0-is at c.in-Some-Question.ensures) c.if-is_empty-2.ensures in
    (none.0, c.node-then-is_empty-2.ensures ∙ ap (λ us. lowered_node c.args.name.now.0 1 (lowered_views us)) c.new-then-is_empty-2.ensures.items ∙ sym none.1)

pub lower_plus-returns-then-is_empty : goal.lower_plus-returns-then-is_empty
lower_plus-returns-then-is_empty t c = found_same _ _ _ (plus_none (grammar_of c.args.traced.now) c.args.name.now.0 c.args.trees.now c.if-is_empty.ensures) c.refused.ensures

pub lower_plus-returns-in_err-lowered-in-Some-Plus : goal.lower_plus-returns-in_err-lowered-in-Some-Plus
lower_plus-returns-in_err-lowered-in-Some-Plus t c =
    let e = rw c.in-Some-Plus.field-0-is at c.in-Some-Plus.ensures in
    let p = plus_built (grammar_of c.args.traced.now) c.args.name.now.0 (tree_symbol c.in-Some-Plus.symbol.now) c.args.trees.now e (filled (length c.args.trees.now) c.if-is_empty.ensures) in
    handed_on _ _ _ _ _ c.from_residual.ensures.1 p.0 c.in_err-lowered-in-Some-Plus.ensures

pub lower_plus-returns-in_err-left_leaning-in-Some-Plus : goal.lower_plus-returns-in_err-left_leaning-in-Some-Plus
lower_plus-returns-in_err-left_leaning-in-Some-Plus t c = no_memory _ _ _ c.from_residual-in_err-left_leaning-in-Some-Plus.ensures.1

pub lower_at-lower_under-requires : goal.lower_at-lower_under-requires
lower_at-lower_under-requires t c = (falls_by t _ 0 0 c.decreases, tt)

pub lower_under-lower_list-requires : goal.lower_under-lower_list-requires
lower_under-lower_list-requires t c = (to_list t _ _ _ c.in-List.is c.deref.ensures.value c.decreases, tt)

pub lower_under-lower_node-requires : goal.lower_under-lower_node-requires
lower_under-lower_node-requires t c = (to_node t _ _ _ _ _ c.in-Node.is c.deref-in-Node.ensures.value c.decreases, tt)

pub lower_list-lower_fitting-requires : goal.lower_list-lower_fitting-requires
lower_list-lower_fitting-requires t c = (falls_by t _ 4 0 c.decreases, tt)

pub lower_list-lower_fitting-requires-in-Some-Times : goal.lower_list-lower_fitting-requires-in-Some-Times
lower_list-lower_fitting-requires-in-Some-Times t c = (falls_by t _ 4 0 c.decreases, tt)

pub lower_list-lower_plus-requires : goal.lower_list-lower_plus-requires
lower_list-lower_plus-requires t c = (falls_by t _ 4 0 c.decreases, tt)

pub lower_list-lower_plus-requires-in-Some-Plus : goal.lower_list-lower_plus-requires-in-Some-Plus
lower_list-lower_plus-requires-in-Some-Plus t c = (falls_by t _ 4 0 c.decreases, tt)

pub lower_list-lower_each-requires : goal.lower_list-lower_each-requires
lower_list-lower_each-requires t c = (falls_by t _ 3 1 c.decreases, tt)

pub lower_plus-lower_each-requires : goal.lower_plus-lower_each-requires
lower_plus-lower_each-requires t c = (falls_by t _ 3 0 c.decreases, tt)

pub lower_node-lower_fitting-requires : goal.lower_node-lower_fitting-requires
lower_node-lower_fitting-requires t c = (falls_by t _ 4 0 c.decreases, tt)

pub lower_fitting-lower_all-requires : goal.lower_fitting-lower_all-requires
lower_fitting-lower_all-requires t c = (falls_by t _ 3 0 c.decreases, omega arith)

pub lower_all-lower_child-requires : goal.lower_all-lower_child-requires
lower_all-lower_child-requires t c = (to_one t _ _ _ c.loop-place-test.true c.index-trees-place.is c.decreases, tt)

pub lower_each-lower_child-requires : goal.lower_each-lower_child-requires
lower_each-lower_child-requires t c = (to_one t _ _ _ c.loop-place-test.true c.index-trees-place.is c.decreases, tt)

pub lower_child-lower_at-requires : goal.lower_child-lower_at-requires
lower_child-lower_at-requires t c = (falls_by t _ 1 0 c.decreases, tt)

pub lower_all-loop-place-init : goal.lower_all-loop-place-init
lower_all-loop-place-init t c = record {
  faults = refl;
  made = ap (λ us. put_before (map lowered_view us) (each_lowered (grammar_of c.args.traced.now) most_steps (written_views c.args.trees.now) (symbols_view c.args.symbols.now))) c.new-lowered.ensures.items;
}

pub lower_all-loop-place-smaller : goal.lower_all-loop-place-smaller
lower_all-loop-place-smaller t c = falls _ _ c.loop-place-test.true

pub lower_each-loop-place-init : goal.lower_each-loop-place-init
lower_each-loop-place-init t c = record {
  faults = refl;
  made = ap (λ us. put_before (map lowered_view us) (each_lowered (grammar_of c.args.traced.now) most_steps (written_views c.args.trees.now) (each (tree_symbol c.args.symbol.now) (written_views c.args.trees.now)))) c.new-lowered.ensures.items;
}

pub lower_each-loop-place-smaller : goal.lower_each-loop-place-smaller
lower_each-loop-place-smaller t c = falls _ _ c.loop-place-test.true

pub lower_all-returns-in_err-child : goal.lower_all-returns-in_err-child
lower_all-returns-in_err-child t c =
    let ls = subst (λ n. c.loop-place.place < n) c.requires c.loop-place-test.true in
    let step = all_step (grammar_of c.args.traced.now) c.args.trees.now c.loop-place.place c.index-trees-place.result c.loop-place-test.true c.index-trees-place.is c.args.symbols.now c.index-symbols-place.result ls c.index-symbols-place.is in
    handed_on _ _ _ _ _ c.from_residual.ensures.1 (sym c.loop-place.invariant.faults ∙ step) (found_on _ _ _ c.in_err-child.ensures)

pub lower_all-returns-in_err-push : goal.lower_all-returns-in_err-push
lower_all-returns-in_err-push t c = no_memory _ _ _ c.from_residual-in_err-push.ensures.1

pub lower_at-returns-in-Nonterminal : goal.lower_at-returns-in-Nonterminal
lower_at-returns-in-Nonterminal t c = rw c.in-Nonterminal.is c.lower_under.ensures

pub lower_at-returns-in-Some : goal.lower_at-returns-in-Some
lower_at-returns-in-Some t c = rw c.in-Terminal.is (leaf_found (grammar_of c.args.traced.now) (terminal_of c.in-Terminal.wanted) (written_view c.args.tree.now) (lowered_view c.in-Some.leaf) c.in-Some.ensures)

pub lower_at-returns-in-None : goal.lower_at-returns-in-None
lower_at-returns-in-None t c = rw c.in-Terminal.is (leaf_missed (grammar_of c.args.traced.now) (terminal_of c.in-Terminal.wanted) (written_view c.args.tree.now) c.refused.result c.in-None.ensures c.refused.ensures)

pub lower_child-returns-in-Ok : goal.lower_child-returns-in-Ok
lower_child-returns-in-Ok t c = (ap (raised c.args.place) c.in-Ok.ensures.0, c.in-Ok.ensures.1)

pub lower_each-returns-in_err-child : goal.lower_each-returns-in_err-child
lower_each-returns-in_err-child t c =
    let step = each_step (grammar_of c.args.traced.now) c.args.trees.now c.loop-place.place c.index-trees-place.result c.loop-place-test.true c.index-trees-place.is c.args.symbol.now in
    handed_on _ _ _ _ _ c.from_residual.ensures.1 (sym c.loop-place.invariant.faults ∙ step) (found_on _ _ _ c.in_err-child.ensures)

pub lower_each-returns-in_err-push : goal.lower_each-returns-in_err-push
lower_each-returns-in_err-push t c = no_memory _ _ _ c.from_residual-in_err-push.ensures.1

pub lower_list-returns-in_err-over-in-Some-Star : goal.lower_list-returns-in_err-over-in-Some-Star
lower_list-returns-in_err-over-in-Some-Star t c = no_memory _ _ _ c.from_residual-in_err-over-in-Some-Star.ensures.1
