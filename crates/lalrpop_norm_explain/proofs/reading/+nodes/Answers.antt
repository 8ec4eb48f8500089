use Rattle.std.proofs.Common.{[], ◌∷◌, ◌++◌, ◌+◌, ◌<◌, ap, sym, ◌∙◌, subst, refl, arith, length, ◌≤◌, map, drop}
use borrow.Author.Count.{falls}
use Rattle.std.proofs.lemmas.List.{take_all}
use Rattle.lalrpop_norm_theory.specs.Translations.{made_by, written_tree}
use Rattle.lalrpop_norm_explain.specs.declared.errors.ExplainFault.TheVariants.{Child as WrongChild}
use Rattle.lalrpop_norm_explain.specs.declared.trees.LoweredTree.{LoweredTree}
use Rattle.lalrpop_norm_origins.specs.Origins.{origin_view}
use Rattle.lalrpop_norm_explain.specs.TracedGrammars.{pair_view, grammar_of}
use Rattle.lalrpop_norm_explain.specs.Trees.{lowered_view, lowered_views, written_view, written_trees_of}
use Rattle.lalrpop_norm_explain.specs.TreeFaults.{children_faults}
use Rattle.lalrpop_norm_explain.specs.Derivations.{symbols_view}
use Rattle.lalrpop_norm_explain.proofs.Steps.{one_each, not_one_each, wrong_number, right_number, made_there, not_of_symbol, below_child, below_none, next_child, next_made, leaf_read, no_production, all_done, each_made, found_same, found_on}
use Rattle.lalrpop_norm_explain.proofs.Views.{node_seen}
use Rattle.lalrpop_norm_explain.proofs.ShapeSteps.{handed_on, no_memory}
use Rattle.lalrpop_norm_explain.proofs.TreeSizes.{falls_by, to_children, to_child}
use Rattle.lalrpop_norm_explain.proofs.reading.+nodes.Goals as goal

pub explain_child-returns-then-not-is_of : goal.explain_child-returns-then-not-is_of
explain_child-returns-then-not-is_of t c = not_of_symbol _ _ _ _ (sym c.if-not-is_of.ensures) (c.raised.ensures ((WrongChild, []) ∷ []) c.refused.ensures)

pub explain_child-returns-in-Err : goal.explain_child-returns-in-Err
explain_child-returns-in-Err t c = below_child _ _ _ _ (sym c.if-not-is_of.ensures) (c.raised-in-Err.ensures _ c.in-Err.ensures)

pub explain_children-returns : goal.explain_children-returns
explain_children-returns t c =
    let done : length c.args.children.now ≤ c.loop-place.place = omega arith in (
      sym c.loop-place.invariant.faults ∙ all_done (grammar_of c.args.traced.now) c.args.children.now _ c.loop-place.place done,
      ap written_trees_of (c.loop-place.invariant.made ∙ ap (λ us. map (λ (u : LoweredTree). written_tree (grammar_of c.args.traced.now) (lowered_view u)) us) (take_all c.loop-place.place c.args.children.now done))
          ∙ sym (each_made (grammar_of c.args.traced.now) c.args.children.now),
    )

pub explain_node-returns-then-len-symbols : goal.explain_node-returns-then-len-symbols
explain_node-returns-then-len-symbols t c =
    let node = ap lowered_view c.in-Node.is ∙ node_seen c.in-Node.nonterminal c.in-Node.production c.in-Node.children in
    let odd = not_one_each c.in-Node.children.items c.in-Some.symbols.now (λ h. c.if-len-symbols.true (c.len.ensures ∙ c.in-Node.children.ok.0 ∙ h)) in
    found_same _ _ _
    (wrong_number (grammar_of c.args.traced.now) _ c.in-Node.nonterminal.0 c.in-Node.production (lowered_views c.in-Node.children.items) (pair_view (c.in-Some.symbols, c.in-Some.origin)) node (sym c.in-Some.ensures) odd)
    c.refused-then-len-symbols.ensures

pub explain_node-returns-in_err-written-in-Some : goal.explain_node-returns-in_err-written-in-Some
explain_node-returns-in_err-written-in-Some t c =
    let node = ap lowered_view c.in-Node.is ∙ node_seen c.in-Node.nonterminal c.in-Node.production c.in-Node.children in
    let even = one_each c.in-Node.children.items c.in-Some.symbols.now (omega arith) in
    let same = right_number (grammar_of c.args.traced.now) _ c.in-Node.nonterminal.0 c.in-Node.production (lowered_views c.in-Node.children.items) (pair_view (c.in-Some.symbols, c.in-Some.origin)) node (sym c.in-Some.ensures) even in
    handed_on _ _ _ _ _ c.from_residual.ensures.1 same (rw c.deref.ensures.value at c.in_err-written-in-Some.ensures)

pub explain_node-returns-in_ok-made_by-in-Some : goal.explain_node-returns-in_ok-made_by-in-Some
explain_node-returns-in_ok-made_by-in-Some t c =
    let node = ap lowered_view c.in-Node.is ∙ node_seen c.in-Node.nonterminal c.in-Node.production c.in-Node.children in
    let even = one_each c.in-Node.children.items c.in-Some.symbols.now (omega arith) in
    let a = rw c.deref.ensures.value at c.in_ok-written-in-Some.ensures in (
      right_number (grammar_of c.args.traced.now) _ c.in-Node.nonterminal.0 c.in-Node.production (lowered_views c.in-Node.children.items) (pair_view (c.in-Some.symbols, c.in-Some.origin)) node (sym c.in-Some.ensures) even
          ∙ a.0,
      c.in_ok-made_by-in-Some.ensures ∙ ap (λ ts. made_by (origin_view c.in-Some.origin.now) ts) a.1
          ∙ sym (made_there (grammar_of c.args.traced.now) _ c.in-Node.nonterminal.0 c.in-Node.production (lowered_views c.in-Node.children.items) (pair_view (c.in-Some.symbols, c.in-Some.origin)) node (sym c.in-Some.ensures)),
    )

pub explain_node-returns-in-Leaf : goal.explain_node-returns-in-Leaf
explain_node-returns-in-Leaf t c = leaf_read (grammar_of c.args.traced.now) c.args.tree.now c.in-Leaf.text c.terminal_again.result c.in-Leaf.is c.terminal_again.ensures

pub explain_node-returns-in-None : goal.explain_node-returns-in-None
explain_node-returns-in-None t c =
    let node = ap lowered_view c.in-Node.is ∙ node_seen c.in-Node.nonterminal c.in-Node.production c.in-Node.children in
    found_same _ _ _ (no_production (grammar_of c.args.traced.now) _ c.in-Node.nonterminal.0 c.in-Node.production (lowered_views c.in-Node.children.items) node (sym c.in-None.ensures)) c.refused.ensures

pub explain_node-returns-in_err-made_by-in-Some : goal.explain_node-returns-in_err-made_by-in-Some
explain_node-returns-in_err-made_by-in-Some t c = no_memory _ _ _ c.from_residual-in_err-made_by-in-Some.ensures.1

pub explain_node-explain_children-requires : goal.explain_node-explain_children-requires
explain_node-explain_children-requires t c =
    let even = sym (c.len.ensures ∙ c.in-Node.children.ok.0) ∙ c.if-len-symbols.false in
    (to_children t _ _ _ _ _ c.in-Node.is c.deref.ensures.value c.decreases, ap length c.deref.ensures.value ∙ even)

pub explain_children-explain_child-requires : goal.explain_children-explain_child-requires
explain_children-explain_child-requires t c = (to_child t _ _ _ c.loop-place-test.true c.index-children-place.is c.decreases, tt)

pub explain_child-explain_node-requires : goal.explain_child-explain_node-requires
explain_child-explain_node-requires t c = (falls_by t _ 0 0 c.decreases, tt)

pub explain_child-returns-in-Ok : goal.explain_child-returns-in-Ok
explain_child-returns-in-Ok t c = (below_none _ _ _ (sym c.if-not-is_of.ensures) c.in-Ok.ensures.0, c.in-Ok.ensures.1)

pub explain_children-loop-place-init : goal.explain_children-loop-place-init
explain_children-loop-place-init t c = record {
  faults = refl;
  made = ap (map written_view) c.new-written.ensures.items;
}

pub explain_children-loop-place-preserved : goal.explain_children-loop-place-preserved
explain_children-loop-place-preserved t c =
    let P = grammar_of c.args.traced.now in
    let i = c.loop-place.place in
    let lt = c.loop-place-test.true in
    let ls : i < length c.args.symbols.now = omega arith in
    let step = next_child P c.args.children.now i c.index-children-place.result lt c.index-children-place.is c.args.symbols.now c.index-symbols-place.result ls c.index-symbols-place.is in
    record {
      faults = sym (step ∙ ap (λ fs. fs ++ children_faults P (lowered_views (drop (i + 1) c.args.children.now)) (symbols_view (drop (i + 1) c.args.symbols.now)) (i + 1)) c.in_ok-tree.ensures.0)
          ∙ c.loop-place.invariant.faults;
      made = ap (map written_view) c.in_ok-push.ensures.items
          ∙ next_made P c.args.children.now i c.index-children-place.result lt c.index-children-place.is c.loop-place.written.items c.in_ok-tree.tree c.in_ok-tree.ensures.1 c.loop-place.invariant.made;
    }

pub explain_children-loop-place-smaller : goal.explain_children-loop-place-smaller
explain_children-loop-place-smaller t c = falls _ _ c.loop-place-test.true

pub explain_children-returns-in_err-tree : goal.explain_children-returns-in_err-tree
explain_children-returns-in_err-tree t c =
    let ls = subst (λ n. c.loop-place.place < n) c.requires c.loop-place-test.true in
    let step = next_child (grammar_of c.args.traced.now) c.args.children.now c.loop-place.place c.index-children-place.result c.loop-place-test.true c.index-children-place.is c.args.symbols.now c.index-symbols-place.result ls c.index-symbols-place.is in
    handed_on _ _ _ _ _ c.from_residual.ensures.1 (sym c.loop-place.invariant.faults ∙ step) (found_on _ _ _ c.in_err-tree.ensures)

pub explain_children-returns-in_err-push : goal.explain_children-returns-in_err-push
explain_children-returns-in_err-push t c = no_memory _ _ _ c.from_residual-in_err-push.ensures.1
