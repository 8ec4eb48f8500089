use Rattle.std.proofs.Common.{◌≡◌, ◌∷◌, refl, sym, ap, ap₂, ◌∙◌}
use Rattle.std.specs.Prelude.{option_map}
use Rattle.std.proofs.lemmas.Result.{IfOk-from_err}
use Rattle.lalrpop_norm_theory.specs.Symbols.{lookahead}
use Rattle.lalrpop_norm_theory.specs.Translations.{left_leaning, extended}
use Rattle.lalrpop_norm_tree_names.specs.declared.names.TerminalString.TheVariants.{Error}
use Rattle.lalrpop_norm_explain.specs.Trees.{lowered_view, lowered_views}
use Rattle.lalrpop_norm_explain.proofs.Lowered.{leaned, leaned_more, empty_list}
use Rattle.lalrpop_norm_explain.proofs.Views.{lowered_leaf_seen}
use Rattle.lalrpop_norm_explain.proofs.lowering.left_leaning.Goals as goal

pub loop-tree-preserved : goal.loop-tree-preserved
loop-tree-preserved c =
    let n = c.args.name.now.0 in
    let rest = c.next.new.self.rest.items in
    let before : leaned n (option_map lowered_view c.loop-tree.whole) (lowered_views (c.in-Some.tree ∷ rest)) ≡ left_leaning (λ _. n) lookahead (lowered_views c.args.trees.items) =
    rw c.in-Some.ensures.steps.0 at c.loop-tree.invariant in
    ap (λ u. extended (λ _. n) lookahead u (lowered_views rest)) c.in_ok-one_more.ensures ∙ leaned_more n (option_map lowered_view c.loop-tree.whole) (lowered_view c.in-Some.tree) (lowered_views rest) ∙ before

pub loop-tree-init : goal.loop-tree-init
loop-tree-init c = ap (λ us. left_leaning (λ _. c.args.name.now.0) lookahead (lowered_views us)) c.into_iter-tree-iterator.ensures.into_iter_gives.0

pub returns-in_err-one_more : goal.returns-in_err-one_more
returns-in_err-one_more c = IfOk-from_err _ _ c.from_residual.ensures.0

pub returns-in-Some-whole : goal.returns-in-Some-whole
returns-in-Some-whole c =
    let rest = c.loop-tree.tree-iterator.rest in
    sym (ap₂ (λ o us. leaned c.args.name.now.0 (option_map lowered_view o) (lowered_views us)) c.in-Some-whole.is (empty_list rest.items (sym rest.ok.0 ∙ c.in-None.ensures.steps.0)))
    ∙ c.loop-tree.invariant

pub returns-in-None-whole : goal.returns-in-None-whole
returns-in-None-whole c =
    let rest = c.loop-tree.tree-iterator.rest in
    lowered_leaf_seen _ Error refl
    ∙ sym (ap₂ (λ o us. leaned c.args.name.now.0 (option_map lowered_view o) (lowered_views us)) c.in-None-whole.is (empty_list rest.items (sym rest.ok.0 ∙ c.in-None.ensures.steps.0)))
    ∙ c.loop-tree.invariant
