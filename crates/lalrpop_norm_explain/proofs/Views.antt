-- One level of a tree's view.
use Rattle.std.proofs.Common.{◌≡◌, ℕ, Vec, Global, ap, sym, ◌∙◌}
use Rattle.lalrpop_norm_tree_names.specs.declared.names.NonterminalString.{NonterminalString}
use Rattle.lalrpop_norm_tree_names.specs.declared.names.TerminalString.{TerminalString}
use Rattle.lalrpop_norm_model.specs.Reading.{terminal_of}
use Rattle.lalrpop_norm_theory.specs.LoweredTrees as lowered
use Rattle.lalrpop_norm_theory.specs.LoweredTrees.{lowered_leaf, lowered_node}
use Rattle.lalrpop_norm_theory.specs.WrittenTrees as written
use Rattle.lalrpop_norm_theory.specs.WrittenTrees.{leaf, nothing, list, node}
use Rattle.lalrpop_norm_explain.specs.declared.trees.LoweredTree.{LoweredTree}
use Rattle.lalrpop_norm_explain.specs.declared.trees.LoweredTree.TheOpen.{LoweredTree-F}
use Rattle.lalrpop_norm_explain.specs.declared.trees.LoweredTree.TheFolds.{fold-roll-LoweredTree}
use Rattle.lalrpop_norm_explain.specs.declared.trees.LoweredTree.TheVariants as lowered_variant
use Rattle.lalrpop_norm_explain.specs.declared.trees.LoweredTree.TheViews as lowered_rolls
use Rattle.lalrpop_norm_explain.specs.declared.trees.WrittenTree.{WrittenTree}
use Rattle.lalrpop_norm_explain.specs.declared.trees.WrittenTree.TheOpen.{WrittenTree-F}
use Rattle.lalrpop_norm_explain.specs.declared.trees.WrittenTree.TheFolds.{fold-roll-WrittenTree}
use Rattle.lalrpop_norm_explain.specs.declared.trees.WrittenTree.TheVariants as written_variant
use Rattle.lalrpop_norm_explain.specs.declared.trees.WrittenTree.TheViews as written_rolls
use Rattle.lalrpop_norm_explain.specs.Trees.{lowered_step, lowered_view, lowered_views, written_step, written_view, written_views}

pub node_seen : (n : NonterminalString) (p : ℕ) (us : Vec LoweredTree Global) → lowered_view (lowered_rolls.Node n p us) ≡ lowered_node n.0 p (lowered_views us.items)
node_seen n p us = ap lowered_view (sym (lowered_rolls.rolls-Node n p us)) ∙ fold-roll-LoweredTree lowered.LoweredTree lowered_step (LoweredTree-F.Node n p us)

pub lowered_leaf_seen : (u : LoweredTree) (a : TerminalString) → u ≡ lowered_variant.Leaf a → lowered_view u ≡ lowered_leaf (terminal_of a)
lowered_leaf_seen u a is = ap lowered_view is ∙ ap lowered_view (sym (lowered_rolls.rolls-Leaf a)) ∙ fold-roll-LoweredTree lowered.LoweredTree lowered_step (LoweredTree-F.Leaf a)

pub list_seen : (ts : Vec WrittenTree Global) → written_view (written_rolls.List ts) ≡ list (written_views ts.items)
list_seen ts = ap written_view (sym (written_rolls.rolls-List ts)) ∙ fold-roll-WrittenTree written.WrittenTree written_step (WrittenTree-F.List ts)

pub nothing_seen : written_view written_variant.Nothing ≡ nothing
nothing_seen = ap written_view (sym written_rolls.rolls-Nothing) ∙ fold-roll-WrittenTree written.WrittenTree written_step WrittenTree-F.Nothing

pub leaf_seen : (t : WrittenTree) (a : TerminalString) → t ≡ written_variant.Leaf a → written_view t ≡ leaf (terminal_of a)
leaf_seen t a is = ap written_view is ∙ ap written_view (sym (written_rolls.rolls-Leaf a)) ∙ fold-roll-WrittenTree written.WrittenTree written_step (WrittenTree-F.Leaf a)

pub written_seen : (t : WrittenTree) (n : NonterminalString) (k : ℕ) (ts : Vec WrittenTree Global) → t ≡ written_rolls.Node n k ts → written_view t ≡ node n.0 k (written_views ts.items)
written_seen t n k ts is = ap written_view is ∙ ap written_view (sym (written_rolls.rolls-Node n k ts)) ∙ fold-roll-WrittenTree written.WrittenTree written_step (WrittenTree-F.Node n k ts)
