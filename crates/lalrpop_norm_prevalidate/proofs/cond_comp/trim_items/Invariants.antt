use Rattle.std.proofs.Common.{◌≡◌, ◌≤◌, ℕ, take, map, slice_index_or}
use Rattle.lalrpop_norm_tree.specs.declared.items.GrammarItem.{GrammarItem}
use Rattle.lalrpop_norm_tree.specs.Items.{item_view}
use Rattle.lalrpop_norm_common.specs.Sessions.{features_view}
use Rattle.lalrpop_norm_prevalidate.specs.EnabledItems.{trimmed}
use Rattle.lalrpop_norm_prevalidate.proofs.cond_comp.trim_items.Given as goal

abbrev pub invariant-loop-item : goal.invariant-loop-item
invariant-loop-item g l = record {
  rest : (k : ℕ) (d : GrammarItem) → l.item-index ≤ k → slice_index_or l.items k d ≡ slice_index_or l.initial.items k d;
  done : map item_view (take l.item-index l.items) ≡ map (trimmed (features_view l.session.features)) (map item_view (take l.item-index l.initial.items));
}
