use Rattle.std.proofs.Common.{◌≡◌, map, drop, is_some}
use Rattle.lalrpop_norm_tree.specs.Items.{item_view}
use Rattle.lalrpop_norm_json.specs.ItemForms.{item_forms}
use Rattle.lalrpop_norm_json.proofs.tree.grammars.have_forms.Given as goal

abbrev pub invariant-loop-item : goal.invariant-loop-item
invariant-loop-item l = is_some (item_forms (map item_view l.items)) ≡ is_some (item_forms (map item_view (drop l.item-index l.items)))
