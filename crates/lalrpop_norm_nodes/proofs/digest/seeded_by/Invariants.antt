use Rattle.std.proofs.Common.{◌≡◌, map, drop}
use Rattle.std.specs.List.{flat_map}
use Rattle.lalrpop_norm_names.specs.Seeds.{hasher_after}
use Rattle.lalrpop_norm_tree.specs.Items.{item_view}
use Rattle.lalrpop_norm_nodes.specs.Digests.{item_writes, reader_of_items}
use Rattle.lalrpop_norm_nodes.proofs.digest.seeded_by.Given as goal

-- with the items that are left, what is read of all
abbrev pub invariant-loop-item : goal.invariant-loop-item
invariant-loop-item l =
    hasher_after l.reader (flat_map item_writes (map item_view (drop l.item-index l.items))) ≡ reader_of_items (map item_view l.items)
