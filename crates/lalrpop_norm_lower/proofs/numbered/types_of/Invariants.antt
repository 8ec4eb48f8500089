use Rattle.std.proofs.Common.{map}
use Rattle.lalrpop_norm_tree.specs.Items.{item_view}
use Rattle.lalrpop_norm_lower.specs.Lowering.{rules_among}
use Rattle.lalrpop_norm_lower.proofs.PlacedRows.{IsWalkedTo}
use Rattle.lalrpop_norm_lower.proofs.numbered.types_of.Given as goal

abbrev pub invariant-loop-name : goal.invariant-loop-name
invariant-loop-name l = IsWalkedTo l.table (rules_among (map item_view l.items)) l.names l.name-iterator l.types.items
