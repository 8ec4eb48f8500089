-- Rules that have a type in a table, as a test of the items of a grammar.
use Rattle.std.specs.Prelude.{Bool, true, is_some}
use Rattle.lalrpop_norm_tree.specs.Items.{ItemData, rule_item}
use Rattle.lalrpop_norm_repr.specs.Tables.{TypeTable, type_of}

abbrev pub is_item_typed : TypeTable → ItemData → Bool
is_item_typed types (rule_item r) = is_some (type_of r.name types)
is_item_typed types _ = true
