use Rattle.std.proofs.Common.{◌≡◌, ◌++◌, drop, map}
use Rattle.std.specs.List.{flat_map}
use Rattle.lalrpop_norm_tree.specs.Items.{conversion_view}
use Rattle.lalrpop_norm_model.specs.TerminalTypes.{conversion_row}
use Rattle.lalrpop_norm_tyinfer_steps.specs.TokenTypes.{rows_seen}
use Rattle.lalrpop_norm_tyinfer.proofs.tyinfer.tokens.conversion_rows.Given as goal

abbrev pub invariant-loop-conversion : goal.invariant-loop-conversion
invariant-loop-conversion l = rows_seen l.rows.items ++ flat_map conversion_row (map conversion_view (drop l.conversion-index l.conversions)) ≡ flat_map conversion_row (map conversion_view l.conversions)
