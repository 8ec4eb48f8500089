use Rattle.std.proofs.Common.{◌≡◌, drop, map}
use Rattle.lalrpop_norm_tree.specs.Items.{conversion_view}
use Rattle.lalrpop_norm_model.specs.Expanded.{terminals_converted}
use Rattle.lalrpop_norm_model.specs.Terminals.{terminal_cmp}
use Rattle.lalrpop_norm_token_check.specs.Converted.{twice_from}
use Rattle.lalrpop_norm_token_check.specs.Keys.{with_keys}
use Rattle.lalrpop_norm_token_check.proofs.token_check.conversions.add_conversions.Given as goal

abbrev pub invariant-loop-conversion : goal.invariant-loop-conversion
invariant-loop-conversion l = record {
  refuses : twice_from l.converted.keys (map conversion_view (drop l.conversion-index l.conversions)) ≡ twice_from l.initial.converted.keys (map conversion_view l.conversions);
  adds : with_keys terminal_cmp l.converted.keys (terminals_converted (map conversion_view (drop l.conversion-index l.conversions)))
      ≡ with_keys terminal_cmp l.initial.converted.keys (terminals_converted (map conversion_view l.conversions));
}
