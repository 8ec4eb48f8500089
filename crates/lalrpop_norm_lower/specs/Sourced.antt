-- Which symbols are sources, as it is computed once for an alternative.
use Rattle.std.specs.Prelude.{◌≡◌, ◌&&◌, not}
use Rattle.lalrpop_norm_tree.specs.Symbols.{Parts}
use Rattle.lalrpop_norm_model.specs.MadeRules.{some_name_value}
use Rattle.lalrpop_norm_common.specs.Values.{has_chosen}
use Rattle.lalrpop_norm_lower.specs.declared.arguments.Sources.{Sources}

-- computed for these symbols
pub record AreSourcesOf (ps : Parts) (sources : Sources) : Type 0 where
  pub named : sources.some_named ≡ some_name_value ps
  pub chosen : sources.some_chosen ≡ (not (some_name_value ps) && has_chosen ps)
