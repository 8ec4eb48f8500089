use Rattle.std.proofs.Common.{◌≡◌, ◌++◌, drop, map}
use Rattle.std.specs.List.{flat_map}
use Rattle.lalrpop_norm_tree.specs.Symbols.{kind_view}
use Rattle.lalrpop_norm_model.specs.Expanded.{names_in_kind}
use Rattle.lalrpop_norm_names.specs.Numbers.{number_in_table}
use Rattle.lalrpop_norm_tyinfer_steps.proofs.needs.add_sources.Given as goal

abbrev pub invariant-loop-source : goal.invariant-loop-source
invariant-loop-source l =
    l.numbers.items ++ map (number_in_table l.names) (flat_map names_in_kind (map (λ t. kind_view t.1.now.kind) (drop l.source-index l.sources)))
    ≡ l.initial.numbers.items ++ map (number_in_table l.names) (flat_map names_in_kind (map (λ t. kind_view t.1.now.kind) l.sources))
