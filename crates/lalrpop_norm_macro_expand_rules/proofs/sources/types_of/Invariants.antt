use Rattle.std.proofs.Common.{◌≡◌, take, map}
use Rattle.lalrpop_norm_tree.specs.Symbols.{kind_view}
use Rattle.lalrpop_norm_tree.specs.Types.{of_symbol, type_view}
use Rattle.lalrpop_norm_macro_expand_rules.proofs.sources.types_of.Given as goal

abbrev pub invariant-loop-source : goal.invariant-loop-source
invariant-loop-source l = map type_view l.types.items ≡ map (λ t. of_symbol (kind_view t.1.now.kind)) (take l.source-index l.sources)
