use Rattle.std.proofs.Common.{◌≡◌, ◌++◌, map, drop}
use Rattle.lalrpop_norm_tree.specs.Symbols.{argument_pattern_view, symbol_view, parts_view}
use Rattle.lalrpop_norm_common.specs.ExprSymbols.{named_parts}
use Rattle.lalrpop_norm_common.proofs.norm_util.named_symbols.Given as goal

abbrev pub invariant-loop-place : goal.invariant-loop-place
invariant-loop-place l = map (λ t. (t.0, argument_pattern_view t.1, symbol_view t.2.now)) l.found.items ++ named_parts l.place (parts_view (drop l.place l.symbols)) ≡ named_parts 0 (parts_view l.symbols)
