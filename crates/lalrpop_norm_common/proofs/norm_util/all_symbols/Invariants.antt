use Rattle.std.proofs.Common.{◌≡◌, ◌++◌, map, drop}
use Rattle.lalrpop_norm_tree.specs.Symbols.{symbol_view, parts_view}
use Rattle.lalrpop_norm_common.specs.ExprSymbols.{all_parts}
use Rattle.lalrpop_norm_common.proofs.norm_util.all_symbols.Given as goal

abbrev pub invariant-loop-place : goal.invariant-loop-place
invariant-loop-place l = map (λ t. (t.0, symbol_view t.1.now)) l.found.items ++ all_parts l.place (parts_view (drop l.place l.symbols)) ≡ all_parts 0 (parts_view l.symbols)
