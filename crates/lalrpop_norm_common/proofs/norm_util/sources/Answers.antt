use Rattle.std.proofs.Common.{◌≡◌, ℕ, Bor, map, subst}
use Rattle.std.specs.Prelude.{IfOk}
use Rattle.lalrpop_norm_tree.specs.declared.symbol.Symbol.{Symbol}
use Rattle.lalrpop_norm_tree.specs.Symbols.{parts_view, symbol_view}
use Rattle.lalrpop_norm_common.specs.ExprSymbols.{chosen_parts, all_parts, placed_sources}
use Rattle.lalrpop_norm_common.proofs.ExprLemmas.{first_if_any, second_if_any, kinds_of_placed, kinds_of_all}
use Rattle.lalrpop_norm_common.proofs.norm_util.sources.Goals as goal

pub returns-then-not-is_empty-clause-kinds : goal.returns-then-not-is_empty-clause-kinds
returns-then-not-is_empty-clause-kinds c =
    let ps = parts_view c.args.symbols.now in
    kinds_of_placed c.in_ok-chosen.chosen.items ps
    (first_if_any _ c.in_ok-chosen.chosen.items c.in_ok-chosen.chosen.len (chosen_parts 0 ps) (all_parts 0 ps) c.in_ok-chosen.chosen.ok.0 c.in_ok-chosen.ensures c.if-not-is_empty.ensures)

pub returns-clause-kinds : goal.returns-clause-kinds
returns-clause-kinds c =
    let ps = parts_view c.args.symbols.now in
    let placed : all_parts 0 ps ≡ placed_sources ps =
    second_if_any _ c.in_ok-chosen.chosen.items c.in_ok-chosen.chosen.len (chosen_parts 0 ps) (all_parts 0 ps) c.in_ok-chosen.chosen.ok.0 c.in_ok-chosen.ensures c.if-not-is_empty.ensures in
    kinds_of_all c.all_symbols.result (λ v. v.items) ps (subst (λ es. IfOk c.all_symbols.result (λ v. map (λ (t : ℕ × Bor Symbol). (t.0, symbol_view t.1.now)) v.items ≡ es)) placed c.all_symbols.ensures)
