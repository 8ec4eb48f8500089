-- The view of a call that a reader has just built.
use Rattle.std.proofs.Common.{◌≡◌, Vec, Global, ap, refl, ◌∙◌}
use Rattle.lalrpop_norm_tree_names.specs.declared.names.NonterminalString.{NonterminalString}
use Rattle.lalrpop_norm_tree.specs.declared.symbol.MacroSymbol.{MacroSymbol}
use Rattle.lalrpop_norm_tree.specs.declared.symbol.Symbol.{Symbol}
use Rattle.lalrpop_norm_tree.specs.declared.symbol.SymbolKind.TheFolds.{fold-roll-MacroSymbol}
use Rattle.lalrpop_norm_tree.specs.declared.symbol.SymbolKind.TheVariants as kind
use Rattle.lalrpop_norm_tree.specs.declared.symbol.SymbolKind.TheViews.{roll-MacroSymbol}
use Rattle.lalrpop_norm_tree.specs.Symbols.{Kind, call, Part, Parts, Call, Again, kind_step, expr_step, macro_step, repeat_step, symbol_step, kind_view, macro_view, parts_view}
use Rattle.lalrpop_norm_tree.proofs.KindLevels.{call_is}

macro_seen : (n : NonterminalString) (ss : Vec Symbol Global) → macro_view (roll-MacroSymbol (record { name = n; args = ss })) ≡ (n.0, parts_view ss.items)
macro_seen n ss = fold-roll-MacroSymbol Kind Parts Call Again Part kind_step expr_step macro_step repeat_step symbol_step (record { name = n; args = ss })

pub call_seen : (n : NonterminalString) (ss : Vec Symbol Global) → kind_view (kind.Macro (roll-MacroSymbol (record { name = n; args = ss }))) ≡ call n.0 (parts_view ss.items)
call_seen n ss =
    let m : MacroSymbol = roll-MacroSymbol (record { name = n; args = ss }) in
    call_is (kind.Macro m) m refl ∙ ap (λ (c : Call). call c.0 c.1) (macro_seen n ss)
