use Rattle.std.proofs.Common.{List, refl, sym, ap, ◌∙◌}
use Rattle.lalrpop_norm_tree_parts.specs.Paths.{path_view}
use Rattle.lalrpop_norm_tree.specs.declared.symbol.SymbolKind.{SymbolKind}
use Rattle.lalrpop_norm_tree.specs.declared.types.TypeRef.{TypeRef}
use Rattle.lalrpop_norm_tree.specs.declared.types.TypeRef.TheVariants.{OfSymbol}
use Rattle.lalrpop_norm_tree.specs.Types.{TypeData, nominal, type_and, no_types, of_symbol, types_view}
use Rattle.lalrpop_norm_tree.proofs.TypeViews.{nominal_is, symbol_is}
use Rattle.lalrpop_norm_macro_expand_rules.proofs.StayLemmas.{kind_shown}
use Rattle.lalrpop_norm_macro_expand_repeats.proofs.repeats.holding.Goals as goal

pub returns : goal.returns
returns c =
    let path = path_view c.args.path in
    let kind : SymbolKind = c.in_ok-kind.kind in
    nominal_is _ c.args.path c.in_ok-types.types refl
    ∙ ap (λ (ts : List TypeRef). nominal path (types_view ts)) c.in_ok-types.ensures.items
    ∙ ap (λ (t : TypeData). nominal path (type_and t no_types))
    (symbol_is (OfSymbol kind) kind refl ∙ ap of_symbol (c.in_ok-kind.ensures.cases ∙ sym (kind_shown c.args.symbol.now c.requires)))
