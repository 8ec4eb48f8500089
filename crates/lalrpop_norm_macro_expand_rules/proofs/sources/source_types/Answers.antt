use Rattle.std.proofs.Common.{Bor, ℕ, map, ap, ◌∙◌}
use Rattle.lalrpop_norm_tree.specs.declared.symbol.Symbol.{Symbol}
use Rattle.lalrpop_norm_tree.specs.Symbols.{kind_view, parts_view}
use Rattle.lalrpop_norm_tree.specs.Types.{of_symbol}
use Rattle.lalrpop_norm_tree_parts.proofs.KnownTextLemmas.{map_twice}
use Rattle.lalrpop_norm_macro_expand_rules.proofs.StayLemmas.{types_stay}
use Rattle.lalrpop_norm_macro_expand_rules.proofs.sources.source_types.Goals as goal

pub returns : goal.returns
returns c =
    c.in_ok-types.ensures
    ∙ ap (map (λ (t : ℕ × Bor Symbol). of_symbol (kind_view t.1.now.kind))) c.deref.ensures.value
    ∙ map_twice of_symbol (λ (t : ℕ × Bor Symbol). kind_view t.1.now.kind) c.in_ok-sources.sources.items
    ∙ ap (map of_symbol) c.in_ok-sources.ensures.kinds
    ∙ types_stay (parts_view c.args.symbols.now) c.requires
