use Rattle.std.proofs.Common.{◌≡◌, Bor, ℕ, List, Some, option_map, refl, sym, ap, ◌∙◌}
use Rattle.lalrpop_norm_tree.specs.declared.symbol.SymbolKind.{SymbolKind}
use Rattle.lalrpop_norm_tree.specs.Symbols.{Kind, kind_view}
use Rattle.lalrpop_norm_tree.specs.Types.{of_symbol}
use Rattle.lalrpop_norm_tree.proofs.TypeViews.{symbol_is}
use Rattle.lalrpop_norm_model.specs.MadeRules.{type_of_name}
use Rattle.lalrpop_norm_model.specs.Replaced.{replaced_kind}
use Rattle.lalrpop_norm_macro_expand_rules.specs.Bound.{bound_kind}
use Rattle.lalrpop_norm_macro_expand_rules.proofs.StayLemmas.{bound_stays}
use Rattle.lalrpop_norm_macro_expand_rules.proofs.substituted.type_of_name.Goals as goal

pub returns-in_ok-clone-in-Some : goal.returns-in_ok-clone-in-Some
returns-in_ok-clone-in-Some c =
    let b = c.args.bindings.now in
    let n : List ℕ = c.in_ok-clone.field-0 in
    let k : Kind = kind_view c.in-Some.kind.now in
    let bound : bound_kind b n ≡ Some k = sym c.kind_bound.ensures ∙ ap (option_map (λ (s : Bor SymbolKind). kind_view s.now)) c.in-Some.is in
    let stays : replaced_kind k ≡ k = bound_stays b n k c.requires.replaced bound in
    symbol_is _ c.in_ok-clone-in-Some.field-0 refl
    ∙ ap of_symbol (c.in_ok-clone-in-Some.ensures.cases ∙ sym stays)
    ∙ ap (type_of_name n) (sym bound)
    ∙ ap (λ (m : List ℕ). type_of_name m (bound_kind b m)) c.in_ok-clone.ensures.cases
