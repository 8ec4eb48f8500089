-- Symbols that are rewritten already: their kinds are what they are rewritten to.
use Rattle.std.proofs.Common.{◌≡◌, ℕ, zero, suc, List, [], ◌∷◌, map, Option, Some, None, option_map, option_and_then, slice_get, sym, ap, ◌∙◌, subst}
use Rattle.lalrpop_norm_tree.specs.declared.symbol.Symbol.{Symbol}
use Rattle.lalrpop_norm_tree.specs.Symbols.{Kind, Part, Parts, at, kind_view, symbol_view, parts_view}
use Rattle.lalrpop_norm_tree.specs.Types.{of_symbol}
use Rattle.lalrpop_norm_tree.proofs.SymbolViews.{seen_at}
use Rattle.lalrpop_norm_tree_parts.proofs.KnownTextLemmas.{map_twice}
use Rattle.lalrpop_norm_names.specs.Numbers.{number_in_table}
use Rattle.lalrpop_norm_model.specs.MadeRules.{kind_of, group_sources, type_of_kind}
use Rattle.lalrpop_norm_model.specs.Replaced.{replaced, replaced_kind, all_replaced}
use Rattle.lalrpop_norm_nodes.proofs.ReplacedSources.{sources_replaced}
use Rattle.lalrpop_norm_macro_expand_rules.specs.declared.substituted.Bindings.{Bindings}
use Rattle.lalrpop_norm_macro_expand_rules.specs.Bound.{bound_kind}

pub part_stays : (p : Part) → replaced p ≡ p → replaced_kind (kind_of p) ≡ kind_of p
part_stays (at s k) e = cc e

-- of a symbol, by its view
pub kind_stays : (s : Symbol) → replaced (symbol_view s) ≡ symbol_view s → replaced_kind (kind_view s.kind) ≡ kind_view s.kind
kind_stays s e = subst (λ (k : Kind). replaced_kind k ≡ k) (ap kind_of (seen_at s)) (part_stays (symbol_view s) e)

pub kind_shown : (s : Symbol) → replaced (symbol_view s) ≡ symbol_view s → replaced_kind (kind_of (symbol_view s)) ≡ kind_view s.kind
kind_shown s e = part_stays (symbol_view s) e ∙ ap kind_of (seen_at s)

-- of the sources of a group
pub types_stay : (ps : Parts) → all_replaced ps ≡ ps → map of_symbol (group_sources ps) ≡ map type_of_kind (group_sources ps)
types_stay ps e =
    ap (λ (qs : Parts). map of_symbol (group_sources qs)) (sym e)
    ∙ ap (map of_symbol) (sources_replaced ps)
    ∙ sym (map_twice of_symbol replaced_kind (group_sources ps))

-- of what a name is bound to
there_stays : (ss : List Symbol) (i : ℕ) (k : Kind) → all_replaced (parts_view ss) ≡ parts_view ss → option_map (λ (s : Symbol). kind_view s.kind) (slice_get ss i) ≡ Some k → replaced_kind k ≡ k
there_stays [] i k r e = absurd (cc e)
there_stays (s ∷ ss) zero k r e =
    let here : replaced (symbol_view s) ≡ symbol_view s = cc r in
    let same : kind_view s.kind ≡ k = cc e in
    subst (λ (j : Kind). replaced_kind j ≡ j) same (kind_stays s here)
there_stays (s ∷ ss) (suc i) k r e =
    let rest : all_replaced (parts_view ss) ≡ parts_view ss = cc r in
    there_stays ss i k rest e

pub bound_stays : (b : Bindings) (n : List ℕ) (k : Kind) → all_replaced (parts_view b.symbols.now) ≡ parts_view b.symbols.now → bound_kind b n ≡ Some k → replaced_kind k ≡ k
bound_stays b n k r e = by (number_in_table b.numbers.now n) e
  where
    by : (o : Option ℕ) → option_map (λ (s : Symbol). kind_view s.kind) (option_and_then (λ i. slice_get b.symbols.now i) o) ≡ Some k → replaced_kind k ≡ k
    by None f = absurd (cc f)
    by (Some i) f = there_stays b.symbols.now i k r f
