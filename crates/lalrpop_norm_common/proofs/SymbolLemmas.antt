-- Which symbols give values, seen by their kinds.
use Rattle.std.proofs.Common.{◌≡◌, ℕ, suc, false, [], ap, sym, refl}
use Rattle.std.specs.Prelude.{is_some}
use Rattle.lalrpop_norm_tree.specs.declared.symbol.Symbol.{Symbol}
use Rattle.lalrpop_norm_tree.specs.Symbols.{Kind, Parts, no_parts, part_and, kind_view, symbol_view, chosen, named, tupled, at}
use Rattle.lalrpop_norm_tree.specs.Accessors.{binding_of, selected_of}
use Rattle.lalrpop_norm_tree.proofs.SymbolViews.{seen_at}
use Rattle.lalrpop_norm_model.specs.MadeRules.{is_naming, names_value, some_name_value}
use Rattle.lalrpop_norm_model.specs.Sources.{named_sources}
use Rattle.lalrpop_norm_common.specs.Values.{is_chosen_kind}

pub value_is : (x : Symbol) → is_naming (kind_view x.kind) ≡ names_value (symbol_view x)
value_is x = ap names_value (sym (seen_at x))

-- without names no source is named
pub no_named : (k : ℕ) (ps : Parts) → some_name_value ps ≡ false → named_sources k ps ≡ []
no_named k no_parts h = refl
no_named k (part_and (at s (named n p)) ps) h = cc
no_named k (part_and (at s (tupled ns p)) ps) h = cc
no_named k (part_and (at s x) ps) h = no_named (suc k) ps h

-- a kind is selected where there is a symbol inside of it
pub selected_known : (k : Kind) → is_some (selected_of k) ≡ is_chosen_kind k
selected_known (chosen p) = refl
selected_known _ = refl

-- a kind names its value where there is a binding
pub naming_known : (k : Kind) → is_some (binding_of k) ≡ is_naming k
naming_known (named n p) = refl
naming_known (tupled ns p) = refl
naming_known _ = refl
