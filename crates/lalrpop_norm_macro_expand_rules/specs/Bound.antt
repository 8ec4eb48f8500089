-- The environment of a macro call by the indices of the argument names: internal definitions, which no public contract clause of
-- a pass mentions.
use Rattle.std.specs.Prelude.{ℕ, List, map, Option, option_map, option_and_then, slice_get}
use Rattle.lalrpop_norm_tree.specs.declared.symbol.Symbol.{Symbol}
use Rattle.lalrpop_norm_tree.specs.Symbols.{Kind, kind_view, parts_view}
use Rattle.lalrpop_norm_model.specs.MadeRules.{argument_kind}
use Rattle.lalrpop_norm_names.specs.Numbers.{number_in_table, IsNumbering}
use Rattle.lalrpop_norm_macro_expand_rules.specs.declared.substituted.Bindings.{Bindings}

-- the symbol at the index of a name
abbrev pub bound_in : Bindings → List ℕ → Option Symbol
bound_in b n = option_and_then (λ i. slice_get b.symbols.now i) (number_in_table b.numbers.now n)

abbrev pub bound_kind : Bindings → List ℕ → Option Kind
bound_kind b n = option_map (λ s. kind_view s.kind) (bound_in b n)

-- what a name is bound to, of several of a name the first
abbrev pub argument_in : Bindings → List ℕ → Option Kind
argument_in b = argument_kind b.names.now (parts_view b.symbols.now)

-- the indices are those of the names
abbrev pub AreByNumber : Bindings → Type 0
AreByNumber b = IsNumbering (map (λ a. a.0) b.names.now) b.numbers.now
