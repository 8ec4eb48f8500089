-- Lists that are not empty.
use Rattle.std.proofs.Common.{◌≡◌, ◌<◌, List, [], ◌∷◌, length, arith, refl}
use Rattle.lalrpop_norm_tree_names.specs.declared.names.Span.{Span}
use Rattle.lalrpop_norm_tree.specs.declared.symbol.Symbol.{Symbol}
use Rattle.lalrpop_norm_tree.specs.Symbols.{parts_view}
use Rattle.lalrpop_norm_prevalidate.specs.SymbolFaults.{call_faults}

pub no_call_faults : (s : Span) (ss : List Symbol) → 0 < length ss → call_faults s (parts_view ss) ≡ []
unfolding call_faults
no_call_faults s [] h = absurd (omega arith)
no_call_faults s (x ∷ xs) h = refl
