-- Names, and their number.
use Rattle.std.proofs.Common.{◌≡◌, ◌<◌, ℕ, zero, suc, Option, List, [], ◌∷◌, map, length, refl, ap, arith}
use Rattle.lalrpop_norm_tree.specs.declared.symbol.Symbol.{Symbol}
use Rattle.lalrpop_norm_tree.specs.Symbols.{part_and, parts_of, symbol_view, parts_view}
use Rattle.lalrpop_norm_model.specs.Scopes.{Sense, rule_definition, resolved_part, resolved_parts}
use Rattle.lalrpop_norm_resolve.specs.declared.resolve.Def.TheVariants.{Macro}
use Rattle.lalrpop_norm_resolve.specs.NameFaults.{parts_count}
use Rattle.lalrpop_norm_resolve.specs.NameTables.{def_of}

pub count_length : (ss : List Symbol) → parts_count (parts_view ss) ≡ length ss
count_length [] = refl
count_length (s ∷ ss) = ap suc (count_length ss)

-- a rule with an argument is a macro
pub macro_def : (n : ℕ) → 0 < n → def_of (rule_definition n) ≡ Macro n
macro_def zero h = absurd (omega arith)
macro_def (suc n) h = refl

pub resolved_one_by_one : (sense : List ℕ → Option Sense) (ss : List Symbol) →
    parts_of (map (λ s. resolved_part sense (symbol_view s)) ss) ≡ resolved_parts sense (parts_view ss)
resolved_one_by_one sense [] = refl
resolved_one_by_one sense (s ∷ ss) = ap (λ ps. part_and (resolved_part sense (symbol_view s)) ps) (resolved_one_by_one sense ss)
