-- The type of the values of symbols: of any number but one it is a tuple.
use Rattle.std.proofs.Common.{◌≡◌, ℕ, Bor, List, [], ◌∷◌, length, map, refl}
use Rattle.std.specs.Prelude.{option_map}
use Rattle.lalrpop_norm_tree.specs.declared.symbol.Symbol.{Symbol}
use Rattle.lalrpop_norm_tree.specs.Symbols.{kind_view}
use Rattle.lalrpop_norm_tree_parts.specs.Reprs.{tuple}
use Rattle.lalrpop_norm_repr.specs.Tables.{TypeTable}
use Rattle.lalrpop_norm_tyinfer_steps.specs.Clauses.{kinds_in, sources_in}

pub many_sources : (tt : TypeTable) (ts : List (ℕ × Bor Symbol)) → (length ts ≡ 1 → ⊥) →
    option_map tuple (kinds_in tt (map (λ (s : ℕ × Bor Symbol). kind_view s.1.now.kind) ts)) ≡ sources_in tt (map (λ (s : ℕ × Bor Symbol). kind_view s.1.now.kind) ts)
many_sources tt [] apart = refl
many_sources tt (s ∷ []) apart = absurd (apart refl)
many_sources tt (s ∷ u ∷ ts) apart = refl
