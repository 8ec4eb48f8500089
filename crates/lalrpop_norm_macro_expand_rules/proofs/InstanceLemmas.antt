-- Arguments put into lists of symbols and of types, one by one.
use Rattle.std.proofs.Common.{◌≡◌, ℕ, List, [], ◌∷◌, Option, map, refl, ap}
use Rattle.lalrpop_norm_tree.specs.declared.symbol.Symbol.{Symbol}
use Rattle.lalrpop_norm_tree.specs.declared.types.TypeRef.{TypeRef}
use Rattle.lalrpop_norm_tree.specs.Symbols.{Kind, part_and, symbol_view, parts_of, parts_view}
use Rattle.lalrpop_norm_tree.specs.Types.{type_and, type_view, types_of, types_view}
use Rattle.lalrpop_norm_model.specs.MadeRules.{substituted, all_substituted, type_substituted, types_substituted}

module _ (argument : List ℕ → Option Kind) where
  pub all_substituted_are : (ss : List Symbol) → all_substituted argument (parts_view ss) ≡ parts_of (map (λ s. substituted argument (symbol_view s)) ss)
  all_substituted_are [] = refl
  all_substituted_are (s ∷ ss) = ap (λ ps. part_and (substituted argument (symbol_view s)) ps) (all_substituted_are ss)

  pub types_substituted_are : (ts : List TypeRef) → types_substituted argument (types_view ts) ≡ types_of (map (λ t. type_substituted argument (type_view t)) ts)
  types_substituted_are [] = refl
  types_substituted_are (t ∷ ts) = ap (λ us. type_and (type_substituted argument (type_view t)) us) (types_substituted_are ts)
