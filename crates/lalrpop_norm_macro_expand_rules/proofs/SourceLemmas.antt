-- The code of a group.
use Rattle.std.proofs.Common.{◌≡◌, List, [], ◌∷◌, map, refl}
use Rattle.lalrpop_norm_tree.specs.Symbols.{Kind}
use Rattle.lalrpop_norm_model.specs.MadeRules.{type_of_kind, bare_or_tuple_code}
use Rattle.lalrpop_norm_macro_expand_rules.specs.Sources.{types_code}

-- the code of a group goes by the number of its sources, and so by the number of their types
pub code_same : (ks : List Kind) → types_code (map type_of_kind ks) ≡ bare_or_tuple_code ks
code_same [] = refl
code_same (k ∷ []) = refl
code_same (k ∷ l ∷ ks) = refl
