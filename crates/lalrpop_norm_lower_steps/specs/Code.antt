-- The action code.
use Rattle.std.specs.Prelude.{ℕ, Bool, true, false, List, [], ◌∷◌, Option, Some, None, codes}
use Rattle.lalrpop_norm_tree.specs.Items.{Action, user_code, fallible_code, lookahead_code, lookbehind_code}
use Rattle.lalrpop_norm_tree_parts.specs.Reprs.{ReprData, tuple, no_reprs}

-- `<>` for one source, else `(<>)`
abbrev pub sources_code : List (List ℕ) → List ℕ
sources_code [] = codes "(<>)"
sources_code (n ∷ []) = codes "<>"
sources_code (n ∷ m ∷ names) = codes "(<>)"

-- absent action code: `()` for the unit type
abbrev pub absent_code : ReprData → List (List ℕ) → List ℕ
absent_code (tuple no_reprs) names = codes "()"
absent_code type names = sources_code names

abbrev pub written_code : ReprData → List (List ℕ) → Option Action → List ℕ
written_code type names None = absent_code type names
written_code type names (Some (user_code text)) = text
written_code type names (Some (fallible_code text)) = text
written_code type names (Some lookahead_code) = absent_code type names
written_code type names (Some lookbehind_code) = absent_code type names

abbrev pub is_fallible : Option Action → Bool
is_fallible (Some (fallible_code c)) = true
is_fallible _ = false
