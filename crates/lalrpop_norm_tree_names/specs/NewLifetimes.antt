-- A lifetime where there is none: its name, and the list of type parameters with it.
use Rattle.std.specs.Prelude.{◌≡◌, ℕ, List, [], ◌∷◌, ◌++◌, length, Option, Some, None, codes, decimal}
use Rattle.lalrpop_norm_tree_names.specs.declared.names.Lifetime.{Lifetime}
use Rattle.lalrpop_norm_tree_names.specs.declared.names.TypeParameter.{TypeParameter}
use Rattle.lalrpop_norm_tree_names.specs.declared.names.TypeParameter.TheVariants as parameter

-- a list that begins with another
abbrev pub BeginsWith : {A : Type 0} → List A → List A → Type 0
BeginsWith {A} xs ys = (more : List A) × (xs ≡ ys ++ more)

-- `'`, the prefix and a number
abbrev pub numbered_lifetime : List ℕ → ℕ → Lifetime
numbered_lifetime prefix n = record { 0 = codes "'" ++ prefix ++ decimal n }

-- the lifetime that a reference gets, and the parameters then
abbrev pub IsLifetimeOf : List ℕ → Option Lifetime → List TypeParameter → Lifetime → List TypeParameter → Type 0
IsLifetimeOf prefix None ps l qs = (l ≡ numbered_lifetime prefix (length ps)) × (qs ≡ ps ++ parameter.Lifetime l ∷ [])
IsLifetimeOf prefix (Some k) ps l qs = (l ≡ k) × (qs ≡ ps)
