-- A code with its `<>` replaced, all at once.
use Rattle.std.specs.Prelude.{◌≡◌, ℕ, Bool, ◌||◌, List, ◌∷◌, ◌++◌}
use Rattle.std.specs.Prelude.{length, zip, flat_map, replicate, nat_le, All, None}
use Rattle.std.specs.Prelude.{if◌then◌else◌, codes}
use Rattle.lalrpop_norm_common.specs.Braces.{around_slot}
use Rattle.lalrpop_norm_tree_names.specs.Texts.{joined}

-- the code is these pieces with `<>` between each two, and no piece holds a `<>`
pub record ArePieces (code first : List ℕ) (others : List (List ℕ)) : Type 0 where
  pub whole : joined (codes "<>") (first ∷ others) ≡ code
  pub slotless : All (λ p. around_slot p ≡ None) (first ∷ others)

-- what replaces n `<>`: in each all names, joined by `, `, where symbols are named or there is at most one
-- `<>`; else one name in each
abbrev pub in_slots : Bool → List (List ℕ) → ℕ → List (List ℕ)
in_slots is_named ns n = if is_named || nat_le n 1 then replicate n (joined (codes ", ") ns) else ns

-- The action code with its `<>` replaced, all at once
pub record IsFilled (is_named : Bool) (ns : List (List ℕ)) (code filled : List ℕ) : Type 0 where
  pub first : List ℕ
  pub others : List (List ℕ)
  pub pieces : ArePieces code first others
  pub enough : length (in_slots is_named ns (length others)) ≡ length others
  pub is : filled ≡ first ++ flat_map (λ e. e.0 ++ e.1) (zip (in_slots is_named ns (length others)) others)
