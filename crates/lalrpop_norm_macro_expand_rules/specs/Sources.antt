-- The values that a group gives, by their types: internal definitions, which no public contract clause mentions.
use Rattle.std.specs.Prelude.{ℕ, List, [], ◌∷◌, codes}
use Rattle.lalrpop_norm_tree.specs.Types.{TypeData}

-- the action code that gives values of these types: one bare, any other number of them as a tuple
abbrev pub types_code : List TypeData → List ℕ
types_code (t ∷ []) = codes "<>"
types_code ts = codes "(<>)"
