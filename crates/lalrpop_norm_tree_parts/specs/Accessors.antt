-- What paths and attributes are asked for.
use Rattle.std.specs.Prelude.{ℕ, Bool, false, ◌||◌, List, [], ◌∷◌, Option, Some, None}
use Rattle.std.specs.Prelude.{if◌then◌else◌, bytes_eq, codes}
use Rattle.lalrpop_norm_tree_parts.specs.declared.lowered.LrCodeGeneration.{LrCodeGeneration}
use Rattle.lalrpop_norm_tree_parts.specs.declared.lowered.LrCodeGeneration.TheVariants.{TableDriven, RecursiveAscent, TestAll}
use Rattle.lalrpop_norm_tree_parts.specs.Attributes.{AttributeData, attribute, paren, equal, attribute_and}
use Rattle.lalrpop_norm_tree_parts.specs.Paths.{PathData}

-- ---- paths

-- a path that is not absolute
abbrev pub path_of : List (List ℕ) → PathData
path_of ids = record { absolute = false; ids = ids }

abbrev pub only_one : List (List ℕ) → Option (List ℕ)
only_one [] = None
only_one (a ∷ []) = Some a
only_one (a ∷ b ∷ ids) = None

-- the name that the path is, where it is not absolute and has one part
abbrev pub single_name : PathData → Option (List ℕ)
single_name p = if p.absolute then None else only_one p.ids

-- ---- attributes

-- the first argument's key and value, if that argument is `key = "value"`
abbrev pub key_and_value : AttributeData → Option (List ℕ × List ℕ)
key_and_value (attribute s n (paren (attribute_and (attribute t key (equal value)) rest))) = Some (key, value)
key_and_value _ = None

abbrev pub is_known_name : List ℕ → Bool
is_known_name n =
    bytes_eq n (codes "LALR") || bytes_eq n (codes "table_driven") || bytes_eq n (codes "recursive_ascent")
    || bytes_eq n (codes "test_all")

-- what code an attribute asks for
abbrev pub codegen_named : List ℕ → Option LrCodeGeneration
codegen_named n =
    if bytes_eq n (codes "table_driven") then Some TableDriven else
    (if bytes_eq n (codes "recursive_ascent") then Some RecursiveAscent else
    (if bytes_eq n (codes "test_all") then Some TestAll else None))
