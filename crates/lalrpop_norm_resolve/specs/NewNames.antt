-- Generated names: whether the table of global names has none of them.
use Rattle.std.specs.Prelude.{ℕ, Bool, true, ◌&&◌, List, [], ◌∷◌, Some, is_none, bytes_eq, if◌then◌else◌}
use Rattle.std.specs.HashSet.{HashSet, contains}
use Rattle.lalrpop_norm_names.specs.declared.seeded.Seeded.{Seeded}
use Rattle.shared_text.specs.declared.atom.Atom.{Atom}
use Rattle.lalrpop_norm_resolve.specs.declared.resolve.Def.TheVariants.{Rule}
use Rattle.lalrpop_norm_resolve.specs.declared.names.GlobalNames.{GlobalNames}
use Rattle.lalrpop_norm_resolve.specs.NameTables.{NameRows, rows_of, with_def}

abbrev pub table_rows : GlobalNames → NameRows
table_rows names = rows_of names.table

-- a table with the names of a set, each that of a rule
abbrev pub with_made : NameRows → HashSet Atom Seeded → NameRows
with_made rows made name = if contains bytes_eq made name then Some Rule else rows name

-- no name is in the table, and none is in the list twice
abbrev pub are_new : NameRows → List (List ℕ) → Bool
are_new rows [] = true
are_new rows (n ∷ ns) = is_none (rows n) && are_new (with_def rows n Rule) ns
