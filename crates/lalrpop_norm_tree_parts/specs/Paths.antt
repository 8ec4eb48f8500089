-- Paths as plain data.
use Rattle.std.specs.Prelude.{ℕ, Bool, List}
use Rattle.lalrpop_norm_tree_parts.specs.declared.path.Path.{Path}

pub record PathData : Type 0 where
  pub absolute : Bool
  pub ids : List (List ℕ)

abbrev pub path_view : Path → PathData
path_view p = record { absolute = p.absolute; ids = p.ids.items }
