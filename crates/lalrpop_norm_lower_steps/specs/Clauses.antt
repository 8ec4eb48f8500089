-- `where` clauses under their `for<..>`.
use Rattle.std.specs.Prelude.{List, [], ◌∷◌}
use Rattle.lalrpop_norm_tree_names.specs.declared.names.TypeParameter.{TypeParameter}
use Rattle.lalrpop_norm_tree_parts.specs.Reprs.{LoweredClause, for_all}

-- under its `for<..>`, if there is one
abbrev pub under : List TypeParameter → LoweredClause → LoweredClause
under [] c = c
under (f ∷ fs) c = for_all (f ∷ fs) c
