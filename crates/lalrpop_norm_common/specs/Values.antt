-- Which symbols of a list give the values of an alternative, asked one by one.
use Rattle.std.specs.Prelude.{Bool, true, false, ◌||◌}
use Rattle.lalrpop_norm_tree.specs.Symbols.{Kind, chosen, Part, at, Parts, no_parts, part_and}

-- the symbol is selected, as in `<Expr>`
abbrev pub is_chosen_kind : Kind → Bool
is_chosen_kind (chosen p) = true
is_chosen_kind _ = false

abbrev pub is_chosen : Part → Bool
is_chosen (at s k) = is_chosen_kind k

abbrev pub has_chosen : Parts → Bool
has_chosen no_parts = false
has_chosen (part_and p ps) = is_chosen p || has_chosen ps
