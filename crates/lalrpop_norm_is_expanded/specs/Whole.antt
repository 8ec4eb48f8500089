-- All tests but the one of where tokens come from.
use Rattle.std.specs.Prelude.{Bool, ◌&&◌}
use Rattle.std.specs.List.{list_all}
use Rattle.lalrpop_norm_tree.specs.Items.{GrammarData}
use Rattle.lalrpop_norm_model.specs.Expanded.{all_known}
use Rattle.lalrpop_norm_is_expanded.specs.Plain.{is_usable_item, is_no_name_twice}
use Rattle.lalrpop_norm_is_expanded.specs.Tokens.{item_spares_error}
use Rattle.lalrpop_norm_is_expanded.specs.Types.{is_free_of_symbols}

-- rules are plain and have names of their own, nothing names the error terminal, other types hold no symbol, attributes are known
abbrev pub are_parts_plain : GrammarData → Bool
are_parts_plain g =
    list_all (is_usable_item g.items) g.items
    && (is_no_name_twice g.items && (list_all item_spares_error g.items && (is_free_of_symbols g && all_known g.attributes)))
