-- All tests together.
use Rattle.std.specs.Prelude.{Bool, ◌&&◌}
use Rattle.std.specs.List.{list_all}
use Rattle.lalrpop_norm_tree.specs.Items.{GrammarData}
use Rattle.lalrpop_norm_model.specs.Features.{Features}
use Rattle.lalrpop_norm_repr.specs.Tables.{TypeTable}
use Rattle.lalrpop_norm_is_typed.specs.Rules.{is_item_typed}
use Rattle.lalrpop_norm_is_typed.specs.Terminals.{source_of, are_terminals_distinct}
use Rattle.lalrpop_norm_is_typed.specs.Used.{is_item_listed}

-- the terminals are named once, and those that alternatives use are among them
abbrev pub are_terminals_listed : Features → GrammarData → Bool
are_terminals_listed fs g = are_terminals_distinct fs (source_of g) && list_all (is_item_listed fs (source_of g)) g.items

-- each rule has a type as well
abbrev pub is_typed_by : Features → GrammarData → TypeTable → Bool
is_typed_by fs g types = list_all (is_item_typed types) g.items && are_terminals_listed fs g
