-- The uses of terminals that are left to an iterator over a grammar.
use Rattle.std.specs.Prelude.{List, ◌++◌, flat_map, map, Option, option_to_list, option_map}
use Rattle.std.specs.Borrow.{Bor}
use Rattle.lalrpop_norm_tree_names.specs.declared.names.Span.{Span}
use Rattle.lalrpop_norm_tree_names.specs.declared.names.TerminalString.{TerminalString}
use Rattle.lalrpop_norm_tree.specs.Items.{AlternativeData, RuleData, alternative_view, item_view}
use Rattle.lalrpop_norm_tree.specs.Symbols.{parts_view}
use Rattle.lalrpop_norm_model.specs.PlainRules.{rule_of_item}
use Rattle.lalrpop_norm_model.specs.TokenFaults.{places_in_parts}
use Rattle.lalrpop_norm_common.specs.Uses.{Use, places_in_alternatives}
use Rattle.lalrpop_norm_token_check.specs.declared.token_check.uses.Uses.{Uses}

-- a use, whose terminal stands in the grammar
abbrev pub use_view : Bor TerminalString × Span → Use
use_view u = (u.0.now, u.1)

abbrev pub use_list : Option (Bor TerminalString × Span) → List Use
use_list u = option_to_list (option_map use_view u)

-- the alternatives that are left of a rule, and those of the rules among the items behind it
abbrev pub alternatives_left : Uses → List AlternativeData
alternatives_left u =
    map alternative_view u.alternatives.now
    ++ flat_map (λ (r : RuleData). r.alternatives) (flat_map rule_of_item (map item_view u.items.now))

-- the uses in the symbols that are left of an alternative, and in the alternatives behind it
abbrev pub uses_left : Uses → List Use
uses_left u = places_in_parts (parts_view u.symbols.now) ++ places_in_alternatives (alternatives_left u)
