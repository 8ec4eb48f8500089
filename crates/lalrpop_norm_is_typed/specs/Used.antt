-- The terminals that alternatives use are terminals of the grammar, as a test of its items.
use Rattle.std.specs.Prelude.{Bool, true, ◌&&◌}
use Rattle.std.specs.List.{list_all}
use Rattle.lalrpop_norm_tree.specs.Items.{AlternativeData, RuleData, ItemData, rule_item}
use Rattle.lalrpop_norm_tree.specs.Symbols.{Part, Parts, terminal, at, no_parts, part_and}
use Rattle.lalrpop_norm_tree.specs.Traversal.{unwrapped}
use Rattle.lalrpop_norm_model.specs.Features.{Features}
use Rattle.lalrpop_norm_is_typed.specs.Terminals.{SourceData, is_terminal}

-- a terminal is one of them
abbrev pub is_leaf_listed : Features → SourceData → Part → Bool
is_leaf_listed fs s (at span (terminal t)) = is_terminal fs s t
is_leaf_listed fs s _ = true

-- so is a symbol that is a terminal under wrappers
abbrev pub is_listed : Features → SourceData → Part → Bool
is_listed fs s p = is_leaf_listed fs s (unwrapped p)

abbrev pub are_listed : Features → SourceData → Parts → Bool
are_listed fs s no_parts = true
are_listed fs s (part_and p ps) = is_listed fs s p && are_listed fs s ps

abbrev pub is_alternative_listed : Features → SourceData → AlternativeData → Bool
is_alternative_listed fs s a = are_listed fs s a.parts

abbrev pub is_rule_listed : Features → SourceData → RuleData → Bool
is_rule_listed fs s r = list_all (is_alternative_listed fs s) r.alternatives

abbrev pub is_item_listed : Features → SourceData → ItemData → Bool
is_item_listed fs s (rule_item r) = is_rule_listed fs s r
is_item_listed fs s _ = true
