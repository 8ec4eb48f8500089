-- Items that stay as they are when a grammar is expanded: internal definitions, which no public contract clause mentions.
use Rattle.std.specs.Prelude.{Bool, true, not, ◌&&◌}
use Rattle.std.specs.List.{list_all}
use Rattle.lalrpop_norm_tree.specs.Symbols.{Part, Parts, at, no_parts, part_and}
use Rattle.lalrpop_norm_tree.specs.Traversal.{unwrapped}
use Rattle.lalrpop_norm_tree.specs.Items.{AlternativeData, RuleData, ItemData, rule_item}
use Rattle.lalrpop_norm_model.specs.Grammars.{is_nil}
use Rattle.lalrpop_norm_model.specs.Replaced.{is_desugared}

abbrev pub stays_there : Part → Bool
stays_there (at s k) = not (is_desugared k)

-- a symbol that is not desugared, under wrappers either
abbrev pub symbol_stays : Part → Bool
symbol_stays p = stays_there (unwrapped p)

abbrev pub symbols_stay : Parts → Bool
symbols_stay no_parts = true
symbols_stay (part_and p ps) = symbol_stays p && symbols_stay ps

abbrev pub alternative_stays : AlternativeData → Bool
alternative_stays a = symbols_stay a.parts

-- a rule that is no macro, and whose symbols stay
abbrev pub rule_stays : RuleData → Bool
rule_stays r = is_nil r.args && list_all alternative_stays r.alternatives

abbrev pub item_stays : ItemData → Bool
item_stays (rule_item r) = rule_stays r
item_stays _ = true
