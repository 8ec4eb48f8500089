-- The terminals used, each with its span, item by item.
use Rattle.std.specs.Prelude.{List, flat_map}
use Rattle.lalrpop_norm_tree_names.specs.declared.names.Span.{Span}
use Rattle.lalrpop_norm_tree_names.specs.declared.names.TerminalString.{TerminalString}
use Rattle.lalrpop_norm_tree.specs.Items.{AlternativeData, RuleData, ItemData}
use Rattle.lalrpop_norm_model.specs.PlainRules.{rule_of_item}
use Rattle.lalrpop_norm_model.specs.TokenFaults.{places_in_parts}

-- a terminal, and its span
abbrev pub Use : Type 0
Use = TerminalString × Span

abbrev pub places_in_alternatives : List AlternativeData → List Use
places_in_alternatives alternatives = flat_map (λ (a : AlternativeData). places_in_parts a.parts) alternatives

abbrev pub places_in_item : ItemData → List Use
places_in_item i = flat_map (λ (r : RuleData). places_in_alternatives r.alternatives) (rule_of_item i)
