-- The names at which trees may begin, and the origins of start symbols, as code lists them.
use Rattle.std.specs.Prelude.{List, [], ◌∷◌, length, flat_map, replicate, if◌then◌else◌}
use Rattle.std.specs.BTreeSet.{insert_key}
use Rattle.lalrpop_norm_tree_names.specs.declared.names.NonterminalString.{NonterminalString}
use Rattle.lalrpop_norm_tree.specs.Items.{ItemData, match_item, extern_item, intern_item, rule_item, use_item}
use Rattle.lalrpop_norm_theory.specs.LoweredTrees.{Origin, from_start}
use Rattle.lalrpop_norm_model.specs.Grammars.{is_nil}
use Rattle.lalrpop_norm_model.specs.PlainRules.{rule_of_item}
use Rattle.lalrpop_norm_lower.specs.Lowering.{public_rules_in}
use Rattle.lalrpop_norm_repr.specs.Orders.{name_cmp}

-- ---- the code's own words

-- the name of a rule that is no macro
abbrev pub plain_names : ItemData → List NonterminalString
plain_names (rule_item r) = if is_nil r.args then r.name ∷ [] else []
plain_names (match_item m) = []
plain_names (extern_item t) = []
plain_names (intern_item t) = []
plain_names (use_item u) = []

-- keys with names added one after another
abbrev pub with_rule_names : List NonterminalString → List NonterminalString → List NonterminalString
with_rule_names keys [] = keys
with_rule_names keys (n ∷ ns) = with_rule_names (insert_key name_cmp keys n) ns

-- those of the start symbols of the public rules
abbrev pub start_origins : List ItemData → List Origin
start_origins items = replicate (length (public_rules_in (flat_map rule_of_item items))) from_start
