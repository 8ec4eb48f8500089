-- Rules that have types, seen by the list of the rules.
use Rattle.std.proofs.Common.{◌≡◌, ◌∙◌, Bool, List, refl, sym}
use Rattle.std.specs.Prelude.{is_some}
use Rattle.std.specs.List.{flat_map, list_all}
use Rattle.std.proofs.Math.Bool.{and-true}
use Rattle.lalrpop_norm_tree.specs.Items.{RuleData, ItemData, match_item, extern_item, intern_item, rule_item, use_item}
use Rattle.lalrpop_norm_model.specs.PlainRules.{rule_of_item}
use Rattle.lalrpop_norm_repr.specs.Tables.{TypeTable, type_of}
use Rattle.lalrpop_norm_is_typed.specs.Rules.{is_item_typed}
use Rattle.lalrpop_norm_theory.proofs.ListTests.{all_same, all_flat}

abbrev pub is_rule_typed : TypeTable → RuleData → Bool
is_rule_typed types r = is_some (type_of r.name types)

item_typed : (types : TypeTable) (i : ItemData) → is_item_typed types i ≡ list_all (is_rule_typed types) (rule_of_item i)
item_typed types (rule_item r) = sym (and-true (is_rule_typed types r))
item_typed types (match_item m) = refl
item_typed types (extern_item t) = refl
item_typed types (intern_item t) = refl
item_typed types (use_item s) = refl

pub rules_typed : (types : TypeTable) (items : List ItemData) → list_all (is_item_typed types) items ≡ list_all (is_rule_typed types) (flat_map rule_of_item items)
rules_typed types items =
    all_same (is_item_typed types) (λ i. list_all (is_rule_typed types) (rule_of_item i)) (item_typed types) items
    ∙ sym (all_flat (is_rule_typed types) rule_of_item items)
