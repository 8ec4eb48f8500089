-- The terminals that alternatives use, seen by their list.
use Rattle.std.proofs.Common.{◌≡◌, ◌∙◌, ◌&&◌, List, map, refl, sym, ap₂}
use Rattle.std.specs.List.{flat_map, list_all}
use Rattle.std.proofs.Math.Bool.{and-true}
use Rattle.std.proofs.lemmas.List.Folds.{list_all-append}
use Rattle.lalrpop_norm_tree_names.specs.declared.names.Span.{Span}
use Rattle.lalrpop_norm_tree_names.specs.declared.names.TerminalString.{TerminalString}
use Rattle.lalrpop_norm_tree.specs.Items.{AlternativeData, RuleData, ItemData, match_item, extern_item, intern_item, rule_item, use_item}
use Rattle.lalrpop_norm_tree.specs.Symbols.{Part, Parts, terminal, at, no_parts, part_and}
use Rattle.lalrpop_norm_tree.specs.Traversal.{unwrapped}
use Rattle.lalrpop_norm_model.specs.Features.{Features}
use Rattle.lalrpop_norm_model.specs.PlainRules.{rule_of_item}
use Rattle.lalrpop_norm_model.specs.Terminals.{terminal_place, terminals_in, terminals_in_parts, terminals_in_rule}
use Rattle.lalrpop_norm_is_typed.specs.Terminals.{SourceData, is_terminal}
use Rattle.lalrpop_norm_is_typed.specs.Used.{is_leaf_listed, is_listed, are_listed, is_alternative_listed, is_rule_listed, is_item_listed}
use Rattle.lalrpop_norm_theory.proofs.ListTests.{all_same, all_flat}

module _ (fs : Features) (s : SourceData) where
  leaf_listed : (p : Part) → is_leaf_listed fs s p ≡ list_all (is_terminal fs s) (map (λ (u : TerminalString × Span). u.0) (terminal_place p))
  leaf_listed (at span (terminal t)) = sym (and-true (is_terminal fs s t))
  leaf_listed (at span _) = refl

  part_listed : (p : Part) → is_listed fs s p ≡ list_all (is_terminal fs s) (terminals_in p)
  part_listed p = leaf_listed (unwrapped p)

  parts_listed : (ps : Parts) → are_listed fs s ps ≡ list_all (is_terminal fs s) (terminals_in_parts ps)
  parts_listed no_parts = refl
  parts_listed (part_and p ps) =
      ap₂ (λ a b. a && b) (part_listed p) (parts_listed ps) ∙ sym (list_all-append (is_terminal fs s) (terminals_in p) (terminals_in_parts ps))

  rule_listed : (r : RuleData) → is_rule_listed fs s r ≡ list_all (is_terminal fs s) (terminals_in_rule r)
  rule_listed r =
      all_same (is_alternative_listed fs s) (λ (a : AlternativeData). list_all (is_terminal fs s) (terminals_in_parts a.parts)) (λ (a : AlternativeData). parts_listed a.parts) r.alternatives
      ∙ sym (all_flat (is_terminal fs s) (λ (a : AlternativeData). terminals_in_parts a.parts) r.alternatives)

  item_listed : (i : ItemData) → is_item_listed fs s i ≡ list_all (is_rule_listed fs s) (rule_of_item i)
  item_listed (rule_item r) = sym (and-true (is_rule_listed fs s r))
  item_listed (match_item m) = refl
  item_listed (extern_item t) = refl
  item_listed (intern_item t) = refl
  item_listed (use_item s) = refl

  pub items_listed : (items : List ItemData) → list_all (is_item_listed fs s) items ≡ list_all (is_terminal fs s) (flat_map terminals_in_rule (flat_map rule_of_item items))
  items_listed items =
      all_same (is_item_listed fs s) (λ i. list_all (is_rule_listed fs s) (rule_of_item i)) item_listed items
      ∙ (sym (all_flat (is_rule_listed fs s) rule_of_item items)
      ∙ (all_same (is_rule_listed fs s) (λ r. list_all (is_terminal fs s) (terminals_in_rule r)) rule_listed (flat_map rule_of_item items)
      ∙ sym (all_flat (is_terminal fs s) terminals_in_rule (flat_map rule_of_item items))))
