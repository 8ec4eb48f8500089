-- The rules of a grammar as their trees see them: names resolved, alternatives at their written indices, with levels.
use Rattle.std.specs.Prelude.{ℕ, Bool, false, ◌++◌, List, [], ◌∷◌, map, Option, Some, None, option_map, bytes_eq}
use Rattle.std.specs.Prelude.{if◌then◌else◌}
use Rattle.lalrpop_norm_tree_names.specs.declared.names.NonterminalString.{NonterminalString}
use Rattle.lalrpop_norm_tree.specs.Items.{RuleData, ItemData, GrammarData, rule_item, match_item, extern_item, intern_item}
use Rattle.lalrpop_norm_tree.specs.Items.{use_item}
use Rattle.lalrpop_norm_model.specs.Features.{Features, is_active}
use Rattle.lalrpop_norm_model.specs.Enabled.{PlacedAlternatives, enabled_places, all_places, enabled_grammar}
use Rattle.lalrpop_norm_model.specs.Scopes.{Global, globals, sense_of, resolved_alternative}
use Rattle.lalrpop_norm_model.specs.Levels.{Leveled, has_levels, with_levels, without_levels}

-- a rule, or a macro if it has arguments; index k holds its alternative k, if that is enabled
pub record WrittenRule : Type 0 where
  pub name : List ℕ
  pub args : List NonterminalString
  pub has_levels : Bool
  pub places : List (Option Leveled)

abbrev pub resolved_places : List Global → RuleData → PlacedAlternatives → PlacedAlternatives
resolved_places ds r ps = map (option_map (resolved_alternative (sense_of ds r.args))) ps

-- with the levels that its alternatives state
abbrev pub written_rule_with_levels : List Global → RuleData → PlacedAlternatives → WrittenRule
written_rule_with_levels ds r ps =
    record { name = r.name.0; args = r.args; has_levels = has_levels ps; places = with_levels (resolved_places ds r ps) }

-- whatever its alternatives state
abbrev pub flat_rule : List Global → RuleData → PlacedAlternatives → WrittenRule
flat_rule ds r ps =
    record { name = r.name.0; args = r.args; has_levels = false; places = without_levels (resolved_places ds r ps) }

-- the rules of a grammar that are taken, each through f
abbrev pub rules_through : (RuleData → List WrittenRule) → List ItemData → List WrittenRule
rules_through f [] = []
rules_through f (rule_item r ∷ items) = f r ++ rules_through f items
rules_through f (match_item m ∷ items) = rules_through f items
rules_through f (extern_item t ∷ items) = rules_through f items
rules_through f (intern_item t ∷ items) = rules_through f items
rules_through f (use_item u ∷ items) = rules_through f items

-- the enabled rules of a written grammar, as `normalize` reads it
abbrev pub written_rules : Features → GrammarData → List WrittenRule
written_rules fs g =
    rules_through (λ r. if is_active fs r.attributes
    then written_rule_with_levels (globals (enabled_grammar fs g)) r (enabled_places fs r) ∷ [] else []) g.items

-- all rules, with their levels, as the pass on levels reads its argument; what it makes of them is `leveled_grammar`
abbrev pub leveled_rules : GrammarData → List WrittenRule
leveled_rules g = rules_through (λ r. written_rule_with_levels (globals g) r (all_places r) ∷ []) g.items

-- all rules without levels, as the expansion of macros reads its argument
abbrev pub flat_rules : GrammarData → List WrittenRule
flat_rules g = rules_through (λ r. flat_rule (globals g) r (all_places r) ∷ []) g.items

-- the rule of a name; of several the first
abbrev pub rule_named : List WrittenRule → List ℕ → Option WrittenRule
rule_named [] n = None
rule_named (r ∷ rs) n = if bytes_eq r.name n then Some r else rule_named rs n
