-- All errors of `expand_precedence`, in visiting order: of names in the grammar, then of its levels, then of names in the grammar
-- with levels.
use Rattle.std.specs.Prelude.{ℕ, List, [], ◌∷◌, ◌++◌, map, flat_map, Option, Some, None, if◌then◌else◌}
use Rattle.lalrpop_norm_tree.specs.Items.{RuleData, ItemData, GrammarData, match_item, extern_item, intern_item, rule_item}
use Rattle.lalrpop_norm_tree.specs.Items.{use_item}
use Rattle.lalrpop_norm_faults.specs.declared.kind.FaultKind.TheVariants.{NotNonterminal}
use Rattle.lalrpop_norm_faults.specs.Faults.{Fault}
use Rattle.lalrpop_norm_model.specs.Enabled.{all_places, present}
use Rattle.lalrpop_norm_model.specs.Scopes.{Global, globals, resolved_grammar}
use Rattle.lalrpop_norm_model.specs.Levels.{Leveled, has_levels, with_levels, levels_of, previous_level}
use Rattle.lalrpop_norm_model.specs.Grammars.{is_nil}
use Rattle.lalrpop_norm_model.specs.LevelRules.{level_alternative, of_level, level_rule, leveled_grammar}
use Rattle.lalrpop_norm_resolve.specs.NameFaults.{repeated_faults, rule_name_faults, resolve_faults}
use Rattle.lalrpop_norm_precedence_steps.specs.LevelFaults.{grammar_level_faults}

-- the rule of a level without its step to the level below
abbrev pub unstepped_rule : RuleData → List (Option Leveled) → ℕ → RuleData
unstepped_rule r ps l = record (level_rule r ps l) { alternatives = map (level_alternative r ps) (of_level l (present ps)) }

-- the step of a macro names a macro without arguments: F29, also where an argument of the macro has that name
abbrev pub step_faults : RuleData → Option ℕ → List Fault
step_faults r None = []
step_faults r (Some l) = (NotNonterminal, r.span) ∷ []

-- the faults of names in the rule of a level; the step comes last
abbrev pub level_rule_faults : List Global → RuleData → List (Option Leveled) → ℕ → List Fault
level_rule_faults ds r ps l =
    if is_nil r.args then rule_name_faults ds (level_rule r ps l) else (rule_name_faults ds (unstepped_rule r ps l)
    ++ step_faults r (previous_level ps l))

-- the faults of names in the rules of the levels of a rule
abbrev pub level_rules_faults : List Global → RuleData → List Fault
level_rules_faults ds r =
    if has_levels (all_places r) then flat_map (level_rule_faults ds r (with_levels (all_places r)))
    (levels_of (with_levels (all_places r)))
    else rule_name_faults ds r

abbrev pub level_items_faults : List Global → ItemData → List Fault
level_items_faults ds (rule_item r) = level_rules_faults ds r
level_items_faults ds (match_item m) = []
level_items_faults ds (extern_item t) = []
level_items_faults ds (intern_item t) = []
level_items_faults ds (use_item u) = []

-- the faults of names in the grammar with levels, which is made of this one
abbrev pub leveled_faults : GrammarData → List Fault
leveled_faults g =
    repeated_faults [] (globals (leveled_grammar g)) ++ flat_map (level_items_faults (globals (leveled_grammar g))) g.items

abbrev pub precedence_faults : GrammarData → List Fault
precedence_faults g = resolve_faults g ++ (grammar_level_faults (resolved_grammar g) ++ leveled_faults (resolved_grammar g))
