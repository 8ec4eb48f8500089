-- What the code generates for the symbols on the worklist: internal definitions, which no public contract clause mentions.
use Rattle.std.specs.Prelude.{ℕ, List, [], ◌∷◌, map, flat_map, reverse, option_map, option_to_list, Option, Some, None, if◌then◌else◌}
use Rattle.lalrpop_norm_tree_names.specs.declared.names.NonterminalString.{NonterminalString}
use Rattle.lalrpop_norm_tree_names.specs.declared.names.Span.{Span}
use Rattle.lalrpop_norm_tree.specs.declared.symbol.RepeatOp.{RepeatOp}
use Rattle.lalrpop_norm_tree.specs.Symbols.{Kind, Part, Parts, at, group, nonterminal, call, repeated}
use Rattle.lalrpop_norm_tree.specs.Symbols.{lookahead, lookbehind, symbol_view, parts_view}
use Rattle.lalrpop_norm_tree.specs.SymbolTexts.{kind_text}
use Rattle.lalrpop_norm_tree.specs.Items.{AlternativeData, RuleData, lookahead_code, lookbehind_code}
use Rattle.lalrpop_norm_faults.specs.Faults.{Fault}
use Rattle.lalrpop_norm_conditions.specs.Conditions.{comparison}
use Rattle.lalrpop_norm_model.specs.Grammars.{is_true}
use Rattle.lalrpop_norm_model.specs.MadeRules.{flat_reader, argument_kind, only_part, macro_named, type_substituted}
use Rattle.lalrpop_norm_model.specs.MadeRules.{group_rule, location_rule, instance_alternative}
use Rattle.lalrpop_norm_model.specs.Reading.{read_all}
use Rattle.lalrpop_norm_nodes.specs.Apart.{nowhere}
use Rattle.lalrpop_norm_nodes.specs.declared.table.Waiting.{Waiting}
use Rattle.lalrpop_norm_nodes.specs.NodeParts.{call_parts, repeated_kind}
use Rattle.lalrpop_norm_nodes.specs.Wholes.{Whole, kind_at}
use Rattle.lalrpop_norm_macro_expand_rules.specs.declared.generated.GeneratedRule.{GeneratedRule}
use Rattle.lalrpop_norm_macro_expand_rules.specs.declared.substituted.Bindings.{Bindings}
use Rattle.lalrpop_norm_macro_expand_rules.specs.Generated.{GeneratedData, finished_rule, unread_rule, generated_view}
use Rattle.lalrpop_norm_macro_expand_repeats.specs.Repeats.{placeholder_name, repeat_shape}
use Rattle.lalrpop_norm_macro_expand.specs.Expansion.{unmade}
use Rattle.lalrpop_norm_macro_expand.specs.Made.{made_for}

-- ---- macro calls

-- an alternative of a macro as the rule of a call has it, its arguments not yet substituted
abbrev pub copied_alternative : Span → AlternativeData → AlternativeData
copied_alternative s a = instance_alternative s (λ n. None) a

-- such an alternative, if its condition is true or absent
abbrev pub kept_of : Span → List NonterminalString → Parts → AlternativeData → List AlternativeData
kept_of s params args a =
    if is_true comparison params (read_all flat_reader args) a.condition then copied_alternative s a ∷ [] else []

-- the same in an environment that binds the macro's names
abbrev pub kept_in : Bindings → Span → AlternativeData → List AlternativeData
kept_in b s = kept_of s b.names.now (parts_view b.symbols.now)

-- the rule of a call of that name with these arguments, before its alternatives are read
abbrev pub instance_shape : List ℕ → Span → RuleData → Parts → RuleData
instance_shape name s d args = record {
  visibility = d.visibility;
  name = record { 0 = name };
  attributes = d.attributes;
  span = s;
  args = [];
  type_decl = option_map (type_substituted (argument_kind d.args args)) d.type_decl;
  alternatives = flat_map (kept_of s d.args args) d.alternatives;
}

-- where the arguments are the second ones once they are rewritten
abbrev pub call_generated : List ℕ → Span → Option RuleData → Parts → Parts → List GeneratedData
call_generated name s None whole shown = []
call_generated name s (Some d) whole shown =
    unread_rule (instance_shape name s d shown) (argument_kind d.args whole) (argument_kind d.args shown) ∷ []

-- ---- repeats

-- the names in the environment: the one that stands for what is repeated
abbrev pub placeholder_names : List NonterminalString
placeholder_names = (record { 0 = placeholder_name }) ∷ []

abbrev pub repeat_generated : List ℕ → Span → RepeatOp → Kind → Part → GeneratedData
repeat_generated name s op whole (at t k) =
    unread_rule (repeat_shape name s op (at t k) (at t (nonterminal placeholder_name)))
    (argument_kind placeholder_names (only_part (at nowhere whole)))
    (argument_kind placeholder_names (only_part (at t k)))

-- ---- symbols on the worklist

-- The rules that a symbol is desugared to, where it is the first symbol up to spans, and the second one once its parts are
-- rewritten. In the rule of a group they are rewritten: each of them was reached before the group was.
abbrev pub generated_of : List RuleData → Kind → Part → List GeneratedData
generated_of macros whole (at s (group ps)) = finished_rule (group_rule s ps) ∷ []
generated_of macros whole (at s (call n ps)) = call_generated (kind_text (call n ps)) s (macro_named macros n) (call_parts whole) ps
generated_of macros whole (at s (repeated op p)) = repeat_generated (kind_text (repeated op p)) s op (repeated_kind whole) p ∷ []
generated_of macros whole (at s lookahead) = finished_rule (location_rule s lookahead lookahead_code) ∷ []
generated_of macros whole (at s lookbehind) = finished_rule (location_rule s lookbehind lookbehind_code) ∷ []
generated_of macros whole (at s _) = []

abbrev pub generated_for : List Whole → List RuleData → Waiting → List GeneratedData
generated_for ws macros w = generated_of macros (kind_at ws w.number) (symbol_view w.symbol)

-- a rule, if there is one
abbrev pub generated_list : List Whole → Option GeneratedRule → List GeneratedData
generated_list ws p = option_to_list (option_map (generated_view ws) p)

-- ---- all symbols on the worklist: the rule of the one reached last is generated first

abbrev pub round_generated : List Whole → List RuleData → List Waiting → List GeneratedData
round_generated ws macros waiting = flat_map (generated_for ws macros) (reverse waiting)

abbrev pub round_unmade : List RuleData → List Waiting → List Fault
round_unmade macros waiting = flat_map (λ w. unmade macros (symbol_view w.symbol)) (reverse waiting)

abbrev pub round_made : List RuleData → List Waiting → List (ℕ × List ℕ)
round_made macros waiting = map (made_for macros) (reverse waiting)
