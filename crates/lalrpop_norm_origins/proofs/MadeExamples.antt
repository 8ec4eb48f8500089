-- Origins of the rules of expanded grammars, computed.
use Rattle.std.proofs.Common.{◌≡◌, [], ◌∷◌, None, true, refl}
use Rattle.std.specs.Prelude.{codes, flat_map, is_some}
use Rattle.lalrpop_norm_tree_names.specs.declared.names.Span.{Span}
use Rattle.lalrpop_norm_tree.specs.declared.symbol.RepeatOp.TheVariants.{Plus}
use Rattle.lalrpop_norm_tree.specs.Symbols.{repeated, lookahead, at, no_parts}
use Rattle.lalrpop_norm_tree.specs.Items.{AlternativeData, RuleData}
use Rattle.lalrpop_norm_tree_parts.specs.Attributes.{no_attributes}
use Rattle.lalrpop_norm_theory.specs.Symbols.{Name}
use Rattle.lalrpop_norm_theory.specs.LoweredTrees.{written, plus_one, plus_more}
use Rattle.lalrpop_norm_model.specs.Grammars.{ConditionValue}
use Rattle.lalrpop_norm_model.specs.MadeRules.{coded, private_rule}
use Rattle.lalrpop_norm_origins.specs.MadeOrigins.{plain_list, traced_macro, kept_origins, made_origins}

abbrev here : Span
here = record { 0 = 0; 1 = 0 }

abbrev m_name : Name
m_name = codes "M"

-- two alternatives, the second without code
abbrev first_alternative : AlternativeData
first_alternative = coded here no_parts (codes "1")

abbrev second_alternative : AlternativeData
second_alternative = record first_alternative { action = None }

-- what is kept of three alternatives, the second of which is not, keeps its own origin; in the macro index 1 was disabled
kept_keep_their_own : kept_origins (λ a. is_some a.action) (first_alternative ∷ (second_alternative ∷ (first_alternative ∷ [])))
    (written m_name 0 ∷ (written m_name 2 ∷ (written m_name 3 ∷ [])))
    ≡ written m_name 0 ∷ (written m_name 3 ∷ [])
kept_keep_their_own = refl

abbrev any_value : ConditionValue
any_value = λ op left right. true

-- `@L+`: one, then one more
plus_in_order : made_origins any_value (traced_macro []) (at here (repeated Plus (at here lookahead))) ≡ (plus_one ∷ (plus_more ∷ [])) ∷ []
plus_in_order = refl

-- a rule, and a macro with one argument
abbrev a_rule : RuleData
a_rule = private_rule here lookahead no_attributes None (first_alternative ∷ [])

abbrev a_macro : RuleData
a_macro = record a_rule { args = (record { 0 = codes "T" }) ∷ [] }

-- the list of the macro is none of a rule of the expanded grammar
macros_are_dropped : flat_map plain_list ((a_macro, written m_name 0 ∷ []) ∷ ((a_rule, written m_name 1 ∷ []) ∷ [])) ≡ (written m_name 1 ∷ []) ∷ []
macros_are_dropped = refl
