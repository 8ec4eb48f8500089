-- The faults of names in a grammar, in visiting order: definitions of a name that has one already, then
-- rule by rule the names of arguments, and alternative by alternative its condition and the names in its symbols.
use Rattle.std.specs.Prelude.{ℕ, zero, suc, Bool, false, not, ◌||◌, List, [], ◌∷◌, ◌++◌, flat_map, Option, Some}
use Rattle.std.specs.Prelude.{None, is_some, nat_eq}
use Rattle.lalrpop_norm_tree_names.specs.declared.names.Span.{Span}
use Rattle.lalrpop_norm_tree_names.specs.declared.names.NonterminalString.{NonterminalString}
use Rattle.lalrpop_norm_tree.specs.declared.items.Condition.{Condition}
use Rattle.lalrpop_norm_tree.specs.Symbols.{Kind, Part, Parts, ambiguous_id, nonterminal, call, no_parts, part_and}
use Rattle.lalrpop_norm_tree.specs.Traversal.{fold_kind, fold_part, fold_parts}
use Rattle.lalrpop_norm_tree.specs.Items.{AlternativeData, RuleData, ItemData, GrammarData, match_item, extern_item, intern_item}
use Rattle.lalrpop_norm_tree.specs.Items.{rule_item, use_item}
use Rattle.lalrpop_norm_faults.specs.declared.kind.FaultKind.TheVariants.{NameDeclaredTwice, ArgumentTwice, NoDefinition}
use Rattle.lalrpop_norm_faults.specs.declared.kind.FaultKind.TheVariants.{ConditionOnOther, NotNonterminal, NotMacro, Arity}
use Rattle.lalrpop_norm_faults.specs.declared.kind.FaultKind.TheVariants.{MacroNamed}
use Rattle.lalrpop_norm_faults.specs.Faults.{Fault, fault_if}
use Rattle.lalrpop_norm_model.specs.Scopes.{a_rule, a_macro, a_terminal, Global, globals, definition_of, Sense, an_argument}
use Rattle.lalrpop_norm_model.specs.Scopes.{a_global, is_argument, sense_of}

-- F25 at each definition of a name that one before it defines
abbrev pub repeated_faults : List Global → List Global → List Fault
repeated_faults before [] = []
repeated_faults before (d ∷ rest) =
    fault_if (is_some (definition_of before d.name)) (NameDeclaredTwice, d.span) ++ repeated_faults (before ++ d ∷ []) rest

-- F26: some argument is named again
abbrev pub has_repeated_argument : List NonterminalString → Bool
has_repeated_argument [] = false
has_repeated_argument (a ∷ rest) = is_argument rest a.0 || has_repeated_argument rest

abbrev pub repeated_argument_faults : Span → List NonterminalString → List Fault
repeated_argument_faults s args = fault_if (has_repeated_argument args) (ArgumentTwice, s)

-- the left operand of a condition: F27, or F28 if it is no argument
unfoldable pub tested_faults : Span → Option Sense → List Fault
tested_faults s None = (NoDefinition, s) ∷ []
tested_faults s (Some an_argument) = []
tested_faults s (Some (a_global d)) = (ConditionOnOther, s) ∷ []

abbrev pub condition_faults : (List ℕ → Option Sense) → Option Condition → List Fault
condition_faults sense None = []
condition_faults sense (Some c) = tested_faults c.span (sense c.lhs.0)

-- an identifier: F27, or F32 if it is a macro's
unfoldable pub id_faults : Span → Option Sense → List Fault
id_faults s None = (NoDefinition, s) ∷ []
id_faults s (Some an_argument) = []
id_faults s (Some (a_global a_rule)) = []
id_faults s (Some (a_global a_terminal)) = []
id_faults s (Some (a_global (a_macro n))) = (MacroNamed, s) ∷ []

-- a nonterminal: F27, or F29 if it is a terminal's or a macro's
unfoldable pub nonterminal_faults : Span → Option Sense → List Fault
nonterminal_faults s None = (NoDefinition, s) ∷ []
nonterminal_faults s (Some an_argument) = []
nonterminal_faults s (Some (a_global a_rule)) = []
nonterminal_faults s (Some (a_global a_terminal)) = (NotNonterminal, s) ∷ []
nonterminal_faults s (Some (a_global (a_macro n))) = (NotNonterminal, s) ∷ []

-- the macro of a call with that many arguments: F27, F30 if it is no macro, F31 if it takes another number
unfoldable pub macro_name_faults : Span → ℕ → Option Sense → List Fault
macro_name_faults s given None = (NoDefinition, s) ∷ []
macro_name_faults s given (Some an_argument) = (NotMacro, s) ∷ []
macro_name_faults s given (Some (a_global a_rule)) = (NotMacro, s) ∷ []
macro_name_faults s given (Some (a_global a_terminal)) = (NotMacro, s) ∷ []
macro_name_faults s given (Some (a_global (a_macro n))) = fault_if (not (nat_eq n given)) (Arity, s)

abbrev pub parts_count : Parts → ℕ
parts_count no_parts = zero
parts_count (part_and p ps) = suc (parts_count ps)

-- the faults of a symbol's own name, before those of what is inside of it
abbrev pub own_name_faults : (List ℕ → Option Sense) → Span → Kind → List Fault → List Fault
own_name_faults sense s (ambiguous_id a) inside = id_faults s (sense a)
own_name_faults sense s (nonterminal n) inside = nonterminal_faults s (sense n)
own_name_faults sense s (call n ps) inside = macro_name_faults s (parts_count ps) (sense n) ++ inside
own_name_faults sense s _ inside = inside

-- the names in a symbol, in reading order; of a call the macro before the arguments
abbrev pub kind_name_faults : (List ℕ → Option Sense) → Span → Kind → List Fault
kind_name_faults sense = fold_kind (own_name_faults sense) [] (λ xs ys. xs ++ ys)

abbrev pub part_name_faults : (List ℕ → Option Sense) → Part → List Fault
part_name_faults sense = fold_part (own_name_faults sense) [] (λ xs ys. xs ++ ys)

abbrev pub parts_name_faults : (List ℕ → Option Sense) → Parts → List Fault
parts_name_faults sense = fold_parts (own_name_faults sense) [] (λ xs ys. xs ++ ys)

unfoldable pub alternative_name_faults : (List ℕ → Option Sense) → AlternativeData → List Fault
alternative_name_faults sense a = condition_faults sense a.condition ++ parts_name_faults sense a.parts

-- in each rule a name means the rule's argument, else the global definition
abbrev pub rule_name_faults : List Global → RuleData → List Fault
rule_name_faults ds r =
    repeated_argument_faults r.span r.args ++ flat_map (alternative_name_faults (sense_of ds r.args)) r.alternatives

abbrev pub item_name_faults : List Global → ItemData → List Fault
item_name_faults ds (rule_item r) = rule_name_faults ds r
item_name_faults ds (match_item m) = []
item_name_faults ds (extern_item t) = []
item_name_faults ds (intern_item t) = []
item_name_faults ds (use_item u) = []

abbrev pub resolve_faults : GrammarData → List Fault
resolve_faults g = repeated_faults [] (globals g) ++ flat_map (item_name_faults (globals g)) g.items
