-- The faults of the conditions of a macro's alternatives, where it is called.
use Rattle.std.specs.Prelude.{ℕ, List, [], ◌∷◌, Option, Some, None, flat_map}
use Rattle.lalrpop_norm_tree_names.specs.declared.names.TerminalLiteral.TheVariants.{Quoted}
use Rattle.lalrpop_norm_tree_names.specs.declared.names.TerminalString.TheVariants.{Literal}
use Rattle.lalrpop_norm_tree.specs.declared.items.Condition.{Condition}
use Rattle.lalrpop_norm_tree.specs.Symbols.{Kind, Parts, terminal}
use Rattle.lalrpop_norm_tree.specs.Items.{AlternativeData, RuleData}
use Rattle.lalrpop_norm_faults.specs.declared.kind.FaultKind.TheVariants.{ConditionArgument, ConditionPattern}
use Rattle.lalrpop_norm_faults.specs.Faults.{Fault, fault_if}
use Rattle.lalrpop_norm_conditions.specs.Conditions.{lacks_reading}
use Rattle.lalrpop_norm_model.specs.MadeRules.{argument_kind}

-- the text of a quoted literal
abbrev pub quoted_text : Option Kind → Option (List ℕ)
quoted_text (Some (terminal (Literal (Quoted t)))) = Some t
quoted_text _ = None

-- of a condition whose left operand is a literal of that text, or none: no literal (F33), a pattern that has no reading (F34)
abbrev pub comparison_faults : Condition → Option (List ℕ) → List Fault
comparison_faults c None = (ConditionArgument, c.span) ∷ []
comparison_faults c (Some text) = fault_if (lacks_reading c.op c.rhs) (ConditionPattern, c.span)

abbrev pub value_faults : (List ℕ → Option Kind) → Option Condition → List Fault
value_faults argument None = []
value_faults argument (Some c) = comparison_faults c (quoted_text (argument c.lhs.0))

-- those of a call, alternative by alternative
abbrev pub instance_faults : RuleData → Parts → List Fault
instance_faults d args = flat_map (λ (a : AlternativeData). value_faults (argument_kind d.args args) a.condition) d.alternatives

abbrev pub called_faults : Option RuleData → Parts → List Fault
called_faults None args = []
called_faults (Some d) args = instance_faults d args
