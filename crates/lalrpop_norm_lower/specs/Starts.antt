-- Start symbols of public rules, as lowering counts them: their errors and their rows.
use Rattle.std.specs.Prelude.{ℕ, ◌+◌, Bool, not, List, [], ◌∷◌, ◌++◌, is_none}
use Rattle.lalrpop_norm_tree_names.specs.declared.names.NonterminalString.{NonterminalString}
use Rattle.lalrpop_norm_tree_parts.specs.Reprs.{ReprData}
use Rattle.lalrpop_norm_tree.specs.Items.{RuleData, rule_view}
use Rattle.lalrpop_norm_faults.specs.Faults.{Fault, fault_if}
use Rattle.lalrpop_norm_faults.specs.declared.kind.FaultKind.TheVariants.{StartTaken}
use Rattle.lalrpop_norm_model.specs.LoweringFaults.{action_number_faults}
use Rattle.lalrpop_norm_repr.specs.Productions.{EntryData}
use Rattle.lalrpop_norm_repr.specs.Tables.{TypeTable, type_of}
use Rattle.lalrpop_norm_shared_types.specs.Shared.{shared_view}
use Rattle.lalrpop_norm_shared_types.specs.declared.shared.SharedType.{SharedType}
use Rattle.lalrpop_norm_lower.specs.declared.starts.Start.{Start}
use Rattle.lalrpop_norm_lower.specs.Lowering.{EntryRow, production_of, rule_type, start_name, start_alternative, start_entry_with}

abbrev pub start_rule : Start → RuleData
start_rule s = rule_view s.rule.now

-- the rule's name and that of its start symbol
abbrev pub start_named : Start → NonterminalString × NonterminalString
start_named s = (s.rule.now.name, s.name)

-- whether the name of the start symbol is taken
abbrev pub start_taken : Start → Bool
start_taken s = s.taken

-- whether the table has a type for the name of the rule's start symbol
abbrev pub has_start : List ℕ → TypeTable → RuleData → Bool
has_start prefix types r = not (is_none (type_of (start_name prefix r.name) types))

-- the start symbol and its type by the table
abbrev pub start_typed : TypeTable → Start → NonterminalString × ReprData
start_typed types s = (s.name, rule_type types (start_rule s))

-- a start symbol with its type
abbrev pub typed_row : NonterminalString × SharedType → NonterminalString × ReprData
typed_row p = (p.0, shared_view p.1)

-- ---- errors

abbrev pub taken_faults : Start → List Fault
taken_faults s = fault_if s.taken (StartTaken, s.rule.now.span)

-- their actions are numbered from k on
abbrev pub faults_of_starts : ℕ → List Start → List Fault
faults_of_starts k [] = []
faults_of_starts k (s ∷ ss) = taken_faults s ++ action_number_faults k s.rule.now.span ++ faults_of_starts (k + 1) ss

-- ---- rows

abbrev pub entry_of_start : ℕ → Start → EntryData
entry_of_start k s = start_entry_with (start_rule s) (production_of s.name k (start_alternative (start_rule s)))

abbrev pub rows_of_starts : ℕ → List Start → List EntryRow
rows_of_starts k [] = []
rows_of_starts k (s ∷ ss) = (s.name, entry_of_start k s) ∷ rows_of_starts (k + 1) ss
