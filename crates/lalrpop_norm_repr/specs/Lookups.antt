-- What is looked up in a lowered grammar.
use Rattle.std.specs.Prelude.{ℕ, Bool, true, false, List, [], ◌++◌, Option, option_map, unwrap_or, codes}
use Rattle.std.specs.List.{flat_map, slice_get}
use Rattle.lalrpop_norm_tree_names.specs.declared.names.NonterminalString.{NonterminalString}
use Rattle.lalrpop_norm_tree_names.specs.declared.names.TerminalString.{TerminalString}
use Rattle.lalrpop_norm_tree_names.specs.declared.names.TypeParameter.{TypeParameter}
use Rattle.lalrpop_norm_tree_names.specs.declared.names.TypeParameter.TheVariants.{Lifetime, Id}
use Rattle.lalrpop_norm_tree_patterns.specs.Patterns.{PatternData}
use Rattle.lalrpop_norm_tree_parts.specs.Reprs.{ReprData}
use Rattle.lalrpop_norm_repr.specs.declared.action.ActionFn.{ActionFn}
use Rattle.lalrpop_norm_repr.specs.Actions.{ActionData, action_index}
use Rattle.lalrpop_norm_repr.specs.Lowered.{LoweredGrammar, LoweredParameter}
use Rattle.lalrpop_norm_repr.specs.Productions.{ProductionData}
use Rattle.lalrpop_norm_repr.specs.Tables.{found, found_terminal}

-- the pattern of the terminal's tokens
abbrev pub pattern_of : TerminalString → LoweredGrammar → Option (PatternData ReprData)
pattern_of terminal g = found_terminal terminal g.conversions

-- the productions of the name, none if the grammar does not have it
abbrev pub productions_of : NonterminalString → LoweredGrammar → List ProductionData
productions_of name g = unwrap_or (option_map (λ n. n.productions) (found name g.nonterminals)) []

-- the action of that number
abbrev pub action_of : ActionFn → LoweredGrammar → Option ActionData
action_of a g = slice_get g.actions (action_index a)

-- each name, with `, ` after it
abbrev pub parameter_refs : List LoweredParameter → List ℕ
parameter_refs ps = flat_map (λ p. p.name ++ codes ", ") ps

abbrev pub is_type_name : TypeParameter → Bool
is_type_name (Lifetime l) = false
is_type_name (Id a) = true
