-- The faults of an alternative, in visiting order: its symbols, its attributes, its code.
use Rattle.std.specs.Prelude.{ℕ, List, [], ◌∷◌, ◌++◌, Option, Some, None, option_map}
use Rattle.lalrpop_norm_tree_names.specs.declared.names.Span.{Span}
use Rattle.lalrpop_norm_tree.specs.Accessors.{or_else, binding_of}
use Rattle.lalrpop_norm_tree.specs.Items.{Action, user_code, fallible_code, lookahead_code, lookbehind_code, AlternativeData}
use Rattle.lalrpop_norm_tree.specs.Symbols.{Kind, at, Parts, no_parts, part_and}
use Rattle.lalrpop_norm_faults.specs.declared.kind.FaultKind.TheVariants.{NamedWithoutAction}
use Rattle.lalrpop_norm_faults.specs.declared.kind.FaultKind.TheVariants.{AnonymousInBraces, WrittenLookaround}
use Rattle.lalrpop_norm_faults.specs.Faults.{Fault, fault_if}
use Rattle.lalrpop_norm_prevalidate.specs.declared.prevalidate.Surroundings.{Surroundings}
use Rattle.lalrpop_norm_common.specs.Braces.{presence, is_in_braces}
use Rattle.lalrpop_norm_prevalidate_attributes.specs.AttributeFaults.{alternative_attributes_faults}
use Rattle.lalrpop_norm_prevalidate.specs.SymbolFaults.{list_faults}
use Rattle.lalrpop_norm_model.specs.MadeRules.{span_of}

abbrev pub place_inside : Kind → Option Span
place_inside k = option_map (λ b. span_of b.1) (binding_of k)

abbrev pub first_inside : Parts → Option Span
first_inside no_parts = None
first_inside (part_and (at s k) ps) = or_else (place_inside k) (first_inside ps)

-- F14: a value with a name, and no action code
abbrev pub lacking_faults : Option Span → List Fault
lacking_faults None = []
lacking_faults (Some s) = (NamedWithoutAction, s) ∷ []

-- F15
abbrev pub between_braces_faults : Span → Option Span → List ℕ → List Fault
between_braces_faults s (Some inside) code = []
between_braces_faults s None code = fault_if (is_in_braces (presence code)) (AnonymousInBraces, s)

-- F24, else F14 or F15
abbrev pub action_faults : Span → Option Span → Option Action → List Fault
action_faults s inside None = lacking_faults inside
action_faults s inside (Some (user_code code)) = between_braces_faults s inside code
action_faults s inside (Some (fallible_code code)) = between_braces_faults s inside code
action_faults s inside (Some lookahead_code) = (WrittenLookaround, s) ∷ []
action_faults s inside (Some lookbehind_code) = (WrittenLookaround, s) ∷ []

unfoldable pub alternative_faults : Surroundings → AlternativeData → List Fault
alternative_faults c a =
    list_faults c a.parts ++ (alternative_attributes_faults a.attributes ++ action_faults a.span (first_inside a.parts) a.action)
