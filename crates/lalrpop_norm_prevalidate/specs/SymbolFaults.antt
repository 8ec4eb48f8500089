-- The faults of symbols, in visiting order.
use Rattle.std.specs.Prelude.{ℕ, Bool, true, false, List, [], ◌∷◌, ◌++◌, Option, Some, None, bytes_eq, is_some}
use Rattle.std.specs.Prelude.{option_and_then, option_map, option_to_list, if◌then◌else◌}
use Rattle.std.specs.Ordering.{is_lt, nat_cmp}
use Rattle.std.specs.Cmp.Lexicographic.{slice_cmp}
use Rattle.lalrpop_norm_tree_names.specs.declared.names.Span.{Span}
use Rattle.lalrpop_norm_tree_names.specs.declared.names.TerminalString.{TerminalString}
use Rattle.lalrpop_norm_tree_names.specs.declared.names.TerminalString.TheVariants.{Literal, Bare, Error}
use Rattle.lalrpop_norm_tree.specs.Accessors.{binding_of}
use Rattle.lalrpop_norm_tree.specs.Symbols.{ArgumentPattern, one_name, several}
use Rattle.lalrpop_norm_tree.specs.Symbols.{Kind, group, terminal, call, lookahead, lookbehind, error_terminal}
use Rattle.lalrpop_norm_tree.specs.Symbols.{Part, at, Parts, no_parts, part_and}
use Rattle.lalrpop_norm_tree.specs.Traversal.{fold_kind, fold_part, fold_parts}
use Rattle.lalrpop_norm_faults.specs.declared.kind.FaultKind.TheVariants.{ErrorWithAscent, MacroWithoutArguments, NoLocation}
use Rattle.lalrpop_norm_faults.specs.declared.kind.FaultKind.TheVariants.{WrittenErrorTerminal, ChosenWithNamed, NameTwice}
use Rattle.lalrpop_norm_prevalidate.specs.declared.prevalidate.Surroundings.{Surroundings}
use Rattle.lalrpop_norm_faults.specs.Faults.{Fault, fault_if}
use Rattle.lalrpop_norm_common.specs.Values.{is_chosen_kind}

-- a call without arguments
unfoldable pub call_faults : Span → Parts → List Fault
call_faults s no_parts = (MacroWithoutArguments, s) ∷ []
call_faults s (part_and p ps) = []

unfoldable pub terminal_faults : Span → TerminalString → List Fault
terminal_faults s (Literal l) = []
terminal_faults s (Bare n) = []
terminal_faults s Error = (WrittenErrorTerminal, s) ∷ []

abbrev pub name_in : ArgumentPattern → Option (List ℕ)
name_in (one_name n) = Some n.name
name_in (several ns) = None

abbrev pub name_of : Kind → Option (List ℕ)
name_of k = option_and_then (λ b. name_in b.0) (binding_of k)

-- the first selected symbol
abbrev pub first_chosen : Parts → Option Span
first_chosen no_parts = None
first_chosen (part_and (at s k) ps) = if is_chosen_kind k then Some s else first_chosen ps

abbrev pub has_named : Parts → Bool
has_named no_parts = false
has_named (part_and (at s k) ps) = if is_some (name_of k) then true else has_named ps

abbrev pub is_that_name : List ℕ → Option (List ℕ) → Bool
is_that_name name None = false
is_that_name name (Some n) = bytes_eq name n

-- the first symbol of that name
abbrev pub named_at : List ℕ → Parts → Option Span
named_at name no_parts = None
named_at name (part_and (at s k) ps) = if is_that_name name (name_of k) then Some s else named_at name ps

-- the second symbol of that name
abbrev pub second_at : List ℕ → Parts → Option Span
second_at name no_parts = None
second_at name (part_and (at s k) ps) = if is_that_name name (name_of k) then named_at name ps else second_at name ps

-- a name with its span, if there is one
abbrev pub placed : (List ℕ → Option Span) → Option (List ℕ) → Option (List ℕ × Span)
placed place None = None
placed place (Some n) = option_map (λ s. (n, s)) (place n)

-- a name with the span of the second symbol of that name, if there is one
abbrev pub again : Option (List ℕ) → Parts → Option (List ℕ × Span)
again name ps = placed (λ n. named_at n ps) name

-- of two repeated names the lesser, and of one name the earlier span
abbrev pub lesser_name : Option (List ℕ × Span) → Option (List ℕ × Span) → Option (List ℕ × Span)
lesser_name None r = r
lesser_name (Some n) None = Some n
lesser_name (Some n) (Some r) = if is_lt (slice_cmp nat_cmp r.0 n.0) then Some r else Some n

-- the names that symbols have, in the order of the symbols
abbrev pub symbol_names : Parts → List (List ℕ)
symbol_names no_parts = []
symbol_names (part_and (at s k) ps) = option_to_list (name_of k) ++ symbol_names ps

-- the first name that the next one equals
abbrev pub first_repeated : List (List ℕ) → Option (List ℕ)
first_repeated [] = None
first_repeated (n ∷ []) = None
first_repeated (n ∷ m ∷ ns) = if bytes_eq n m then Some m else first_repeated (m ∷ ns)

-- the least name that two symbols have, with the span of the second of them
abbrev pub least_twice : Parts → Option (List ℕ × Span)
least_twice no_parts = None
least_twice (part_and (at s k) ps) = lesser_name (again (name_of k) ps) (least_twice ps)

abbrev pub mixed_faults : Option Span → Bool → List Fault
mixed_faults (Some s) true = (ChosenWithNamed, s) ∷ []
mixed_faults (Some s) false = []
mixed_faults None b = []

abbrev pub repeated_name_faults : Option (List ℕ × Span) → List Fault
repeated_name_faults None = []
repeated_name_faults (Some n) = (NameTwice, n.1) ∷ []

-- the faults of a list of symbols beside those of the symbols
abbrev pub beside_faults : Parts → List Fault
beside_faults ps = mixed_faults (first_chosen ps) (has_named ps) ++ repeated_name_faults (least_twice ps)

-- the faults of a symbol itself, with those of what is inside of it
abbrev pub own_faults : Surroundings → Span → Kind → List Fault → List Fault
own_faults c s (group ps) inside = inside ++ beside_faults ps
own_faults c s (terminal t) inside = terminal_faults s t
own_faults c s (call m ps) inside = call_faults s ps ++ inside
own_faults c s lookahead inside = fault_if c.lacks_location (NoLocation, s)
own_faults c s lookbehind inside = fault_if c.lacks_location (NoLocation, s)
own_faults c s error_terminal inside = fault_if c.has_ascent (ErrorWithAscent, s)
own_faults c s _ inside = inside

abbrev pub kind_faults : Surroundings → Span → Kind → List Fault
kind_faults c = fold_kind (own_faults c) [] (λ xs ys. xs ++ ys)

abbrev pub part_faults : Surroundings → Part → List Fault
part_faults c = fold_part (own_faults c) [] (λ xs ys. xs ++ ys)

abbrev pub parts_faults : Surroundings → Parts → List Fault
parts_faults c = fold_parts (own_faults c) [] (λ xs ys. xs ++ ys)

-- the symbols of one alternative or group
abbrev pub list_faults : Surroundings → Parts → List Fault
list_faults c ps = parts_faults c ps ++ beside_faults ps
