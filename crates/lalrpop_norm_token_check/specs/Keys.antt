-- The keys of sets and the rows of maps as the code's tables have them: in order, each once.
use Rattle.std.specs.Prelude.{Bool, List, [], ◌∷◌, Option}
use Rattle.std.specs.declared.cmp.Ordering.{Ordering}
use Rattle.std.specs.BTreeMap.{is_at}
use Rattle.std.specs.BTreeSet.{insert_key}
use Rattle.std.specs.List.{list_any}
use Rattle.std.specs.Map.{lookup}
use Rattle.lalrpop_norm_tree_names.specs.declared.names.Span.{Span}
use Rattle.lalrpop_norm_tree_names.specs.declared.names.TerminalLiteral.{TerminalLiteral}
use Rattle.lalrpop_norm_tree_names.specs.declared.names.TerminalString.{TerminalString}
use Rattle.lalrpop_norm_model.specs.Terminals.{literal_cmp, terminal_cmp}

-- whether a key is equal to one of the list
abbrev pub is_among_keys : {K : Type 0} → (K → K → Ordering) → List K → K → Bool
is_among_keys cmp keys k = list_any (is_at (cmp k)) keys

-- the keys, and one after the other those of a list
abbrev pub with_keys : {K : Type 0} → (K → K → Ordering) → List K → List K → List K
with_keys cmp keys [] = keys
with_keys cmp keys (k ∷ ks) = with_keys cmp (insert_key cmp keys k) ks

-- whether a set of terminals with these keys has it
abbrev pub terminal_in : List TerminalString → TerminalString → Bool
terminal_in keys t = is_among_keys terminal_cmp keys t

-- the span of a literal by a map with these rows, if it has a row
abbrev pub place_by : List (TerminalLiteral × Span) → TerminalLiteral → Option Span
place_by places l = lookup (is_at (literal_cmp l)) places
