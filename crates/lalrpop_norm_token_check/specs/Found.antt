-- The entries of a grammar as they are found: those that the match block writes, item by item, then those of the literals used.
use Rattle.std.specs.Prelude.{ℕ, Bool, false, not, ◌&&◌, List, []}
use Rattle.std.specs.Prelude.{◌∷◌, ◌++◌, Option, Some, None, is_none, is_some}
use Rattle.std.specs.Prelude.{if◌then◌else◌}
use Rattle.std.specs.BTreeMap.{insert_entry}
use Rattle.std.specs.BTreeSet.{insert_key}
use Rattle.std.specs.List.{list_any}
use Rattle.std.specs.List.Sorted.{IsStrictlySortedBy}
use Rattle.lalrpop_norm_tree_names.specs.declared.names.Span.{Span}
use Rattle.lalrpop_norm_tree_names.specs.declared.names.TerminalLiteral.{TerminalLiteral}
use Rattle.lalrpop_norm_tree_names.specs.declared.names.TerminalString.{TerminalString}
use Rattle.lalrpop_norm_tree_names.specs.declared.names.TerminalString.TheVariants.{Literal, Bare, Error}
use Rattle.lalrpop_norm_tree.specs.declared.items.MatchEntry.{MatchEntry}
use Rattle.lalrpop_norm_tree.specs.declared.items.MatchItem.{MatchItem}
use Rattle.lalrpop_norm_tree.specs.declared.items.MatchItem.TheVariants.{CatchAll, Unmapped, Mapped}
use Rattle.lalrpop_norm_tree.specs.declared.items.MatchMapping.{MatchMapping}
use Rattle.lalrpop_norm_tree.specs.Items.{MatchTokenData}
use Rattle.lalrpop_norm_faults.specs.Faults.{Fault, fault_if}
use Rattle.lalrpop_norm_faults.specs.declared.kind.FaultKind.TheVariants.{LiteralTwice, TerminalTwice, NoMapping}
use Rattle.lalrpop_norm_model.specs.Terminals.{literal_cmp, terminal_cmp}
use Rattle.lalrpop_norm_model.specs.Entries.{precedence_of, entry_in, own_mapping, terminal_named, catch_all_in, entry_cmp}
use Rattle.lalrpop_norm_token_check.specs.declared.token_check.found.Found.{Found}
use Rattle.lalrpop_norm_token_check.specs.Keys.{with_keys, terminal_in, place_by}

-- what is found so far: the entries, the terminals that they name, and the spans of their literals, each in order
pub record FoundData : Type 0 where
  pub entries : List MatchEntry
  pub names : List TerminalString
  pub places : List (TerminalLiteral × Span)

abbrev pub found_view : Found → FoundData
found_view f = record { entries = f.entries.keys; names = f.names.keys; places = f.places.entries }

-- its entries are in their order
abbrev pub IsOrdered : FoundData → Type 0
IsOrdered f = IsStrictlySortedBy entry_cmp f.entries

-- nothing is found yet
abbrev pub none_found : FoundData
none_found = record { entries = []; names = []; places = [] }

-- ---- the match block

-- F38 if the literal has a span, then F39 if the terminal is named
abbrev pub mapped_faults : FoundData → TerminalLiteral → MatchMapping → Span → List Fault
mapped_faults f l m s =
    fault_if (is_some (place_by f.places l)) (LiteralTwice, s)
    ++ fault_if (list_any (terminal_in f.names) (terminal_named m)) (TerminalTwice, s)

abbrev pub with_mapped : ℕ → FoundData → TerminalLiteral → MatchMapping → Span → FoundData
with_mapped precedence f l m s = record {
  entries = insert_key entry_cmp f.entries (entry_in precedence l m);
  names = with_keys terminal_cmp f.names (terminal_named m);
  places = insert_entry literal_cmp f.places l s;
}

abbrev pub found_item_faults : FoundData → MatchItem → List Fault
found_item_faults f (Mapped l m s) = mapped_faults f l m s
found_item_faults f (Unmapped l s) = mapped_faults f l (own_mapping l) s
found_item_faults f (CatchAll s) = []

abbrev pub with_item : ℕ → FoundData → MatchItem → FoundData
with_item precedence f (Mapped l m s) = with_mapped precedence f l m s
with_item precedence f (Unmapped l s) = with_mapped precedence f l (own_mapping l) s
with_item precedence f (CatchAll s) = f

abbrev pub found_items_faults : ℕ → FoundData → List MatchItem → List Fault
found_items_faults precedence f [] = []
found_items_faults precedence f (i ∷ items) =
    found_item_faults f i ++ found_items_faults precedence (with_item precedence f i) items

abbrev pub with_items : ℕ → FoundData → List MatchItem → FoundData
with_items precedence f [] = f
with_items precedence f (i ∷ items) = with_items precedence (with_item precedence f i) items

abbrev pub groups_faults : FoundData → List (List MatchItem) → List Fault
groups_faults f [] = []
groups_faults f (items ∷ groups) =
    found_items_faults (precedence_of (items ∷ groups)) f items
    ++ groups_faults (with_items (precedence_of (items ∷ groups)) f items) groups

abbrev pub with_groups : FoundData → List (List MatchItem) → FoundData
with_groups f [] = f
with_groups f (items ∷ groups) = with_groups (with_items (precedence_of (items ∷ groups)) f items) groups

abbrev pub block_faults : Option MatchTokenData → List Fault
block_faults None = []
block_faults (Some m) = groups_faults none_found m.contents

abbrev pub with_block : Option MatchTokenData → FoundData
with_block None = none_found
with_block (Some m) = with_groups none_found m.contents

-- ---- the terminals used

-- F40 where a terminal is not named, and is no literal that the catch-all lets in; the error terminal needs no entry
abbrev pub lacks_entry : Option ℕ → List TerminalString → TerminalString → Bool
lacks_entry precedence names (Literal l) = not (terminal_in names (Literal l)) && is_none precedence
lacks_entry precedence names (Bare a) = not (terminal_in names (Bare a))
lacks_entry precedence names Error = false

-- a literal that names itself; its span is that of its use
abbrev pub with_added : ℕ → FoundData → TerminalLiteral → Span → FoundData
with_added precedence f l s = record {
  entries = insert_key entry_cmp f.entries (entry_in precedence l (own_mapping l));
  names = insert_key terminal_cmp f.names (Literal l);
  places = insert_entry literal_cmp f.places l s;
}

-- a literal that is not named is added by the catch-all
abbrev pub with_literal : Option ℕ → FoundData → TerminalLiteral → Span → FoundData
with_literal None f l s = f
with_literal (Some precedence) f l s = if terminal_in f.names (Literal l) then f else with_added precedence f l s

abbrev pub with_terminal : Option ℕ → FoundData → TerminalString → Span → FoundData
with_terminal precedence f (Literal l) s = with_literal precedence f l s
with_terminal precedence f (Bare a) s = f
with_terminal precedence f Error s = f

abbrev pub uses_faults : Option ℕ → FoundData → List (TerminalString × Span) → List Fault
uses_faults precedence f [] = []
uses_faults precedence f (u ∷ uses) =
    fault_if (lacks_entry precedence f.names u.0) (NoMapping, u.1)
    ++ uses_faults precedence (with_terminal precedence f u.0 u.1) uses

abbrev pub with_uses : Option ℕ → FoundData → List (TerminalString × Span) → FoundData
with_uses precedence f [] = f
with_uses precedence f (u ∷ uses) = with_uses precedence (with_terminal precedence f u.0 u.1) uses

-- ---- both

-- the faults of the match block and of the terminals used, and what is found of both
abbrev pub found_faults : Option MatchTokenData → List (TerminalString × Span) → List Fault
found_faults b uses = block_faults b ++ uses_faults (catch_all_in b) (with_block b) uses

abbrev pub all_found : Option MatchTokenData → List (TerminalString × Span) → FoundData
all_found b uses = with_uses (catch_all_in b) (with_block b) uses
