-- The entries of a tokenizer: what a match block maps, and the literals that the rules use beside it.
use Rattle.std.specs.Prelude.{◌≡◌, ℕ, ◌+◌, ◌*◌, Bool, true, false, ◌||◌, List, [], ◌∷◌, ◌++◌}
use Rattle.std.specs.Prelude.{length, flat_map, Option, Some, None, ◌↔◌, if◌then◌else◌}
use Rattle.std.specs.declared.cmp.Ordering.{Ordering}
use Rattle.std.specs.declared.cmp.Ordering.TheVariants.{Less, Equal, Greater}
use Rattle.std.specs.Ordering.{nat_cmp, ordering_then}
use Rattle.std.specs.List.Sorted.{IsStrictlySortedBy}
use Rattle.lalrpop_norm_tree_names.specs.declared.names.TerminalLiteral.{TerminalLiteral}
use Rattle.lalrpop_norm_tree_names.specs.declared.names.TerminalString.{TerminalString}
use Rattle.lalrpop_norm_tree_names.specs.declared.names.TerminalString.TheVariants.{Literal}
use Rattle.lalrpop_norm_tree.specs.declared.items.MatchEntry.{MatchEntry}
use Rattle.lalrpop_norm_tree.specs.declared.items.MatchItem.{MatchItem}
use Rattle.lalrpop_norm_tree.specs.declared.items.MatchItem.TheVariants.{CatchAll, Unmapped, Mapped}
use Rattle.lalrpop_norm_tree.specs.declared.items.MatchMapping.{MatchMapping}
use Rattle.lalrpop_norm_tree.specs.declared.items.MatchMapping.TheVariants.{Terminal, Skip}
use Rattle.lalrpop_norm_tree_names.specs.Accessors.{base_precedence}
use Rattle.lalrpop_norm_tree.specs.Accessors.{or_else, first_of, match_token_of}
use Rattle.lalrpop_norm_tree.specs.Items.{MatchTokenData, GrammarData}
use Rattle.lalrpop_norm_theory.specs.Rounds.{In}
use Rattle.lalrpop_norm_model.specs.Terminals.{literal_cmp, terminal_cmp, terminals_used}

-- ---- the match block

abbrev pub match_block : GrammarData → Option MatchTokenData
match_block g = first_of match_token_of g.items

-- Group i of n, from 0, has the precedence n minus i. That is the number of groups from it on, itself included.
abbrev pub precedence_of : List (List MatchItem) → ℕ
precedence_of groups = length groups

-- an entry of a group of that precedence has twice that, and one more where its literal is quoted
abbrev pub entry_in : ℕ → TerminalLiteral → MatchMapping → MatchEntry
entry_in precedence l m = record { precedence = 2 * precedence + base_precedence l; match_literal = l; user_name = m }

-- what a literal is that names itself
abbrev pub own_mapping : TerminalLiteral → MatchMapping
own_mapping l = Terminal (Literal l)

abbrev pub item_entries : ℕ → MatchItem → List MatchEntry
item_entries precedence (Mapped l m s) = entry_in precedence l m ∷ []
item_entries precedence (Unmapped l s) = entry_in precedence l (own_mapping l) ∷ []
item_entries precedence (CatchAll s) = []

abbrev pub group_entries : List (List MatchItem) → List MatchEntry
group_entries [] = []
group_entries (items ∷ groups) = flat_map (item_entries (precedence_of (items ∷ groups))) items ++ group_entries groups

abbrev pub entries_in : Option MatchTokenData → List MatchEntry
entries_in None = []
entries_in (Some m) = group_entries m.contents

-- the entries that the match block writes
abbrev pub match_entries : GrammarData → List MatchEntry
match_entries g = entries_in (match_block g)

-- ---- the catch-all

abbrev pub is_catch_all : MatchItem → Bool
is_catch_all (CatchAll s) = true
is_catch_all (Mapped l m s) = false
is_catch_all (Unmapped l s) = false

abbrev pub has_catch_all : List MatchItem → Bool
has_catch_all [] = false
has_catch_all (i ∷ items) = is_catch_all i || has_catch_all items

-- the precedence of the last group with a catch-all
abbrev pub last_catch_all : List (List MatchItem) → Option ℕ
last_catch_all [] = None
last_catch_all (items ∷ groups) =
    or_else (last_catch_all groups) (if has_catch_all items then Some (precedence_of (items ∷ groups)) else None)

abbrev pub catch_all_in : Option MatchTokenData → Option ℕ
catch_all_in None = Some 0
catch_all_in (Some m) = last_catch_all m.contents

-- the group precedence of the literals that the match block does not write, if it lets them in; without a match block 0
abbrev pub catch_all : GrammarData → Option ℕ
catch_all g = catch_all_in (match_block g)

-- ---- user names

-- the terminal that a mapping names; what is skipped names none
abbrev pub terminal_named : MatchMapping → List TerminalString
terminal_named (Terminal t) = t ∷ []
terminal_named Skip = []

-- the terminals that entries name, in their order
abbrev pub user_names : List MatchEntry → List TerminalString
user_names es = flat_map (λ (e : MatchEntry). terminal_named e.user_name) es

-- ---- all entries

-- What is an entry: one of the match block; and where a literal is used that is no user name there, the one that maps it to
-- itself, with the precedence of the catch-all.
pub data IsEntry (g : GrammarData) : MatchEntry → Type 0 where
  written : (e : MatchEntry) → In e (match_entries g) → IsEntry g e
  added : (l : TerminalLiteral) (precedence : ℕ) → In (Literal l) (terminals_used g) →
      (In (Literal l) (user_names (match_entries g)) → ⊥) →
      catch_all g ≡ Some precedence → IsEntry g (entry_in precedence l (own_mapping l))

-- terminals come before what is skipped
abbrev pub mapping_cmp : MatchMapping → MatchMapping → Ordering
mapping_cmp (Terminal t) (Terminal u) = terminal_cmp t u
mapping_cmp (Terminal t) Skip = Less
mapping_cmp Skip (Terminal u) = Greater
mapping_cmp Skip Skip = Equal

-- the order of entries: by precedence, then by literal, then by user name
abbrev pub entry_cmp : MatchEntry → MatchEntry → Ordering
entry_cmp d e =
    ordering_then (nat_cmp d.precedence e.precedence)
    (ordering_then (literal_cmp d.match_literal e.match_literal) (mapping_cmp d.user_name e.user_name))

-- the entries of a grammar: all of them, each once, in their order
pub record AreEntries (g : GrammarData) (es : List MatchEntry) : Type 0 where
  pub all : (e : MatchEntry) → In e es ↔ IsEntry g e
  pub rising : IsStrictlySortedBy entry_cmp es
