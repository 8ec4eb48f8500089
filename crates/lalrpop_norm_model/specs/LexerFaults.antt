-- The errors that a lexer may report, and all errors of the pass on tokens, those of the lexer included.
use Rattle.std.specs.Prelude.{◌≡◌, ℕ, ◌||◌, List, ◌∷◌, ◌++◌, map}
use Rattle.std.specs.Prelude.{Option, Some, None, is_none, slice_get, take}
use Rattle.std.specs.Prelude.{if◌then◌else◌}
use Rattle.std.specs.List.{list_any}
use Rattle.lalrpop_norm_tree_names.specs.declared.names.Span.{Span}
use Rattle.lalrpop_norm_tree_names.specs.declared.names.TerminalLiteral.{TerminalLiteral}
use Rattle.lalrpop_norm_tree_names.specs.declared.names.TerminalLiteral.TheVariants.{Regex}
use Rattle.lalrpop_norm_tree_names.specs.declared.names.TerminalString.{TerminalString}
use Rattle.lalrpop_norm_tree_names.specs.declared.names.TerminalString.TheVariants.{Literal}
use Rattle.lalrpop_norm_tree.specs.declared.items.MatchEntry.{MatchEntry}
use Rattle.lalrpop_norm_tree.specs.declared.items.MatchItem.{MatchItem}
use Rattle.lalrpop_norm_tree.specs.Accessors.{or_else, first_of, match_item_span}
use Rattle.lalrpop_norm_tree.specs.Items.{EnumTokenData, GrammarData}
use Rattle.lalrpop_norm_faults.specs.Faults.{Fault, Finding, sure, maybe}
use Rattle.lalrpop_norm_faults.specs.declared.kind.FaultKind.TheVariants.{BadRegex, RegexFeature, Ambiguity}
use Rattle.lalrpop_norm_model.specs.Terminals.{same_literal, same_terminal}
use Rattle.lalrpop_norm_model.specs.Entries.{match_entries, catch_all, user_names, AreEntries}
use Rattle.lalrpop_norm_model.specs.TerminalTypes.{extern_enum}
use Rattle.lalrpop_norm_model.specs.Lexers.{Feature, Lexer, HasFeatureAt, IsAmbiguity}
use Rattle.lalrpop_norm_model.specs.CheckedTokens.{AreRegexes, precedences}
use Rattle.lalrpop_norm_model.specs.TokenFaults.{literals_of, match_items, places_used, checked_enum_faults, entry_faults}
use Rattle.lalrpop_norm_model.specs.TokenFaults.{input_faults}

-- ---- the span of a literal

abbrev pub place_if : TerminalLiteral → TerminalString × Span → Option Span
place_if l p = if same_terminal p.0 (Literal l) then Some p.1 else None

-- the symbol for which the literal has an entry: its first use, where it is no user name and is let in
abbrev pub added_at : GrammarData → TerminalLiteral → Option Span
added_at g l =
    if list_any (same_terminal (Literal l)) (user_names (match_entries g)) || is_none (catch_all g) then None
    else first_of (place_if l) (places_used g)

abbrev pub item_place_if : TerminalLiteral → MatchItem → Option Span
item_place_if l i = if list_any (same_literal l) (literals_of i) then Some (match_item_span i) else None

-- the span of the literal of an entry: at the symbol that added it, else at its match item
abbrev pub literal_at : GrammarData → TerminalLiteral → Option Span
literal_at g l = or_else (added_at g l) (first_of (item_place_if l) (match_items g))

-- ---- the errors that a lexer may report

-- that is the span of the literal of the entry at that index
pub record StandsAt (g : GrammarData) (entries : List MatchEntry) (index : ℕ) (s : Span) : Type 0 where
  pub entry : MatchEntry
  pub at_index : slice_get entries index ≡ Some entry
  pub place : literal_at g entry.match_literal ≡ Some s

-- The literal of the entry at that index is a bad pattern, and each entry before it has a regex.
pub record IsFirstBad {R : Type 0} (l : Lexer R) (entries : List MatchEntry) (index : ℕ) : Type 0 where
  pub entry : MatchEntry
  pub text : List ℕ
  pub at_index : slice_get entries index ≡ Some entry
  pub literal : entry.match_literal ≡ Regex text
  pub bad : l.IsBad text
  pub regexes : List R
  pub before : AreRegexes l (take index entries) regexes

-- the first of the entries, in their order, whose text is no pattern
pub record IsBadAt {R : Type 0} (l : Lexer R) (g : GrammarData) (s : Span) : Type 0 where
  pub entries : List MatchEntry
  pub index : ℕ
  pub all_entries : AreEntries g entries
  pub first : IsFirstBad l entries index
  pub place : StandsAt g entries index s

-- the regex of an entry has a feature that is not supported
pub record HasFeatureThere {R : Type 0} (l : Lexer R) (g : GrammarData) (s : Span) : Type 0 where
  pub entries : List MatchEntry
  pub regexes : List R
  pub index : ℕ
  pub feature : Feature
  pub all_entries : AreEntries g entries
  pub of_entries : AreRegexes l entries regexes
  pub unsupported : HasFeatureAt l regexes index feature
  pub place : StandsAt g entries index s

-- two entries are ambiguous; the span is that of the one named first
pub record IsAmbiguousAt {R : Type 0} (l : Lexer R) (g : GrammarData) (s : Span) : Type 0 where
  pub entries : List MatchEntry
  pub regexes : List R
  pub first : ℕ
  pub second : ℕ
  pub all_entries : AreEntries g entries
  pub of_entries : AreRegexes l entries regexes
  pub ambiguity : IsAmbiguity l regexes (precedences entries) first second
  pub place : StandsAt g entries first s

-- an error of the lexer that holds
pub data LexerRefuses {R : Type 0} (l : Lexer R) (g : GrammarData) : Fault → Type 0 where
  by_text : (s : Span) → IsBadAt l g s → LexerRefuses l g (BadRegex, s)
  by_feature : (s : Span) → HasFeatureThere l g s → LexerRefuses l g (RegexFeature, s)
  by_ambiguity : (s : Span) → IsAmbiguousAt l g s → LexerRefuses l g (Ambiguity, s)

-- ---- what the pass looks for

-- the one point of the search at which a fault that holds may be reported, and may go unreported
pub data LexerPlace : Type 0 where
  at_lexer : LexerPlace

abbrev pub StandsAtLexer : {R : Type 0} → Lexer R → GrammarData → LexerPlace → Fault → Type 0
StandsAtLexer l g at_lexer f = LexerRefuses l g f

abbrev pub token_findings_with : Option EnumTokenData → GrammarData → List (Finding LexerPlace)
token_findings_with (Some e) g = map sure (checked_enum_faults e g)
token_findings_with None g = map sure (entry_faults g) ++ maybe at_lexer ∷ map sure (input_faults g)

-- with internal tokens the lexer is asked once the entries are known, and before what is declared is checked
abbrev pub token_findings : GrammarData → List (Finding LexerPlace)
token_findings g = token_findings_with (extern_enum g) g
