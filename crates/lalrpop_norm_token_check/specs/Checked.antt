-- What is found of a grammar without an extern enum, and what it gets.
use Rattle.std.specs.Prelude.{◌≡◌, List, Option, Some, None, IsSome}
use Rattle.lalrpop_norm_tree_names.specs.declared.names.Span.{Span}
use Rattle.lalrpop_norm_tree_names.specs.declared.names.TerminalLiteral.{TerminalLiteral}
use Rattle.lalrpop_norm_tree.specs.declared.items.MatchEntry.{MatchEntry}
use Rattle.lalrpop_norm_tree.specs.Items.{EnumTokenData, InternTokenData, GrammarData}
use Rattle.lalrpop_norm_theory.specs.Rounds.{In}
use Rattle.lalrpop_norm_faults.specs.declared.failure.NormFailure.{NormFailure}
use Rattle.lalrpop_norm_faults.specs.declared.failure.NormFailure.TheVariants.{Refused, Memory}
use Rattle.lalrpop_norm_model.specs.Entries.{AreEntries}
use Rattle.lalrpop_norm_model.specs.Lexers.{Lexer}
use Rattle.lalrpop_norm_model.specs.CheckedTokens.{HasAutomaton}
use Rattle.lalrpop_norm_model.specs.LexerFaults.{literal_at, LexerRefuses}
use Rattle.lalrpop_norm_token_check.specs.Keys.{place_by}

-- each entry's literal has a row
abbrev pub ArePlaced : List (TerminalLiteral × Span) → List MatchEntry → Type 0
ArePlaced places entries = (e : MatchEntry) → In e entries → IsSome (place_by places e.match_literal)

-- the rows have the spans of the grammar's literals
abbrev pub ArePlacesOf : GrammarData → List (TerminalLiteral × Span) → Type 0
ArePlacesOf g places = (l : TerminalLiteral) → place_by places l ≡ literal_at g l

-- the entries of a grammar, and the spans of their literals
pub record HasFound (g : GrammarData) (entries : List MatchEntry) (places : List (TerminalLiteral × Span)) : Type 0 where
  pub entries_all : AreEntries g entries
  pub placed : ArePlaced places entries
  pub where_they_stand : ArePlacesOf g places

-- the failure is an error of the lexer that is true, or a failed allocation
abbrev pub IsLexerRefusal : {R : Type 0} → Lexer R → GrammarData → NormFailure → Type 0
IsLexerRefusal l g (Refused e) = LexerRefuses l g (e.fault, e.span)
IsLexerRefusal l g Memory = Unit {0}

-- internal tokens hold the entries, with an automaton that is built
pub record AreTokensOf {R : Type 0} (l : Lexer R) (g : GrammarData) (t : InternTokenData) : Type 0 where
  pub entries : AreEntries g t.match_entries
  pub automaton : HasAutomaton l t

-- what a grammar gets: nothing beside an extern enum, else internal tokens
abbrev pub GetsTokens : {R : Type 0} → Option EnumTokenData → Lexer R → GrammarData → Option InternTokenData → Type 0
GetsTokens (Some e) l g t = t ≡ None
GetsTokens None l g t = (x : InternTokenData) × (t ≡ Some x) × AreTokensOf l g x
