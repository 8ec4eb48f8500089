-- What is read of the literals of entries.
use Rattle.std.specs.Prelude.{ℕ, List, Option, Some, None, Result, Ok, Err}
use Rattle.lalrpop_norm_tree_names.specs.declared.names.TerminalLiteral.{TerminalLiteral}
use Rattle.lalrpop_norm_tree_names.specs.declared.names.TerminalLiteral.TheVariants.{Quoted, Regex}
use Rattle.lalrpop_norm_lexer.specs.declared.reading.ReadError.{ReadError}
use Rattle.lalrpop_norm_lexer.specs.declared.reading.ReadError.TheVariants.{Bad, Memory}
use Rattle.lalrpop_norm_model.specs.Lexers.{Lexer, Read, KeepsLiteral, KeepsPattern}

-- a literal is read as its kind says
abbrev pub KeepsReading : {R : Type 0} → Lexer R → TerminalLiteral → Read R → Type 0
KeepsReading l (Quoted text) answer = KeepsLiteral l text answer
KeepsReading l (Regex text) answer = KeepsPattern l text answer

-- the index at which reading was rejected
abbrev pub refused_at : {T : Type 0} → Result T ReadError → Option ℕ
refused_at (Ok x) = None
refused_at (Err (Bad index message)) = Some index
refused_at (Err Memory) = None

-- no bad text has a regex
abbrev pub TellsApart : {R : Type 0} → Lexer R → Type 0
TellsApart {R} l = (text : List ℕ) (r : R) → l.IsBad text → l.IsRegexOf (Regex text) r → ⊥
