-- What is read and written as a whole, and the lines that report a failed run.
use Rattle.std.specs.Prelude.{◌≤◌, ℕ, ◌==◌, List, [], ◌∷◌, ◌++◌, Option, length, take, codes, decimal, if◌then◌else◌}
use Rattle.std.specs.List.{flat_map}
use Rattle.std.specs.Io.KnownBytes.{Appends, Consumes, IsAtEnd}
use Rattle.lalrpop_norm_tree_names.specs.declared.names.Span.{Span}
use Rattle.lalrpop_norm_faults.specs.declared.kind.FaultKind.{FaultKind}
use Rattle.lalrpop_norm_faults.specs.Faults.{code_of}
use Rattle.lnorm_streams.specs.declared.halt.Program.{Program}
use Rattle.lnorm_streams.specs.declared.halt.Program.TheVariants.{Lnorm, Lexplain}

-- the reader gave these bytes, and has no more
pub record ReadsAll (old new : Option (List ℕ)) (bytes : List ℕ) : Type 0 where
  pub given : Consumes old new bytes
  pub end : IsAtEnd new

-- a beginning of the text was written, and nothing else
abbrev pub WritesFront : Option (List ℕ) → Option (List ℕ) → List ℕ → Type 0
WritesFront old new text = (n : ℕ) × (n ≤ length text) × Appends old new (take n text)

-- what replaces a byte of a message in a line: a line feed and a carriage return would end it
abbrev pub in_line : ℕ → List ℕ
in_line byte = if byte == 10 then codes "\\n" else (if byte == 13 then codes "\\r" else (byte ∷ []))

-- the message as it is written in a line
abbrev pub one_line : List ℕ → List ℕ
one_line message = flat_map in_line message

-- the line of a fault, as `F36 12..20: ` and the message
abbrev pub fault_line : FaultKind → Span → List ℕ → List ℕ
fault_line fault span message =
    code_of fault ++ (codes " " ++ (decimal span.0
    ++ (codes ".." ++ (decimal span.1 ++ (codes ": " ++ (one_line message ++ codes "\n"))))))

-- a span in it, with what comes before the message
abbrev pub span_text : Span → List ℕ
span_text span = (decimal span.0 ++ codes "..") ++ (decimal span.1 ++ codes ": ")

unfoldable pub usage_line : List ℕ
usage_line = codes "lnorm: usage: lnorm [--limit N] [--feature F]... [--origins]\n"

unfoldable pub no_tree_line : List ℕ
no_tree_line = codes "lnorm: not a tree\n"

unfoldable pub memory_line : List ℕ
memory_line = codes "lnorm: out of memory\n"

unfoldable pub stream_line : List ℕ
stream_line = codes "lnorm: input or output failed\n"

-- the lines of `lexplain`
unfoldable pub lexplain_usage_line : List ℕ
lexplain_usage_line = codes "lexplain: usage: lexplain explain|lower|ambiguous GRAMMAR [--limit N] [--feature F]..., or lexplain grammar GRAMMAR [--limit N] [--feature F]... [--origins]\n"

unfoldable pub lexplain_no_tree_line : List ℕ
lexplain_no_tree_line = codes "lexplain: the file is no tree of a grammar\n"

unfoldable pub lexplain_memory_line : List ℕ
lexplain_memory_line = codes "lexplain: out of memory\n"

unfoldable pub lexplain_stream_line : List ℕ
lexplain_stream_line = codes "lexplain: input or output failed\n"

-- the lines of the program that runs
abbrev pub usage_line_of : Program → List ℕ
usage_line_of Lnorm = usage_line
usage_line_of Lexplain = lexplain_usage_line

abbrev pub no_tree_line_of : Program → List ℕ
no_tree_line_of Lnorm = no_tree_line
no_tree_line_of Lexplain = lexplain_no_tree_line

abbrev pub memory_line_of : Program → List ℕ
memory_line_of Lnorm = memory_line
memory_line_of Lexplain = lexplain_memory_line

abbrev pub stream_line_of : Program → List ℕ
stream_line_of Lnorm = stream_line
stream_line_of Lexplain = lexplain_stream_line
