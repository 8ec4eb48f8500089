-- How a halt is reported: its exit status and its line.
use Rattle.std.specs.Prelude.{ℕ, List, Option, string_bytes}
use Rattle.lalrpop_norm_faults.specs.declared.failure.NormFailure.TheVariants.{Refused, Memory as no_room}
use Rattle.lnorm_streams.specs.Streams.{WritesFront, fault_line, usage_line_of, no_tree_line_of, memory_line_of, stream_line_of}
use Rattle.lnorm_streams.specs.declared.halt.Program.{Program}
use Rattle.lnorm_streams.specs.declared.halt.Halt.{Halt}
use Rattle.lnorm_streams.specs.declared.halt.Halt.TheVariants.{Usage, NotATree, Failed, Input, Output}

abbrev pub status_of : Halt → ℕ
status_of Usage = 2
status_of NotATree = 2
status_of (Failed (Refused e)) = 1
status_of (Failed no_room) = 3
status_of Input = 4
status_of Output = 4

-- the line of the halt of that program, or a beginning of it, was written
abbrev pub LineOf : Program → Halt → Option (List ℕ) → Option (List ℕ) → Type 0
LineOf p Usage old new = WritesFront old new (usage_line_of p)
LineOf p NotATree old new = WritesFront old new (no_tree_line_of p)
LineOf p (Failed (Refused e)) old new = WritesFront old new (fault_line e.fault e.span (string_bytes e.message))
LineOf p (Failed no_room) old new = WritesFront old new (memory_line_of p)
LineOf p Input old new = WritesFront old new (stream_line_of p)
LineOf p Output old new = WritesFront old new (stream_line_of p)
