-- The parts of a fault's line, as they are written.
use Rattle.std.proofs.Common.{◌≡◌, ℕ, List, ◌++◌, codes, decimal, ap, ◌∙◌, append_assoc}
use Rattle.lalrpop_norm_tree_names.specs.declared.names.Span.{Span}
use Rattle.lalrpop_norm_faults.specs.declared.kind.FaultKind.{FaultKind}
use Rattle.lalrpop_norm_faults.specs.Faults.{code_of}
use Rattle.lnorm_streams.specs.Streams.{fault_line, one_line, span_text}

in_a_row : (c s a d b e m : List ℕ) → ((c ++ s) ++ ((a ++ d) ++ (b ++ e))) ++ m ≡ c ++ (s ++ (a ++ (d ++ (b ++ (e ++ m)))))
in_a_row c s a d b e m =
    append_assoc (c ++ s) ((a ++ d) ++ (b ++ e)) m
    ∙ append_assoc c s (((a ++ d) ++ (b ++ e)) ++ m)
    ∙ ap (λ l. c ++ (s ++ l)) (append_assoc (a ++ d) (b ++ e) m ∙ append_assoc a d ((b ++ e) ++ m) ∙ ap (λ l. a ++ (d ++ l)) (append_assoc b e m))

pub line_parts : (fault : FaultKind) (span : Span) (message : List ℕ)
    → ((code_of fault ++ codes " ") ++ span_text span) ++ (one_line message ++ codes "\n") ≡ fault_line fault span message
line_parts fault span message = in_a_row (code_of fault) (codes " ") (decimal span.0) (codes "..") (decimal span.1) (codes ": ") (one_line message ++ codes "\n")
