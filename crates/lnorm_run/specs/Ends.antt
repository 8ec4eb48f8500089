-- How a run ends that writes no text.
use Rattle.std.specs.Prelude.{◌≡◌, ◌⊎◌, ℕ, List, Option, None}
use Rattle.std.specs.Io.KnownBytes.{Keeps}
use Rattle.lalrpop_norm_tree_names.specs.declared.names.Span.{Span}
use Rattle.lalrpop_norm_faults.specs.declared.kind.FaultKind.{FaultKind}
use Rattle.lnorm_streams.specs.Streams.{WritesFront, fault_line, no_tree_line_of, usage_line_of}
use Rattle.lnorm_streams.specs.declared.halt.Program.{Program}
use Rattle.lnorm_run.specs.Runs.{IsNoTree, IsRefused}
use Rattle.lnorm_run.specs.Settings.{settings_of}

-- at the first fault of the tree that the whole input is: its line, or a beginning of it, was written
abbrev pub EndsAtFault : List (List ℕ) → Option (List ℕ) → Option (List ℕ) → Option (List ℕ) → Option (List ℕ) → Type 0
EndsAtFault words in_old in_new faults_old faults_new =
    (fault : FaultKind) × (span : Span) × (message : List ℕ) × IsRefused words in_old in_new fault span
    × WritesFront faults_old faults_new (fault_line fault span message)

-- The arguments are rejected before any read, or the whole input is no tree: the program's line for it, or a beginning of it, was
-- written.
abbrev pub EndsWithoutTree : Program → List (List ℕ) → Option (List ℕ) → Option (List ℕ) → Option (List ℕ) → Option (List ℕ) → Type 0
EndsWithoutTree program words in_old in_new faults_old faults_new =
    ((settings_of words ≡ None) × Keeps in_old in_new × WritesFront faults_old faults_new (usage_line_of program))
    ⊎ (IsNoTree words in_old in_new × WritesFront faults_old faults_new (no_tree_line_of program))
