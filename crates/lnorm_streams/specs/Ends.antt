-- How a run over streams ends.
use Rattle.std.specs.Prelude.{◌⊎◌, ℕ, List, Option}
use Rattle.std.specs.Io.KnownBytes.{Appends, Keeps}
use Rattle.lnorm_streams.specs.Streams.{WritesFront}

-- well: the whole of a right text was written, and no line of an error
abbrev pub EndsWell : (List ℕ → Type 0) → Option (List ℕ) → Option (List ℕ) → Option (List ℕ) → Option (List ℕ) → Type 0
EndsWell IsRight out_old out_new faults_old faults_new =
    (text : List ℕ) × IsRight text × Appends out_old out_new text × Keeps faults_old faults_new

-- At a stream that failed: the line that says so, or a beginning of it, was written; and nothing else, or a beginning of a right
-- text.
abbrev pub EndsAtStream : (List ℕ → Type 0) → List ℕ → Option (List ℕ) → Option (List ℕ) → Option (List ℕ) →
    Option (List ℕ) → Type 0
EndsAtStream IsRight line out_old out_new faults_old faults_new =
    WritesFront faults_old faults_new line
    × (Keeps out_old out_new ⊎ ((text : List ℕ) × IsRight text × WritesFront out_old out_new text))
