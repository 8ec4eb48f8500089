-- What the halt of an answer says of a run.
use Rattle.std.proofs.Common.{ℕ, List, Option}
use Rattle.std.specs.Io.KnownBytes.{Keeps}
use Rattle.lalrpop_norm_faults.specs.declared.failure.NormFailure.TheVariants.{Refused, Memory as no_room}
use Rattle.lalrpop_norm_tree.specs.Items.{GrammarData}
use Rattle.lnorm_run.specs.Answers.{IsFormOf}
use Rattle.lnorm_run.specs.Settings.{Settings}
use Rattle.lnorm_run.specs.Runs.{TakesInput}
use Rattle.lnorm_run.specs.declared.printing.Form.{Form}
use Rattle.lnorm_run.specs.Halts.{Explains, Halts, Tells}
use Rattle.lnorm_streams.specs.declared.halt.Halt.{Halt}
use Rattle.lnorm_streams.specs.declared.halt.Halt.TheVariants.{Usage, NotATree, Failed, Input, Output}

-- where the arguments and the whole input were taken, and nothing was written
pub halts_explained : (form : Form) (h : Halt) (words : List (List ℕ)) (s : Settings) (bytes : List ℕ) (in_old in_new out_old out_new : Option (List ℕ))
    → TakesInput words in_old in_new s bytes → Keeps out_old out_new → Explains s bytes h → Halts form h words in_old in_new out_old out_new
halts_explained form Usage words s bytes in_old in_new out_old out_new t k e = absurd e
halts_explained form NotATree words s bytes in_old in_new out_old out_new t k e = (record { settings = s; bytes = bytes; takes = t; no_tree = e }, k)
halts_explained form (Failed (Refused x)) words s bytes in_old in_new out_old out_new t k e = (record { settings = s; bytes = bytes; takes = t; stands = e }, k)
halts_explained form (Failed no_room) words s bytes in_old in_new out_old out_new t k e = k
halts_explained form Input words s bytes in_old in_new out_old out_new t k e = absurd e
halts_explained form Output words s bytes in_old in_new out_old out_new t k e = absurd e

-- where the passes rejected the tree that the input is
pub told_explained : (s : Settings) (bytes : List ℕ) (tree : GrammarData) (h : Halt) → IsFormOf tree bytes → Tells s tree h → Explains s bytes h
told_explained s bytes tree Usage form t = absurd t
told_explained s bytes tree NotATree form t = absurd t
told_explained s bytes tree (Failed (Refused x)) form t = record { tree = tree; form = form; stands = t }
told_explained s bytes tree (Failed no_room) form t = tt
told_explained s bytes tree Input form t = absurd t
told_explained s bytes tree Output form t = absurd t
