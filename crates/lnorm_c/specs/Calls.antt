-- What a call asks for, and what its answers say of the bytes that are its arguments.
use Rattle.std.specs.Prelude.{◌≡◌, ◌≤◌, ℕ, List, Some, false, codes, length, take, IsUtf8}
use Rattle.lalrpop_norm_tree_names.specs.declared.names.Span.{Span}
use Rattle.lalrpop_norm_faults.specs.declared.kind.FaultKind.{FaultKind}
use Rattle.lnorm_run.specs.Settings.{Settings, settings_of}
use Rattle.lnorm_run.specs.Answers.{IsTree, IsAnswerIn, IsFirstFault}
use Rattle.lnorm_run.specs.declared.printing.Form.{Form}
use Rattle.lnorm_run.specs.declared.printing.Form.TheVariants.{Lines, Json}
use Rattle.lexplain_run.specs.Answers.{IsTranslationOver}
use Rattle.lexplain_run.specs.Runs.{StopsOverBytes}
use Rattle.lexplain_run.specs.Stops.{stop_status, stop_line}
use Rattle.lexplain_run.specs.declared.answer.Stop.{Stop}
use Rattle.lexplain_run.specs.declared.words.Way.{Way}
use Rattle.lexplain_run.specs.declared.words.Way.TheVariants.{Explain, Ambiguous}
use Rattle.lnorm_c.specs.Words.{AreWords}

-- the arguments in the text ask for these settings
pub record AsksFor (words : List ℕ) (s : Settings) : Type 0 where
  pub list : List (List ℕ)
  pub stand : AreWords words list
  pub are : settings_of list ≡ Some s

-- they ask for none
abbrev pub AsksForNothing : List ℕ → Type 0
AsksForNothing words = (s : Settings) → AsksFor words s → ⊥

-- the text is right for the arguments and the input
pub record IsPrintedFor (form : Form) (words input text : List ℕ) : Type 0 where
  pub settings : Settings
  pub asked : AsksFor words settings
  pub right : IsAnswerIn form settings input text

-- the text is the right lines
abbrev pub IsRightFor : List ℕ → List ℕ → List ℕ → Type 0
IsRightFor = IsPrintedFor Lines

-- the text is the right JSON of a whole lowered grammar
abbrev pub IsWholeFor : List ℕ → List ℕ → List ℕ → Type 0
IsWholeFor = IsPrintedFor Json

-- the fault with that span may be reported of the tree that the input is
pub record IsRefusedFor (words input : List ℕ) (fault : FaultKind) (span : Span) : Type 0 where
  pub settings : Settings
  pub asked : AsksFor words settings
  pub stands : IsFirstFault settings input fault span

-- the arguments ask for settings, and the input is no tree
pub record IsNoTreeFor (words input : List ℕ) : Type 0 where
  pub settings : Settings
  pub asked : AsksFor words settings
  pub no_tree : IsTree input → ⊥

-- a beginning of the text
abbrev pub IsFront : List ℕ → List ℕ → Type 0
IsFront front text = (n : ℕ) × (n ≤ length text) × (front ≡ take n text)

-- the arguments ask a call over trees for these settings: origins are none of its options
pub record AsksForTrees (words : List ℕ) (s : Settings) : Type 0 where
  pub asked : AsksFor words s
  pub plain : s.origins ≡ false

-- they ask it for none
abbrev pub AsksForNoTrees : List ℕ → Type 0
AsksForNoTrees words = (s : Settings) → AsksForTrees words s → ⊥

-- the line that says so
unfoldable pub words_line : List ℕ
words_line = codes "lexplain: words: [--limit N] [--feature F]...\n"

-- The text is right for the derivation tree, or the two, whose lines these are, in the grammar whose form the bytes are. The lines
-- are UTF-8.
pub record IsTranslatedFor (way : Way) (words grammar lines text : List ℕ) : Type 0 where
  pub settings : Settings
  pub asked : AsksForTrees words settings
  pub utf8 : IsUtf8 lines
  pub right : IsTranslationOver way settings.features grammar lines text

-- it is the lines of the written tree that corresponds to the derivation tree
abbrev pub IsExplainedFor : List ℕ → List ℕ → List ℕ → List ℕ → Type 0
IsExplainedFor = IsTranslatedFor Explain

-- it is the lines of two written trees that show the grammar ambiguous, and the line of the path to where they differ
abbrev pub IsShownAmbiguousFor : List ℕ → List ℕ → List ℕ → List ℕ → Type 0
IsShownAmbiguousFor = IsTranslatedFor Ambiguous

-- The exit status and the line are those of a stop, and what it says of the bytes is so.
pub record IsStoppedFor (way : Way) (words grammar lines : List ℕ) (status : ℕ) (line : List ℕ) : Type 0 where
  pub settings : Settings
  pub asked : AsksForTrees words settings
  pub stop : Stop
  pub stops : StopsOverBytes way settings grammar lines stop
  pub status_is : status ≡ stop_status stop
  pub line_is : line ≡ stop_line stop
