-- What a run over streams reads, and why it ends without a text.
use Rattle.std.specs.Prelude.{◌≡◌, ℕ, List, Option, IsUtf8, ◌⊎◌}
use Rattle.lalrpop_norm_tree.specs.Items.{GrammarData}
use Rattle.lalrpop_norm_common.specs.Sessions.{features_view}
use Rattle.lnorm_run.specs.Answers.{IsFormOf}
use Rattle.lnorm_run.specs.Settings.{Settings}
use Rattle.lnorm_streams.specs.Streams.{ReadsAll, WritesFront}
use Rattle.lexplain_run.specs.Answers.{IsTranslationOver}
use Rattle.lexplain_run.specs.Refusals.{AreNoLines, StopsOver}
use Rattle.lexplain_run.specs.Stops.{stop_line, stop_status}
use Rattle.lexplain_run.specs.Words.{settings_asked}
use Rattle.lexplain_run.specs.declared.answer.Stop.{Stop}
use Rattle.lexplain_run.specs.declared.answer.Stop.TheVariants.{NotAGrammar, NotATree}
use Rattle.lexplain_run.specs.declared.run.Failure.{Failure}
use Rattle.lexplain_run.specs.declared.run.Failure.TheVariants.{Input, Stopped}
use Rattle.lexplain_run.specs.declared.words.Way.{Way}
use Rattle.lexplain_run.specs.declared.words.Asked.{Asked}

-- the whole of two inputs was read: the grammar's is these bytes, and that of the lines is those
pub record ReadsBoth (grammar_old grammar_new lines_old lines_new : Option (List ℕ)) (bytes lines : List ℕ) : Type 0 where
  pub whole_grammar : ReadsAll grammar_old grammar_new bytes
  pub whole_lines : ReadsAll lines_old lines_new lines

-- both were read whole, and the text is right for what is asked for, and for them
pub record IsTranslated (asked : Asked) (grammar_old grammar_new lines_old lines_new : Option (List ℕ)) (text : List ℕ) : Type 0 where
  pub bytes : List ℕ
  pub lines : List ℕ
  pub reads : ReadsBoth grammar_old grammar_new lines_old lines_new bytes lines
  pub utf8 : IsUtf8 lines
  pub right : IsTranslationOver asked.way (features_view asked.session.features) bytes lines text

-- What a stop says of bytes that are to be the form of a grammar, and of bytes that are to be lines in UTF-8: the first are the form
-- of none; or they are that of one, and the second are not UTF-8, or the lines of no tree, or no two; or both are what they are to
-- be, and it is a fault of the grammar that may be reported, or of the trees in it. A failed allocation says nothing.
abbrev pub StopsOverBytes : Way → Settings → List ℕ → List ℕ → Stop → Type 0
StopsOverBytes way s bytes lines NotAGrammar = (g : GrammarData) → IsFormOf g bytes → ⊥
StopsOverBytes way s bytes lines NotATree = (g : GrammarData) × IsFormOf g bytes × (IsUtf8 lines → AreNoLines way lines)
StopsOverBytes way s bytes lines stop = stop_status stop ≡ 1 → IsUtf8 lines × StopsOver way s bytes lines stop

-- both were read whole, and the stop is why there is no text for them
pub record IsStopped (asked : Asked) (grammar_old grammar_new lines_old lines_new : Option (List ℕ)) (stop : Stop) : Type 0 where
  pub bytes : List ℕ
  pub lines : List ℕ
  pub reads : ReadsBoth grammar_old grammar_new lines_old lines_new bytes lines
  pub says : StopsOverBytes asked.way (settings_asked asked) bytes lines stop

-- a run ends at that stop: both were read whole, and the line of the stop, or a beginning of it, was written
abbrev pub EndsAtStop : Asked → Option (List ℕ) → Option (List ℕ) → Option (List ℕ) → Option (List ℕ) →
    Option (List ℕ) → Option (List ℕ) → Stop → Type 0
EndsAtStop asked grammar_old grammar_new lines_old lines_new faults_old faults_new stop =
    IsStopped asked grammar_old grammar_new lines_old lines_new stop × WritesFront faults_old faults_new (stop_line stop)

-- the bytes of the grammar are the form of none, or those of the lines are no tree's
abbrev pub EndsWithoutTrees : Asked → Option (List ℕ) → Option (List ℕ) → Option (List ℕ) → Option (List ℕ) →
    Option (List ℕ) → Option (List ℕ) → Type 0
EndsWithoutTrees asked grammar_old grammar_new lines_old lines_new faults_old faults_new =
    EndsAtStop asked grammar_old grammar_new lines_old lines_new faults_old faults_new NotAGrammar
    ⊎ EndsAtStop asked grammar_old grammar_new lines_old lines_new faults_old faults_new NotATree

-- what a failure says of them: a failed allocation and a failed read say nothing
abbrev pub FailsAt : Asked → Option (List ℕ) → Option (List ℕ) → Option (List ℕ) → Option (List ℕ) → Failure → Type 0
FailsAt asked grammar_old grammar_new lines_old lines_new Input = Unit {0}
FailsAt asked grammar_old grammar_new lines_old lines_new (Stopped stop) =
    IsStopped asked grammar_old grammar_new lines_old lines_new stop ⊎ (stop_status stop ≡ 3)
