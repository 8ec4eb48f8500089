-- What the arguments ask for.
use Rattle.std.specs.Prelude.{◌≡◌, ℕ, List, ◌∷◌, Some, false, codes}
use Rattle.lalrpop_norm_common.specs.Sessions.{features_view}
use Rattle.lalrpop_norm_common.specs.declared.session.Session.{Session}
use Rattle.lalrpop_norm_model.specs.Features.{Features}
use Rattle.lnorm_run.specs.Settings.{Settings, settings_of}
use Rattle.lexplain_run.specs.declared.words.Way.{Way}
use Rattle.lexplain_run.specs.declared.words.Way.TheVariants.{Explain, Lower, Ambiguous}
use Rattle.lexplain_run.specs.declared.words.Asked.{Asked}

-- the argument that names a way
abbrev pub word_of : Way → List ℕ
word_of Explain = codes "explain"
word_of Lower = codes "lower"
word_of Ambiguous = codes "ambiguous"

-- the settings with these features and this limit, without origins
abbrev pub settings_with : Features → ℕ → Settings
settings_with fs limit = record { limit = limit; features = fs; origins = false }

-- those of a session
abbrev pub settings_in : {L : Type 0} → Session L → Settings
settings_in session = settings_with (features_view session.features) session.macro_recursion_limit

abbrev pub settings_asked : Asked → Settings
settings_asked a = settings_in a.session

-- the arguments are the name of the way, the name of the file, and options that ask for these settings
pub record AsksForWay (words : List (List ℕ)) (way : Way) (file : List ℕ) (s : Settings) : Type 0 where
  pub options : List (List ℕ)
  pub words_are : words ≡ word_of way ∷ (file ∷ options)
  pub are_asked : settings_of options ≡ Some s

-- they ask for no way, file and settings without origins
abbrev pub AsksForNoWay : List (List ℕ) → Type 0
AsksForNoWay words = (way : Way) (file : List ℕ) (s : Settings) → AsksForWay words way file s → s.origins ≡ false → ⊥
