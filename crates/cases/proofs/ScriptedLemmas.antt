-- What a lexer finds in its lists.
use Rattle.std.proofs.Common.{◌≡◌, ℕ, ◌<◌, List, length, get_or, refl, sym}
use Rattle.std.proofs.lemmas.Option.{slice_get_read}
use Rattle.lalrpop_norm_tree_names.specs.declared.names.TerminalLiteral.{TerminalLiteral}
use Rattle.cases.specs.declared.scripted_lexer.Scripted.{Scripted}
use Rattle.cases.specs.declared.scripted_lexer.Feature.{Feature}
use Rattle.lalrpop_norm_model.specs.Lexers.{HasFeatureAt}
use Rattle.lalrpop_norm_lexer.specs.Answers.{feature_of}
use Rattle.cases.specs.Scripted.{of_lists}

-- a regex at an index has a feature that the list names
pub feature_found : (s : Scripted) (rs : List TerminalLiteral) (i k : ℕ) (r : TerminalLiteral) (f : Feature) →
    i < length rs → r ≡ get_or rs i r → k < length s.features.items → f ≡ get_or s.features.items k f →
    f.literal ≡ r → HasFeatureAt (of_lists s) rs i (feature_of f.error)
feature_found s rs i k r f within is inside at same =
    (r, slice_get_read rs (length rs) i r refl within is, (k, f, inside, sym at, (same, refl)))
