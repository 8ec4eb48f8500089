-- What a call over trees says of the bytes that are its arguments.
use Rattle.std.proofs.Common.{◌≡◌, ℕ, List, [], ◌∷◌, Some, false, refl, sym, subst, ◌∙◌, IfOk, Result}
use Rattle.std.proofs.lemmas.Result.{IfOk-weaker}
use mathlib.Core.List.{append_cancel_right}
use Rattle.lnorm_run.specs.Settings.{Settings, settings_of}
use Rattle.lexplain_run.specs.Words.{settings_asked}
use Rattle.lexplain_run.specs.declared.words.Asked.{Asked}
use Rattle.lexplain_run.specs.declared.words.Way.{Way}
use Rattle.lnorm_c.specs.Words.{AreWords}
use Rattle.lnorm_c.specs.Calls.{AsksForNoTrees, AsksForTrees}

-- a text is no other arguments
pub asks_for_no_trees : (text : List ℕ) (ws : List (List ℕ)) → AreWords text ws →
    ((s : Settings) → settings_of ws ≡ Some s → s.origins ≡ false → ⊥) → AsksForNoTrees text
asks_for_no_trees text ws are none = λ s asks.
    let same : asks.asked.list ≡ ws = append_cancel_right asks.asked.list ws ([] ∷ []) (sym asks.asked.stand.parts ∙ are.parts) in
    none s (subst (λ x. settings_of x ≡ Some s) same asks.asked.are) asks.plain

pub asks_for_trees : {E : Type 0} (r : Result Asked E) (way : Way) (text : List ℕ) (ws : List (List ℕ)) → AreWords text ws →
    IfOk r (λ a. (a.way ≡ way) × (settings_of ws ≡ Some (settings_asked a))) → IfOk r (λ a. (a.way ≡ way) × AsksForTrees text (settings_asked a))
asks_for_trees r way text ws are h =
    IfOk-weaker r _ _ (λ a k. (k.0, record { asked = record { list = ws; stand = are; are = k.1 }; plain = refl })) h
