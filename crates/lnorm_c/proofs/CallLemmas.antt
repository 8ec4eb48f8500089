-- What the answer of a call says of its run.
use Rattle.std.proofs.Common.{◌≡◌, ℕ, ◌<◌, ◌≤◌, ◌⊎◌, List, [], ◌∷◌, ◌++◌, Option, Some, None, sym, ap, subst, ◌∙◌, inl, inr, arith}
use Rattle.std.proofs.lemmas.Grind.{common_steps}
use mathlib.Core.List.{append-nil, append_cancel_right}
use Rattle.lnorm_streams.specs.Streams.{ReadsAll, usage_line, no_tree_line}
use Rattle.lnorm_run.specs.Answers.{IsTree}
use Rattle.lnorm_run.specs.Runs.{IsNoTree}
use Rattle.lnorm_run.specs.Settings.{settings_of}
use Rattle.lnorm_c.specs.Words.{AreWords}
use Rattle.lnorm_c.specs.Calls.{AsksForNothing, IsNoTreeFor, IsFront}

-- where a fault is reported, the run ended with it
pub told_one : (n m : ℕ) → (n < 3 → m ≡ n) → (3 ≤ n → m ≡ 3) → m ≡ 1 → n ≡ 1
told_one n m kept memory one = grind (arith, common_steps)

-- a text is no other arguments
asks_for_nothing : (text : List ℕ) (ws : List (List ℕ)) → AreWords text ws → settings_of ws ≡ None → AsksForNothing text
asks_for_nothing text ws are none = λ s asks.
    let same : asks.list ≡ ws = append_cancel_right asks.list ws ([] ∷ []) (sym asks.stand.parts ∙ are.parts) in
    let both : Some s ≡ None = sym asks.are ∙ ap settings_of same ∙ none in cc

-- all of the input was read
whole_input : (input bytes : List ℕ) (after : Option (List ℕ)) → ReadsAll (Some input) after bytes → bytes ≡ input
whole_input input bytes None r = absurd r.given
whole_input input bytes (Some rest) r = sym (r.given ∙ ap (λ x. bytes ++ x) r.end ∙ append-nil bytes)

is_no_tree : (text input : List ℕ) (ws : List (List ℕ)) (after : Option (List ℕ)) → AreWords text ws →
    IsNoTree ws (Some input) after → IsNoTreeFor text input
is_no_tree text input ws after are n = record {
  settings = n.settings;
  asked = record { list = ws; stand = are; are = n.takes.asked };
  no_tree = λ t. n.no_tree (subst IsTree (sym (whole_input input n.bytes after n.takes.whole)) t);
}

-- what rejected arguments and input that is no tree say of the bytes
pub refused_for : (text input line : List ℕ) (ws : List (List ℕ)) → AreWords text ws →
    (settings_of ws ≡ None) × IsFront line usage_line ⊎ (after : Option (List ℕ)) × IsNoTree ws (Some input) after × IsFront line no_tree_line →
    AsksForNothing text × IsFront line usage_line ⊎ IsNoTreeFor text input × IsFront line no_tree_line
refused_for text input line ws are (inl r) = inl (asks_for_nothing text ws are r.0, r.1)
refused_for text input line ws are (inr r) = inr (is_no_tree text input ws r.0 are r.1, r.2)
