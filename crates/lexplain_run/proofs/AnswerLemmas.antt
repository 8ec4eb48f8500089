-- What an answer in a grammar says of the bytes that the grammar's form are.
use Rattle.std.proofs.Common.{◌≡◌, ℕ, List, ◌++◌, String, Global, string_bytes, IfOk, IfErr, Result, inl, inr, ◌⊎◌, subst, sym}
use Rattle.std.proofs.lemmas.Result.{IfOk-weaker, IfErr-weaker}
use Rattle.lalrpop_norm_tree.specs.Items.{GrammarData}
use Rattle.lalrpop_norm_faults.specs.declared.failure.NormFailure.TheVariants.{Refused as faulty_grammar, Memory as no_room}
use Rattle.lalrpop_norm_theory.specs.WrittenTrees.{WrittenTree}
use Rattle.lalrpop_norm_theory.specs.LoweredTrees.{LoweredTree}
use Rattle.lalrpop_norm_model.specs.Features.{Features}
use Rattle.lalrpop_norm_explain.specs.declared.errors.ExplainFault.{ExplainFault}
use Rattle.lalrpop_norm_explain.specs.declared.errors.ExplainError.TheVariants.{Refused as faulty_tree, Memory as no_memory}
use Rattle.lnorm_run.specs.Settings.{Settings}
use Rattle.lnorm_run.specs.Answers.{IsFormOf}
use Rattle.lexplain_lines.specs.LineForms.{AreLines, lowered_forms, written_forms}
use Rattle.lexplain_run.specs.Answers.{ExplainsTree, IsTranslationOver, LowersTree, ShowsAmbiguity, Translates}
use Rattle.lexplain_run.specs.Refusals.{AreNoLines, IsRefusedDerivation, IsUnshownOn, IsRefusedOn, IsRefusedWritten, StopsIn, StopsExplaining, StopsLowering, StopsOver, StopsShowing}
use Rattle.lexplain_run.specs.declared.answer.Stop.{Stop}
use Rattle.lexplain_run.specs.declared.answer.Stop.TheVariants.{NotAGrammar, NotATree, Failed, Tree, Trees}
use Rattle.lexplain_run.specs.declared.words.Way.{Way}
use Rattle.lexplain_run.specs.declared.words.Way.TheVariants.{Explain, Lower, Ambiguous}

module _ (way : Way) (s : Settings) (bytes lines : List ℕ) (g : GrammarData) (form : IsFormOf g bytes) where
  -- a stop in the grammar of that form
  stops_over : (IsRefused : ExplainFault → List ℕ → Type 0) → ((x : ExplainFault) (p : List ℕ) → IsRefused x p → IsRefusedOn way s g lines x p) →
      (stop : Stop) → StopsIn s g IsRefused stop → StopsOver way s bytes lines stop
  stops_over R on NotAGrammar h = absurd h
  stops_over R on NotATree h = absurd h
  stops_over R on (Failed (faulty_grammar e)) h = record { tree = g; form = form; stands = h }
  stops_over R on (Failed no_room) h = tt
  stops_over R on (Tree (faulty_tree x p)) h = (g, form, on x p.items h)
  stops_over R on (Tree no_memory) h = tt
  stops_over R on (Trees e) h = absurd h

  -- a stop of two trees
  showing_over : way ≡ Ambiguous → (u v : LoweredTree) → AreLines lines (lowered_forms u ++ lowered_forms v) →
      (stop : Stop) → StopsShowing s g u v stop → StopsOver way s bytes lines stop
  showing_over is u v are NotAGrammar h = absurd h
  showing_over is u v are NotATree h = absurd h
  showing_over is u v are (Failed (faulty_grammar e)) h = record { tree = g; form = form; stands = h }
  showing_over is u v are (Failed no_room) h = tt
  showing_over is u v are (Tree e) h = absurd h
  showing_over is u v are (Trees e) h = (g, form, subst (λ w. IsUnshownOn w s g lines e) (sym is) (u, v, are, h))

  -- a stop of reading
  pub unread_over : (Unread : Type 0) → (Unread → AreNoLines way lines) → (stop : Stop) → ((stop ≡ NotATree) × Unread) ⊎ (stop ≡ Failed no_room) →
      StopsOver way s bytes lines stop
  unread_over U unread stop (inl (e, u)) = subst (StopsOver way s bytes lines) (sym e) (g, form, unread u)
  unread_over U unread stop (inr e) = subst (StopsOver way s bytes lines) (sym e) tt

module _ (way : Way) (bytes lines : List ℕ) (g : GrammarData) (form : IsFormOf g bytes) (r : Result (String Global) Stop) where
  answered : (fs : Features) → IfOk r (λ text. Translates way fs g lines (string_bytes text)) →
      IfOk r (λ text. IsTranslationOver way fs bytes lines (string_bytes text))
  answered fs h = IfOk-weaker r _ _ (λ text right. record { grammar = g; form = form; right = right }) h

  pub explain_answered : way ≡ Explain → (fs : Features) (u : LoweredTree) → AreLines lines (lowered_forms u) →
      IfOk r (λ text. ExplainsTree fs g u (string_bytes text)) → IfOk r (λ text. IsTranslationOver way fs bytes lines (string_bytes text))
  explain_answered is fs u are h =
      answered fs (IfOk-weaker r _ _ (λ text right. subst (λ w. Translates w fs g lines (string_bytes text)) (sym is) (u, are, right)) h)

  pub lower_answered : way ≡ Lower → (fs : Features) (t : WrittenTree) → AreLines lines (written_forms t) →
      IfOk r (λ text. LowersTree fs g t (string_bytes text)) → IfOk r (λ text. IsTranslationOver way fs bytes lines (string_bytes text))
  lower_answered is fs t are h =
      answered fs (IfOk-weaker r _ _ (λ text right. subst (λ w. Translates w fs g lines (string_bytes text)) (sym is) (t, are, right)) h)

  pub explain_stopped : way ≡ Explain → (s : Settings) (u : LoweredTree) → AreLines lines (lowered_forms u) →
      IfErr r (StopsExplaining s g u) → IfErr r (StopsOver way s bytes lines)
  explain_stopped is s u are h =
      IfErr-weaker r _ _ (stops_over way s bytes lines g form (IsRefusedDerivation s g u)
      (λ x p no. subst (λ w. IsRefusedOn w s g lines x p) (sym is) (u, are, no))) h

  pub lower_stopped : way ≡ Lower → (s : Settings) (t : WrittenTree) → AreLines lines (written_forms t) →
      IfErr r (StopsLowering s g t) → IfErr r (StopsOver way s bytes lines)
  lower_stopped is s t are h =
      IfErr-weaker r _ _ (stops_over way s bytes lines g form (IsRefusedWritten s g t)
      (λ x p no. subst (λ w. IsRefusedOn w s g lines x p) (sym is) (t, are, no))) h

  pub ambiguous_answered : way ≡ Ambiguous → (fs : Features) (u v : LoweredTree) → AreLines lines (lowered_forms u ++ lowered_forms v) →
      IfOk r (λ text. ShowsAmbiguity fs g u v (string_bytes text)) → IfOk r (λ text. IsTranslationOver way fs bytes lines (string_bytes text))
  ambiguous_answered is fs u v are h =
      answered fs (IfOk-weaker r _ _ (λ text right. subst (λ w. Translates w fs g lines (string_bytes text)) (sym is) (u, v, are, right)) h)

  pub ambiguous_stopped : way ≡ Ambiguous → (s : Settings) (u v : LoweredTree) → AreLines lines (lowered_forms u ++ lowered_forms v) →
      IfErr r (StopsShowing s g u v) → IfErr r (StopsOver way s bytes lines)
  ambiguous_stopped is s u v are h = IfErr-weaker r _ _ (showing_over way s bytes lines g form is u v are) h
