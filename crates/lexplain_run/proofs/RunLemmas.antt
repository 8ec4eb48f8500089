-- What the exit status of a run over streams says of its stop.
use Rattle.std.proofs.Common.{◌≡◌, ℕ, ◌<◌, List, Option, inl, inr, ◌⊎◌, IsUtf8, IfErr, Result, subst, arith}
use Rattle.std.proofs.lemmas.Result.{IfErr-weaker}
use Rattle.lalrpop_norm_faults.specs.declared.failure.NormFailure.TheVariants.{Refused as faulty_grammar, Memory as no_room}
use Rattle.lalrpop_norm_explain.specs.declared.errors.ExplainError.TheVariants.{Refused as faulty_tree, Memory as no_memory}
use Rattle.lalrpop_norm_ambiguity.specs.declared.errors.AmbiguityError.TheVariants.{First, Second, Rules, Yields, Same, Memory}
use Rattle.lalrpop_norm_tree.specs.Items.{GrammarData}
use Rattle.lnorm_run.specs.Settings.{Settings}
use Rattle.lnorm_run.specs.Answers.{IsFormOf}
use Rattle.lnorm_streams.specs.Streams.{WritesFront}
use Rattle.lexplain_run.specs.Refusals.{StopsOver}
use Rattle.lexplain_run.specs.Runs.{FailsAt, IsStopped, StopsOverBytes}
use Rattle.lexplain_run.specs.Stops.{stop_line, stop_status}
use Rattle.lexplain_run.specs.declared.answer.Stop.{Stop}
use Rattle.lexplain_run.specs.declared.answer.Stop.TheVariants.{NotAGrammar, NotATree, Failed, Tree, Trees}
use Rattle.lexplain_run.specs.declared.run.Failure.TheVariants.{Stopped}
use Rattle.lexplain_run.specs.declared.words.Asked.{Asked}
use Rattle.lexplain_run.specs.declared.words.Way.{Way}

-- a stop has none of the statuses of a run that wrote its text or whose stream failed
pub between : (stop : Stop) → (0 < stop_status stop) × (stop_status stop < 4)
between NotAGrammar = (omega arith, omega arith)
between NotATree = (omega arith, omega arith)
between (Failed (faulty_grammar e)) = (omega arith, omega arith)
between (Failed no_room) = (omega arith, omega arith)
between (Tree (faulty_tree x p)) = (omega arith, omega arith)
between (Tree no_memory) = (omega arith, omega arith)
between (Trees (First x p)) = (omega arith, omega arith)
between (Trees (Second x p)) = (omega arith, omega arith)
between (Trees Rules) = (omega arith, omega arith)
between (Trees (Yields i)) = (omega arith, omega arith)
between (Trees Same) = (omega arith, omega arith)
between (Trees Memory) = (omega arith, omega arith)

module _ (asked : Asked) (g_old g_new l_old l_new : Option (List ℕ)) where
  -- a stop that is no failed allocation says why there is no text
  pub says_why : (stop : Stop) → FailsAt asked g_old g_new l_old l_new (Stopped stop) → stop_status stop < 3 → IsStopped asked g_old g_new l_old l_new stop
  says_why stop (inl stopped) less = stopped
  says_why stop (inr is) less = absurd (omega arith)

  pub fault_told : (stop : Stop) (old new : Option (List ℕ)) → FailsAt asked g_old g_new l_old l_new (Stopped stop) → stop_status stop ≡ 1 →
      WritesFront old new (stop_line stop) →
      (x : Stop) × (stop_status x ≡ 1) × IsStopped asked g_old g_new l_old l_new x × WritesFront old new (stop_line x)
  fault_told stop old new fails is l = (stop, is, says_why stop fails (omega (arith, is)), l)

  pub none_told : (stop : Stop) (old new : Option (List ℕ)) → FailsAt asked g_old g_new l_old l_new (Stopped stop) → stop_status stop ≡ 2 →
      WritesFront old new (stop_line stop) →
      (IsStopped asked g_old g_new l_old l_new NotAGrammar × WritesFront old new (stop_line NotAGrammar))
      ⊎ (IsStopped asked g_old g_new l_old l_new NotATree × WritesFront old new (stop_line NotATree))
  none_told NotAGrammar old new fails is l = inl (says_why NotAGrammar fails (omega arith), l)
  none_told NotATree old new fails is l = inr (says_why NotATree fails (omega arith), l)
  none_told (Failed (faulty_grammar e)) old new fails is l = absurd (omega arith)
  none_told (Failed no_room) old new fails is l = absurd (omega arith)
  none_told (Tree (faulty_tree x p)) old new fails is l = absurd (omega arith)
  none_told (Tree no_memory) old new fails is l = absurd (omega arith)
  none_told (Trees (First x p)) old new fails is l = absurd (omega arith)
  none_told (Trees (Second x p)) old new fails is l = absurd (omega arith)
  none_told (Trees Rules) old new fails is l = absurd (omega arith)
  none_told (Trees (Yields i)) old new fails is l = absurd (omega arith)
  none_told (Trees Same) old new fails is l = absurd (omega arith)
  none_told (Trees Memory) old new fails is l = absurd (omega arith)

-- bytes that are not UTF-8 are the lines of no tree
pub none_of_bytes : (way : Way) (s : Settings) (bytes lines : List ℕ) (g : GrammarData) → IsFormOf g bytes → (IsUtf8 lines → ⊥) →
    StopsOverBytes way s bytes lines NotATree
none_of_bytes way s bytes lines g form h = (g, form, λ utf8. absurd (h utf8))

-- what is said of texts is said of bytes that are UTF-8
over_text : (way : Way) (s : Settings) (bytes lines : List ℕ) → IsUtf8 lines → (stop : Stop) → StopsOver way s bytes lines stop → StopsOverBytes way s bytes lines stop
over_text way s bytes lines utf8 NotAGrammar h = h
over_text way s bytes lines utf8 NotATree h = (h.0, h.1, λ _. h.2)
over_text way s bytes lines utf8 (Failed f) h = λ _. (utf8, h)
over_text way s bytes lines utf8 (Tree e) h = λ _. (utf8, h)
over_text way s bytes lines utf8 (Trees e) h = λ _. (utf8, h)

pub stops_over_text : {T : Type 0} (r : Result T Stop) (way : Way) (s : Settings) (text rows bytes lines : List ℕ) → text ≡ bytes → rows ≡ lines →
    IsUtf8 lines → IfErr r (StopsOver way s text rows) → IfErr r (StopsOverBytes way s bytes lines)
stops_over_text r way s text rows bytes lines e f utf8 h =
    IfErr-weaker r _ _ (over_text way s bytes lines utf8)
    (subst (λ l. IfErr r (StopsOver way s bytes l)) f (subst (λ b. IfErr r (StopsOver way s b rows)) e h))
