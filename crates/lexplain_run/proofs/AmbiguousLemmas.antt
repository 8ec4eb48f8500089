-- What two trees show of a written grammar, and why they show nothing.
use Rattle.std.proofs.Common.{◌≡◌, ℕ, Bool, List, [], ◌∷◌, ◌++◌, map, Some, Ok, sym, ◌∙◌, ap, ap₂, subst}
use Rattle.lalrpop_norm_tree.specs.Items.{GrammarData}
use Rattle.lalrpop_norm_theory.specs.Symbols.{Name}
use Rattle.lalrpop_norm_theory.specs.WrittenTrees.{WrittenTree}
use Rattle.lalrpop_norm_theory.specs.LoweredTrees.{LoweredTree, ProductionTable}
use Rattle.lalrpop_norm_model.specs.Features.{Features}
use Rattle.lalrpop_norm_explain.specs.declared.traced.Traced.{Traced}
use Rattle.lalrpop_norm_explain.specs.Derivations.{derivations}
use Rattle.lalrpop_norm_explain.specs.Laws.{CallsFit}
use Rattle.lalrpop_norm_explain.specs.Plans.{most_steps}
use Rattle.lalrpop_norm_explain.specs.TracedGrammars.{grammar_in, grammar_of, is_root, origins_in}
use Rattle.lalrpop_norm_explain.specs.TreeFaults.{Found, explain_faults}
use Rattle.lalrpop_norm_explain.specs.TreeLowering.{lowered_root}
use Rattle.lalrpop_norm_explain.specs.Trees.{written_view}
use Rattle.lalrpop_norm_ambiguity.specs.declared.check.TwoReadings.{TwoReadings}
use Rattle.lalrpop_norm_ambiguity.specs.declared.errors.AmbiguityError.{AmbiguityError}
use Rattle.lalrpop_norm_ambiguity.specs.declared.errors.AmbiguityError.TheVariants.{First, Second, Rules, Yields, Same, Memory}
use Rattle.lalrpop_norm_ambiguity.specs.Differences.{tree_difference}
use Rattle.lalrpop_norm_ambiguity.specs.Findings.{Answers, PairFinding, IsFirstFound, findings, first_finding, in_first, in_second, pair_findings}
use Rattle.lalrpop_norm_ambiguity.proofs.Answering.{shown}
use Rattle.lalrpop_norm_ambiguity.proofs.Found.{ambiguous_found, behind, in_front, none_mapped}
use Rattle.lalrpop_norm.specs.Faithful.{origins_of_actions, traced_derivations, written_meaning, written_name}
use Rattle.lalrpop_norm.specs.WayBack.{AreRoots}
use Rattle.lnorm_run.specs.Settings.{Settings}
use Rattle.lnorm_run.specs.Answers.{IsLowered}
use Rattle.lexplain_run.specs.Answers.{IsPairedIn, ShowsAmbiguity}
use Rattle.lexplain_run.specs.Refusals.{IsRefusedPair, StopsShowing}
use Rattle.lexplain_run.specs.Witnesses.{AreReadings, readings_text}
use Rattle.lexplain_run.specs.declared.answer.Stop.TheVariants.{Trees}
use Rattle.lexplain_run.proofs.PairLemmas.{explained_pairs}

-- ---- findings

no_first : (fs : List PairFinding) (f : PairFinding) → fs ≡ [] → first_finding fs ≡ Some f → ⊥
no_first fs f none first = let e = sym (ap first_finding none) ∙ first in absurd (cc e)

-- ---- trees

module _ (fs : Features) (g : GrammarData) (P : ProductionTable) (is_rule : Name → Bool) (are : AreRoots fs g is_rule)
    (fit : CallsFit (written_meaning fs g) (written_name fs g) P is_rule) where
  pub readings_shown : (u v : LoweredTree) (a : TwoReadings) → Answers (Ok a) is_rule P u v → (text : List ℕ) →
      text ≡ readings_text (written_view a.first) (written_view a.second) a.path.items → ShowsAmbiguity fs g u v text
  readings_shown u v a h text e =
      let (n, is, two) = shown (written_meaning fs g) (written_name fs g) P is_rule fit u v a h in
      let of_first = map in_first (explain_faults is_rule P u) in
      let of_second = map in_second (explain_faults is_rule P v) in
      let rest = behind of_first _ h.0 in
      record {
        first = written_view a.first;
        second = written_view a.second;
        path = a.path.items;
        are = (n, (are n).0 is, two);
        first_paired = explained_pairs fs g P is_rule are fit u (written_view a.first) (none_mapped in_first _ (in_front of_first _ h.0)) h.1.0;
        second_paired = explained_pairs fs g P is_rule are fit v (written_view a.second) (none_mapped in_second _ (in_front of_second _ rest)) h.1.1;
        differ = ap₂ tree_difference h.1.0 h.1.1 ∙ h.1.2;
        text_is = e;
      }

  lowered_to_it : (t : WrittenTree) (u : LoweredTree) → IsPairedIn fs g t u → lowered_root P most_steps t ≡ u
  lowered_to_it t u (n, is, pairs) = (fit.paired t u n ((are n).1 is) pairs).1

  nothing_wrong : (u v : LoweredTree) (t r : WrittenTree) → AreReadings fs g t r → IsPairedIn fs g t u → IsPairedIn fs g r v →
      findings is_rule P u v ≡ []
  nothing_wrong u v t r (n, is, two) p q =
      sym (ap₂ (findings is_rule P) (lowered_to_it t u p) (lowered_to_it r v q))
      ∙ ambiguous_found (written_meaning fs g) (written_name fs g) P is_rule fit n ((are n).1 is) t r two

module _ (s : Settings) (g : GrammarData) (traced : Traced) (lowers : IsLowered s g (grammar_in traced))
    (origins : origins_in traced ≡ origins_of_actions s.features g s.limit) (are : AreRoots s.features g (is_root traced))
    (fit : CallsFit (written_meaning s.features g) (written_name s.features g) (grammar_of traced) (is_root traced)) where
  pair_refused : (u v : LoweredTree) (e : AmbiguityError) (f : PairFinding) → first_finding (findings (is_root traced) (grammar_of traced) u v) ≡ Some f →
      IsFirstFound (findings (is_root traced) (grammar_of traced) u v) e → IsRefusedPair s g u v e
  pair_refused u v e f found first = record {
    unpaired = λ t r two p q. no_first _ f (nothing_wrong s.features g (grammar_of traced) (is_root traced) are fit u v t r two p q) found;
    lowered = grammar_in traced;
    lowers = lowers;
    begins = is_root traced;
    begins_at_rules = are;
    first = subst (λ (P : ProductionTable). IsFirstFound (findings (is_root traced) P u v) e) (ap (λ os. derivations os (grammar_in traced)) origins) first;
  }

  pub showing_stops : (u v : LoweredTree) (e : AmbiguityError) → IsFirstFound (findings (is_root traced) (grammar_of traced) u v) e → StopsShowing s g u v (Trees e)
  showing_stops u v (First x p) h = pair_refused u v (First x p) _ h h
  showing_stops u v (Second x p) h = pair_refused u v (Second x p) _ h h
  showing_stops u v Rules h = pair_refused u v Rules _ h h
  showing_stops u v (Yields i) h = pair_refused u v (Yields i) _ h h
  showing_stops u v Same h = pair_refused u v Same _ h h
  showing_stops u v Memory h = tt
