-- Why a tree is rejected.
use Rattle.std.proofs.Common.{◌≡◌, List, [], Some, sym, ◌∙◌, ap, subst}
use Rattle.lalrpop_norm_tree.specs.Items.{GrammarData}
use Rattle.lalrpop_norm_theory.specs.Meaning.{HasLevels}
use Rattle.lalrpop_norm_theory.specs.WrittenTrees.{WrittenTree}
use Rattle.lalrpop_norm_theory.specs.LoweredTrees.{LoweredTree, ProductionTable}
use Rattle.lalrpop_norm_model.specs.Features.{Features}
use Rattle.lalrpop_norm_model.specs.WrittenRules.{written_rules}
use Rattle.lalrpop_norm_model.proofs.MeaningLemmas.{meaning_has_levels}
use Rattle.lalrpop_norm_explain.specs.declared.errors.ExplainError.{ExplainError}
use Rattle.lalrpop_norm_explain.specs.declared.errors.ExplainError.TheVariants.{Refused as faulty_tree, Memory as no_memory}
use Rattle.lalrpop_norm_explain.specs.declared.traced.Traced.{Traced}
use Rattle.lalrpop_norm_explain.specs.Derivations.{derivations}
use Rattle.lalrpop_norm_explain.specs.Laws.{CallsFit}
use Rattle.lalrpop_norm_explain.specs.Plans.{most_steps}
use Rattle.lalrpop_norm_explain.specs.TracedGrammars.{grammar_in, grammar_of, is_root, origins_in}
use Rattle.lalrpop_norm_explain.specs.TreeFaults.{Found, IsFound, explain_faults, first_found}
use Rattle.lalrpop_norm_explain.specs.TreeLowering.{lower_faults}
use Rattle.lalrpop_norm.specs.Faithful.{origins_of_actions, traced_derivations, written_meaning, written_name}
use Rattle.lalrpop_norm.specs.WayBack.{AreRoots}
use Rattle.lnorm_run.specs.Settings.{Settings}
use Rattle.lnorm_run.specs.Answers.{IsLowered}
use Rattle.lexplain_run.specs.Answers.{IsPairedIn}
use Rattle.lexplain_run.specs.Refusals.{StopsExplaining, StopsLowering}
use Rattle.lexplain_run.specs.declared.answer.Stop.TheVariants.{Tree}
use Rattle.lexplain_run.proofs.FaultlessLemmas.{lowered_faultless, written_faultless}

-- a list with a first fault is not empty
no_first : (fs : List Found) (f : Found) → fs ≡ [] → first_found fs ≡ Some f → ⊥
no_first fs f none first = let e = sym (ap first_found none) ∙ first in absurd (cc e)

-- what trees see of a written grammar has levels
levels : (fs : Features) (g : GrammarData) → HasLevels (written_meaning fs g)
levels fs g = meaning_has_levels _ (written_rules fs g)

module _ (s : Settings) (g : GrammarData) (traced : Traced) (lowers : IsLowered s g (grammar_in traced))
    (origins : origins_in traced ≡ origins_of_actions s.features g s.limit) (are : AreRoots s.features g (is_root traced))
    (fit : CallsFit (written_meaning s.features g) (written_name s.features g) (grammar_of traced) (is_root traced)) where
  same : grammar_of traced ≡ traced_derivations s.features g s.limit (grammar_in traced)
  same = ap (λ os. derivations os (grammar_in traced)) origins

  no_written : (u : LoweredTree) (t : WrittenTree) → IsPairedIn s.features g t u → explain_faults (is_root traced) (grammar_of traced) u ≡ []
  no_written u t (n, is, pairs) =
      lowered_faultless (written_meaning s.features g) (levels s.features g) (written_name s.features g)
      (grammar_of traced) (is_root traced) fit n ((are n).1 is) t u pairs

  no_lowered : (t : WrittenTree) (u : LoweredTree) → IsPairedIn s.features g t u → lower_faults (is_root traced) (grammar_of traced) most_steps t ≡ []
  no_lowered t u (n, is, pairs) =
      written_faultless (written_meaning s.features g) (levels s.features g) (written_name s.features g)
      (grammar_of traced) (is_root traced) fit n ((are n).1 is) t u pairs

  pub explaining_stops : (u : LoweredTree) (e : ExplainError) → IsFound (explain_faults (is_root traced) (grammar_of traced) u) e → StopsExplaining s g u (Tree e)
  explaining_stops u (faulty_tree fault path) first = record {
    unpaired = λ t pairs. no_first _ _ (no_written u t pairs) first;
    lowered = grammar_in traced;
    lowers = lowers;
    begins = is_root traced;
    begins_at_rules = are;
    first = subst (λ (P : ProductionTable). first_found (explain_faults (is_root traced) P u) ≡ Some (fault, path.items)) same first;
  }
  explaining_stops u no_memory first = tt

  pub lowering_stops : (t : WrittenTree) (e : ExplainError) → IsFound (lower_faults (is_root traced) (grammar_of traced) most_steps t) e → StopsLowering s g t (Tree e)
  lowering_stops t (faulty_tree fault path) first = record {
    unpaired = λ u pairs. no_first _ _ (no_lowered t u pairs) first;
    lowered = grammar_in traced;
    lowers = lowers;
    begins = is_root traced;
    begins_at_rules = are;
    first = sym (ap first_found (fit.lowers t)) ∙ first;
  }
  lowering_stops t no_memory first = tt
