-- What each of the two ways answers is the corresponding tree.
use Rattle.std.proofs.Common.{◌≡◌, Bool, [], sym, ◌∙◌, subst}
use Rattle.lalrpop_norm_tree.specs.Items.{GrammarData}
use Rattle.lalrpop_norm_theory.specs.Symbols.{Name, reference}
use Rattle.lalrpop_norm_theory.specs.WrittenTrees.{WrittenTree}
use Rattle.lalrpop_norm_theory.specs.LoweredTrees.{LoweredTree, ProductionTable}
use Rattle.lalrpop_norm_theory.specs.Pairs.{Pairs}
use Rattle.lalrpop_norm_model.specs.Features.{Features}
use Rattle.lalrpop_norm_explain.specs.Laws.{CallsFit}
use Rattle.lalrpop_norm_explain.specs.Plans.{most_steps}
use Rattle.lalrpop_norm_explain.specs.TreeFaults.{explain_faults, Reads}
use Rattle.lalrpop_norm_explain.specs.TreeLowering.{lower_faults, lowered_root}
use Rattle.lalrpop_norm.specs.Faithful.{written_meaning, written_name}
use Rattle.lalrpop_norm.specs.WayBack.{AreRoots}
use Rattle.lexplain_run.specs.Answers.{IsPairedIn}
use Rattle.std.specs.Prelude.{None}

module _ (fs : Features) (g : GrammarData) (P : ProductionTable) (is_rule : Name → Bool) (are : AreRoots fs g is_rule)
    (fit : CallsFit (written_meaning fs g) (written_name fs g) P is_rule) where
  pub explained_pairs : (u : LoweredTree) (t : WrittenTree) → explain_faults is_rule P u ≡ [] → Reads P u t → IsPairedIn fs g t u
  explained_pairs u t none reads =
      let (n, is, d) = (fit.explains u).0 none in
      let pairs = (fit.explained u n is d).1 in
      (n, (are n).0 is, subst (λ (s : WrittenTree). Pairs (written_meaning fs g) (written_name fs g) (reference n None) s u) (sym reads) pairs)

  pub lowered_pairs : (t : WrittenTree) (u : LoweredTree) → lower_faults is_rule P most_steps t ≡ [] → u ≡ lowered_root P most_steps t → IsPairedIn fs g t u
  lowered_pairs t u none same =
      let (n, is, h) = (fit.written t).0 (sym (fit.lowers t) ∙ none) in
      let pairs = (fit.lowered t n is h).1 in
      (n, (are n).0 is, subst (λ (v : LoweredTree). Pairs (written_meaning fs g) (written_name fs g) (reference n None) t v) (sym same) pairs)
