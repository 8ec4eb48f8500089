-- Trees that pair have no fault.
use Rattle.std.proofs.Common.{◌≡◌, Bool, true, [], ◌∙◌, subst}
use Rattle.std.specs.Prelude.{None}
use Rattle.lalrpop_norm_theory.specs.Symbols.{Name, ClosedSymbol, reference}
use Rattle.lalrpop_norm_theory.specs.Meaning.{Meaning, HasLevels}
use Rattle.lalrpop_norm_theory.specs.WrittenTrees.{WrittenTree}
use Rattle.lalrpop_norm_theory.specs.LoweredTrees.{LoweredTree, ProductionTable}
use Rattle.lalrpop_norm_theory.specs.Pairs.{Pairs}
use Rattle.lalrpop_norm_theory.proofs.PairSides.{tree_of}
use Rattle.lalrpop_norm_explain.specs.Laws.{CallsFit, IsRootedTree}
use Rattle.lalrpop_norm_explain.specs.Plans.{most_steps}
use Rattle.lalrpop_norm_explain.specs.TreeFaults.{explain_faults}
use Rattle.lalrpop_norm_explain.specs.TreeLowering.{lower_faults}

module _ (M : Meaning) (V : HasLevels M) (name : ClosedSymbol → Name) (P : ProductionTable) (is_rule : Name → Bool)
    (fit : CallsFit M name P is_rule) (n : Name) (begins : is_rule n ≡ true) where
  pub written_faultless : (t : WrittenTree) (u : LoweredTree) → Pairs M name (reference n None) t u → lower_faults is_rule P most_steps t ≡ []
  written_faultless t u pairs = fit.lowers t ∙ (fit.written t).1 (n, begins, tree_of M name V pairs)

  pub lowered_faultless : (t : WrittenTree) (u : LoweredTree) → Pairs M name (reference n None) t u → explain_faults is_rule P u ≡ []
  lowered_faultless t u pairs =
      let h = tree_of M name V pairs in
      let d = (fit.lowered t n begins h).0 in
      (fit.explains u).1 (subst (IsRootedTree is_rule P) (fit.paired t u n begins pairs).1 (n, begins, d))
