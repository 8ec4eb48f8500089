-- What an answer shows.
use Rattle.std.proofs.Common.{sym, subst}
use Rattle.std.specs.Prelude.{None}
use Rattle.lalrpop_norm_theory.specs.Symbols.{reference}
use Rattle.lalrpop_norm_theory.specs.Translations.{written_tree}
use Rattle.lalrpop_norm_explain.specs.Trees.{written_view}
use Rattle.lalrpop_norm_ambiguity.specs.Ambiguities.{AreTwoTrees}
use Rattle.lalrpop_norm_ambiguity.specs.Laws.{AnswersShow}
use Rattle.lalrpop_norm_ambiguity.proofs.Found.{found_ambiguous}

pub shown : AnswersShow
shown M name P roots F u v a h =
    let (n, r, A) = found_ambiguous M name P roots F u v h.0 in
    let first : AreTwoTrees M (reference n None) (written_view a.first) (written_tree P v) =
    subst (λ x. AreTwoTrees M (reference n None) x (written_tree P v)) (sym h.1.0) A in
    (n, r, subst (λ y. AreTwoTrees M (reference n None) (written_view a.first) y) (sym h.1.1) first)
