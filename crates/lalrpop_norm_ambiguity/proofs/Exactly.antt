-- Ambiguity in the written grammar and in the lowered one.
use Rattle.std.proofs.Common.{◌≡◌, sym, ◌∙◌, subst}
use Rattle.lalrpop_norm_theory.specs.Symbols.{Name, ClosedSymbol}
use Rattle.lalrpop_norm_theory.specs.Meaning.{Meaning}
use Rattle.lalrpop_norm_theory.specs.LoweredTrees.{ProductionTable}
use Rattle.lalrpop_norm_theory.specs.Clauses.{symbol_of}
use Rattle.lalrpop_norm_theory.specs.Pairs.{Pairs}
use Rattle.lalrpop_norm_theory.specs.Laws.{OneToOne}
use Rattle.lalrpop_norm_ambiguity.specs.Ambiguities.{AreTwoTrees, IsAmbiguous, AreTwoDerivations, IsAmbiguousIn}
use Rattle.lalrpop_norm_ambiguity.specs.Laws.{AmbiguousExactly}

module _ (M : Meaning) (name : ClosedSymbol → Name) (P : ProductionTable) (g : ClosedSymbol) (one : OneToOne M name P g) where
  lowered_too : IsAmbiguous M g → IsAmbiguousIn P (symbol_of name g)
  lowered_too (t, s, A) =
      let (u, (du, pu), _) = one.down t A.first in
      let (v, (dv, pv), _) = one.down s A.second in (
        u,
        v,
        record {
          first = du;
          second = dv;
          same_yields = sym (one.same_yields t u pu) ∙ A.same_yields ∙ one.same_yields s v pv;
          differ = λ same.
              let (x, _, only) = one.up u du in
              A.differ (only t (A.first, pu) ∙ sym (only s (A.second, subst (λ w. Pairs M name g s w) (sym same) pv)));
        },
      )

  written_too : IsAmbiguousIn P (symbol_of name g) → IsAmbiguous M g
  written_too (u, v, A) =
      let (t, (ht, pt), _) = one.up u A.first in
      let (s, (hs, ps), _) = one.up v A.second in (
        t,
        s,
        record {
          first = ht;
          second = hs;
          same_yields = one.same_yields t u pt ∙ A.same_yields ∙ sym (one.same_yields s v ps);
          differ = λ same.
              let (x, _, only) = one.down t ht in
              A.differ (only u (A.first, pt) ∙ sym (only v (A.second, subst (λ w. Pairs M name g w v) (sym same) ps)));
        },
      )

pub ambiguous_exactly : AmbiguousExactly
ambiguous_exactly M name P g one = (lowered_too M name P g one, written_too M name P g one)
