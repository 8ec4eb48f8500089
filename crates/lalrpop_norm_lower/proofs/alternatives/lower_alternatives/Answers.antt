use Rattle.std.proofs.Common.{◌≡◌, ◌∙◌, suc, ◌+◌, ◌++◌, arith, length, sym, ap, map}
use Rattle.lalrpop_norm_faults.proofs.FaultLemmas.{exit_at}
use Rattle.lalrpop_norm_tree.specs.Items.{alternative_view}
use Rattle.lalrpop_norm_model.specs.LoweringFaults.{code_faults, action_number_faults}
use Rattle.lalrpop_norm_repr.specs.Productions.{production_view}
use Rattle.lalrpop_norm_lower.specs.Lowering.{productions_from}
use Rattle.lalrpop_norm_lower.specs.Made.{alternatives_faults}
use Rattle.lalrpop_norm_lower.proofs.LoopLemmas.{behind_none, one_more}
use Rattle.lalrpop_norm_lower.proofs.alternatives.lower_alternatives.Goals as goal

pub loop-alternative-preserved : goal.loop-alternative-preserved
loop-alternative-preserved c =
    let invariant = c.loop-alternative.invariant in
    let k = c.loop-alternative.number in
    let next = c.in-Some.ensures.steps.0 in
    let here = alternative_view c.in-Some.alternative in
    let left = map alternative_view c.next.new.self.rest.items in
    let ensures = c.in_ok-add_lowered.ensures in
    let count = ensures.count in
    let counted : k + suc (length left) ≡ c.args.number.now + length (map alternative_view c.args.alternatives.items) = ap (λ ys. k + length (map alternative_view ys)) (sym next) ∙ invariant.0 in (
      omega (arith, count, counted),
      ap (λ n. alternatives_faults n left) count
          ∙ behind_none (code_faults here ++ action_number_faults k here.span) _ _ ensures.refuses (ap (λ ys. alternatives_faults k (map alternative_view ys)) (sym next) ∙ invariant.1),
      ap (λ n. map production_view c.add_lowered.new.productions.items ++ productions_from c.args.name.now n left) count
          ∙ one_more _ _ _ _ _ ensures.lowered (ap (λ ys. map production_view c.loop-alternative.productions.items ++ productions_from c.args.name.now k (map alternative_view ys)) (sym next) ∙ invariant.2),
    )

pub returns-in_err-add_lowered-clause-refuses : goal.returns-in_err-add_lowered-clause-refuses
returns-in_err-add_lowered-clause-refuses c =
    exit_at _ _
    (code_faults (alternative_view c.in-Some.alternative) ++ action_number_faults c.loop-alternative.number c.in-Some.alternative.span)
    (alternatives_faults (c.loop-alternative.number + 1) (map alternative_view c.next.new.self.rest.items))
    (alternatives_faults c.args.number.now (map alternative_view c.args.alternatives.items))
    c.from_residual-in_err-add_lowered.ensures.1 c.in_err-add_lowered.ensures.refuses
    (sym c.loop-alternative.invariant.1 ∙ ap (λ ys. alternatives_faults c.loop-alternative.number (map alternative_view ys)) c.in-Some.ensures.steps.0)
