use Rattle.std.proofs.Common.{◌≡◌, ◌+◌, ◌++◌, ℕ, suc, [], map, drop, refl, sym, ap, ◌∙◌, subst, List, arith}
use Rattle.std.specs.List.{flat_map}
use Rattle.lalrpop_norm_tree.specs.declared.items.Alternative.{Alternative}
use Rattle.lalrpop_norm_tree.specs.Symbols.{parts_view}
use Rattle.lalrpop_norm_tree.specs.Items.{AlternativeData, alternative_view}
use Rattle.lalrpop_norm_faults.specs.Faults.{Fault, IsFirst}
use Rattle.lalrpop_norm_faults.proofs.FaultLemmas.{at_drop_item, first_of_more, exit_or}
use Rattle.lalrpop_norm_model.specs.MadeRules.{argument_kind}
use Rattle.lalrpop_norm_macro_expand_rules.specs.Conditions.{value_faults}
use Rattle.lalrpop_norm_conditions.specs.Conditions.{comparison}
use Rattle.lalrpop_norm_macro_expand.specs.Kept.{kept_place, kept_places}
use Rattle.lalrpop_norm_macro_expand.specs.Making.{kept_of}
use Rattle.lalrpop_norm_macro_expand.proofs.LoopLemmas.{one_further}
use Rattle.lalrpop_norm_macro_expand.proofs.macro_expand.instance.instance_alternatives.Goals as goal

pub returns-in_err-add_alternative : goal.returns-in_err-add_alternative
returns-in_err-add_alternative c =
    let argument = argument_kind c.args.bindings.now.names.now (parts_view c.args.bindings.now.symbols.now) in
    let xs : List Alternative = c.args.alternatives.now in
    let x : Alternative = c.index-alternatives-place.result in
    let faults : List Alternative → List Fault = λ ys. flat_map (λ (a : AlternativeData). value_faults argument a.condition) (map alternative_view ys) in
    let rest : List Fault = faults (drop (c.loop-place.place + 1) xs) in
    exit_or _ _ (faults xs) _ c.from_residual-in_err-add_alternative.ensures.1
    (subst (λ (fs : List Fault). IsFirst fs c.in_err-add_alternative.field-0.0)
    (sym (at_drop_item faults xs c.loop-place.place x (omega arith) c.index-alternatives-place.is) ∙ c.loop-place.invariant.refuses)
    (first_of_more (value_faults argument x.condition) rest _ c.in_err-add_alternative.ensures.refuses))

pub loop-place-preserved : goal.loop-place-preserved
loop-place-preserved c =
    let params = c.args.bindings.now.names.now in
    let args = parts_view c.args.bindings.now.symbols.now in
    let xs : List Alternative = c.args.alternatives.now in
    let x : Alternative = c.index-alternatives-place.result in
    let i : ℕ = c.loop-place.place in
    let faults : List Alternative → List Fault = λ ys. flat_map (λ (a : AlternativeData). value_faults (argument_kind params args) a.condition) (map alternative_view ys) in
    let kept : List Alternative → List AlternativeData = λ ys. flat_map (kept_of c.args.head.now.span params args) (map alternative_view ys) in
    let places : ℕ → List Alternative → List ℕ = λ k ys. kept_places comparison params args k (map alternative_view ys) in
    let next : suc i ≡ i + 1 = omega arith in
    let adds = c.in_ok-add_alternative.ensures in
    record {
      refuses = one_further xs i faults faults x x (value_faults (argument_kind params args) x.condition) [] [] (faults xs)
          c.loop-place-test.true c.index-alternatives-place.is refl (sym adds.refuses) c.loop-place.invariant.refuses;
      kept = one_further xs i kept kept x x (kept_of c.args.head.now.span params args (alternative_view x)) _ _ (kept xs)
          c.loop-place-test.true c.index-alternatives-place.is refl adds.adds c.loop-place.invariant.kept;
      places = one_further xs i (places i) (places (i + 1)) x x (kept_place comparison params args i (alternative_view x)) _ _ (places 0 xs)
          c.loop-place-test.true c.index-alternatives-place.is
          (ap (λ (k : ℕ). kept_place comparison params args i (alternative_view x) ++ places k (drop (i + 1) xs)) next) adds.places c.loop-place.invariant.places;
    }
