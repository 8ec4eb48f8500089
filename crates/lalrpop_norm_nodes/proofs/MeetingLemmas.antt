-- Symbols reached in two parts.
use Rattle.std.proofs.Common.{◌≡◌, ℕ, Bool, List, [], ◌∷◌, ◌++◌, refl, sym, ap, ◌∙◌, subst, append_assoc, Result, Ok, Err}
use Rattle.std.specs.Prelude.{OnOk}
use Rattle.std.specs.Result.{IsErrAnd}
use Rattle.lalrpop_norm_tree.specs.Symbols.{Part}
use Rattle.lalrpop_norm_faults.specs.declared.failure.NormFailure.{NormFailure}
use Rattle.lalrpop_norm_faults.specs.declared.kind.FaultKind.TheVariants.{SharedName}
use Rattle.lalrpop_norm_faults.specs.Faults.{Fault, fault_if, IsFirst, Refuses}
use Rattle.lalrpop_norm_faults.proofs.FaultLemmas.{exit_at}
use Rattle.lalrpop_norm_model.specs.MadeRules.{span_of}
use Rattle.lalrpop_norm_nodes.specs.Meeting.{after, after_one, clashes, clash_faults, has_key}

pub after_both : (seen xs ys : List Part) → after seen (xs ++ ys) ≡ after (after seen xs) ys
after_both seen [] ys = refl
after_both seen (x ∷ xs) ys = after_both (after_one seen x) xs ys

pub clash_both : (names : List ℕ → Bool) (seen xs ys : List Part) →
    clash_faults names seen (xs ++ ys) ≡ clash_faults names seen xs ++ clash_faults names (after seen xs) ys
clash_both names seen [] ys = refl
clash_both names seen (x ∷ xs) ys =
    let here : List Fault = fault_if (clashes names seen x) (SharedName, span_of x) in
    ap (λ fs. here ++ fs) (clash_both names (after_one seen x) xs ys)
    ∙ sym (append_assoc here (clash_faults names (after_one seen x) xs) (clash_faults names (after (after_one seen x) xs) ys))

pub refuses_same : {T : Type 0} (r : Result T NormFailure) (xs ys : List Fault) → xs ≡ ys → Refuses r xs → Refuses r ys
refuses_same {T} r xs ys e h = subst (λ (fs : List Fault). Refuses r fs) e h

pub on_ok_more : {A E : Type 0} (r : Result A E) (P Q : Type 0) → (P → Q) → OnOk r P → OnOk r Q
on_ok_more (Ok x) P Q f h = f h
on_ok_more (Err e) P Q f h = tt

pub err_refuses : {T : Type 0} (r : Result T NormFailure) (e : NormFailure) (fs : List Fault) → IsErrAnd r (λ x. x ≡ e) → IsFirst fs e → Refuses r fs
err_refuses (Ok x) e fs from h = absurd from
err_refuses (Err x) e fs from h = rw from h
