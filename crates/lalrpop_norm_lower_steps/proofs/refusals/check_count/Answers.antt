use Rattle.std.proofs.Common.{◌≡◌, ℕ, not, nat_eq, [], length, sym, refl, ◌∙◌, eq-eqb, arith}
use Rattle.std.proofs.lemmas.List.{length-map}
use Rattle.lalrpop_norm_faults.specs.Faults.{Fault, fault_if}
use Rattle.lalrpop_norm_lower_steps.proofs.refusals.check_count.Goals as goal

as_many : (f : Fault) (n m : ℕ) → n ≡ m → fault_if (not (nat_eq n m)) f ≡ []
as_many f n m same = rw (eq-eqb n m same) refl

pub returns-then-sources-count : goal.returns-then-sources-count
returns-then-sources-count c =
    let same : c.args.count ≡ length c.args.sources.now = omega arith in
    as_many _ _ _ (same ∙ sym (length-map _ _))
