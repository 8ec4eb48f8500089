use Rattle.std.proofs.Common.{append-nil, sym, ap, ◌∙◌}
use Rattle.lalrpop_norm_lower_steps.proofs.terminals.terminal_set.Goals as goal
use Rattle.lalrpop_norm_lower_steps.proofs.terminals.terminal_set.Goals.{then-recovers+in_ok-push, else-recovers}

pub returns : goal.returns
returns c = record {
  all = elim c.if-recovers.branch [
    | then-recovers+in_ok-push w ↦ rw w.if-recovers.true (ap (λ v. v.items) w.all-is ∙ w.in_ok-push.ensures.items)
    | else-recovers w ↦ rw w.if-recovers.false (ap (λ v. v.items) w.all-is ∙ sym (append-nil _))
  ];
  bits = rw c.deref.ensures.value at c.in_ok-bits.ensures;
}
