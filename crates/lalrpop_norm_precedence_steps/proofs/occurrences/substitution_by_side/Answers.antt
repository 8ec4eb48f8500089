use Rattle.std.proofs.Common.{inl, inr, refl}
use Rattle.lalrpop_norm_precedence_steps.proofs.occurrences.substitution_by_side.Goals as goal

pub returns-in-Left : goal.returns-in-Left
returns-in-Left c = elim c.in-Left.is [ inl is ↦ rw is refl | inr is ↦ rw is refl ]

pub returns-in-NonAssoc : goal.returns-in-NonAssoc
returns-in-NonAssoc c = rw c.in-NonAssoc.is refl
