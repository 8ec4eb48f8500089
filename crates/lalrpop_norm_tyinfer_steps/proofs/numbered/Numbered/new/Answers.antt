use Rattle.std.proofs.Common.{List, ℕ, subst, sym}
use Rattle.lalrpop_norm_names.specs.Numbers.{number_in_table}
use Rattle.lalrpop_norm_tyinfer_steps.specs.Needs.{AreRuleNumbers}
use Rattle.lalrpop_norm_tyinfer_steps.proofs.NumberLemmas.{numbering_is}
use Rattle.lalrpop_norm_tyinfer_steps.proofs.numbered.Numbered.new.Goals as goal

pub returns-clause-numbers : goal.returns-clause-numbers
returns-clause-numbers c =
    let numbering = rw c.deref.ensures.value at c.in_ok-names.ensures in
    subst (λ (ns : List (List ℕ)). AreRuleNumbers (number_in_table c.in_ok-names.names) ns) (sym c.in_ok-rules.ensures.names) (numbering_is _ c.in_ok-names.names numbering)
