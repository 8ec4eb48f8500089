use Rattle.std.proofs.Common.{Bor, ap, ◌∙◌}
use Rattle.std.specs.Prelude.{is_some}
use Rattle.lalrpop_norm_shared_types.specs.declared.shared.SharedType.{SharedType}
use Rattle.lalrpop_norm_shared_types.specs.Shared.{shared_view}
use Rattle.lalrpop_norm_tyinfer_steps.proofs.NumberedLemmas.{is_there, type_at_number}
use Rattle.lalrpop_norm_tyinfer_steps.proofs.numbered.Numbered.is_typed.Goals as goal

pub returns : goal.returns
returns c = λ n of.
    c.is_some.ensures ∙ (is_there (λ (t : Bor SharedType). shared_view t.now) c.at.result ∙ ap is_some (c.at.ensures ∙ type_at_number c.args.self.now n c.args.number of))
