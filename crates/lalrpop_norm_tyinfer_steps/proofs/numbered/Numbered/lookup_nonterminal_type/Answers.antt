use Rattle.std.proofs.Common.{ap, sym, ◌∙◌}
use Rattle.lalrpop_norm_tyinfer_steps.specs.Numbered.{type_at}
use Rattle.lalrpop_norm_tyinfer_steps.proofs.NumberedLemmas.{name_by_number}
use Rattle.lalrpop_norm_tyinfer_steps.proofs.numbered.Numbered.lookup_nonterminal_type.Goals as goal

pub returns-in-Some : goal.returns-in-Some
returns-in-Some c =
    let t = c.args.self.now in
    c.at.ensures ∙ sym (name_by_number t c.args.name.now.0 ∙ ap (type_at t.rules.items) (sym c.number.ensures ∙ c.in-Some.is))

pub returns-in-None : goal.returns-in-None
returns-in-None c =
    let t = c.args.self.now in
    sym (name_by_number t c.args.name.now.0 ∙ ap (type_at t.rules.items) (sym c.number.ensures ∙ c.in-None.is))
