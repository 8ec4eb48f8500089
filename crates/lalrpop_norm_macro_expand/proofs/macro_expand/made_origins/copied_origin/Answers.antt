use Rattle.std.proofs.Common.{sym, ap, ◌∙◌, ◌∷◌, [], Some, None}
use Rattle.std.specs.Prelude.{option_map}
use Rattle.lalrpop_norm_origins.specs.declared.origin.Origin.{Origin}
use Rattle.lalrpop_norm_origins.specs.Origins.{origin_view}
use Rattle.lalrpop_norm_macro_expand.proofs.TracedLemmas.{origin_copied}
use Rattle.lalrpop_norm_macro_expand.proofs.macro_expand.made_origins.copied_origin.Goals as goal

pub returns-in-Some : goal.returns-in-Some
returns-in-Some c =
    ap (λ (o : Origin). origin_view o ∷ []) c.again.ensures
    ∙ origin_copied c.args.own.now c.args.place (Some c.in-Some.origin.now)
    (ap (option_map (λ o. o.now)) (sym c.in-Some.is) ∙ c.origin_in.ensures)

pub returns-in-None : goal.returns-in-None
returns-in-None c =
    origin_copied c.args.own.now c.args.place None (ap (option_map (λ o. o.now)) (sym c.in-None.is) ∙ c.origin_in.ensures)
