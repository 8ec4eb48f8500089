use Rattle.lalrpop_norm_lowered_json.proofs.actions.FormPutsActionFnDefnKind.put.Goals as goal

pub returns-in-Inline : goal.returns-in-Inline
returns-in-Inline c =
    rw c.in-Inline.is
    record { ok = c.put_variant-in-Inline.ensures.ok; before = c.put_variant-in-Inline.ensures.before }
