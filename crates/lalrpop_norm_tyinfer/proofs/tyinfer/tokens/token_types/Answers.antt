use Rattle.lalrpop_norm_tyinfer_steps.proofs.TokenLemmas.{from_base}
use Rattle.lalrpop_norm_tyinfer.proofs.tyinfer.tokens.token_types.Goals as goal

pub returns : goal.returns
returns c = from_base _ _ _ _ c.in_ok-types.ensures (rw (c.in_ok-rows.ensures) at c.in_ok-add_rows.ensures)
