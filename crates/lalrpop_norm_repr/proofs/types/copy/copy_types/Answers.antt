use Rattle.lalrpop_norm_repr.proofs.SameTables.{same_tables}
use Rattle.lalrpop_norm_repr.proofs.types.copy.copy_types.Goals as goal

pub returns : goal.returns
returns c =
    same_tables _ _ _ _ _ _ _ _ _ _ _ _ _ _ c.in_ok-declared.ensures.token c.in_ok-declared.ensures.location c.in_ok-declared.ensures.error
    c.in_ok-rows.ensures.terminals c.in_ok-rows.ensures.nonterminals c.in_ok-failures.ensures.parse_error c.in_ok-failures.ensures.recovery
