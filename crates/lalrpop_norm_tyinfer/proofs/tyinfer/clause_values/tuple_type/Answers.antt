use Rattle.std.proofs.Common.{Some, ap, ◌∙◌}
use Rattle.lalrpop_norm_shared_types.proofs.SharedSeen.{tuple_seen}
use Rattle.lalrpop_norm_tyinfer.proofs.tyinfer.clause_values.tuple_type.Goals as goal

pub returns : goal.returns
returns c = ap Some (c.in_ok-ty.ensures ∙ tuple_seen c.args.types)
