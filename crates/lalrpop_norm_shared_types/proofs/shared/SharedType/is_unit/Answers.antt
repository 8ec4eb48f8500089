use Rattle.std.proofs.Common.{◌≡◌, ◌∙◌, arith, length, sym, vec_len}
use Rattle.lalrpop_norm_shared_types.proofs.SharedSeen.{unit_or_not}
use Rattle.lalrpop_norm_shared_types.proofs.shared.SharedType.is_unit.Goals as goal

pub returns-in-Tuple : goal.returns-in-Tuple
returns-in-Tuple c =
    let same : vec_len c.in-Tuple.types ≡ length c.in-Tuple.types.items = omega (arith, c.in-Tuple.types.ok.0) in
    rw (c.is_empty.ensures, same) (unit_or_not c.args.self.now c.in-Tuple.types (sym c.deref.ensures ∙ c.in-Tuple.is))
