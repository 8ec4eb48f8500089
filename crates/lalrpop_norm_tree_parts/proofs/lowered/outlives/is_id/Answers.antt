use Rattle.std.proofs.Common.{◌≡◌, ◌==◌, length, vec_len, arith, sym, ap, ◌∙◌}
use Rattle.lalrpop_norm_tree_parts.proofs.OutlivesLemmas.{applied_is_none}
use Rattle.lalrpop_norm_tree_parts.proofs.lowered.outlives.is_id.Goals as goal

pub returns-else-is_empty : goal.returns-else-is_empty
returns-else-is_empty c =
    let same : vec_len c.args.applied.now.types ≡ length c.args.applied.now.types.items = omega (arith, c.args.applied.now.types.ok.0) in
    c.if-is_empty.false ∙ applied_is_none c.args.parameter.now c.in-Id.name c.args.applied.now c.in-Id.is (ap (λ n. n == 0) (sym same) ∙ (sym c.is_empty.ensures ∙ c.if-is_empty.false))
