use Rattle.std.proofs.Common.{◌≡◌, length, ap, ◌∙◌, arith}
use Rattle.std.specs.Prelude.{option_map}
use Rattle.std.proofs.lemmas.Bool.Decides.{nat_tests}
use Rattle.lalrpop_norm_tree_parts.specs.Reprs.{tuple}
use Rattle.lalrpop_norm_tyinfer_steps.specs.Numbered.{numbered_table}
use Rattle.lalrpop_norm_tyinfer_steps.proofs.StopLemmas.{if_ok}
use Rattle.lalrpop_norm_tyinfer.proofs.Sources.{many_sources}
use Rattle.lalrpop_norm_tyinfer.proofs.tyinfer.clause_values.sources_value.Goals as goal
use Rattle.lalrpop_norm_tyinfer.proofs.tyinfer.clause_values.sources_value.Goals.{in_default-via-then-sources-lt1, in_default-via-else-sources-lt1+else-sources-lt2}

pub returns-in-Some : goal.returns-in-Some
returns-in-Some c =
    let apart : length c.args.sources.now ≡ 1 → ⊥ =
    λ one. elim c.in_default.branch [ in_default-via-then-sources-lt1 w ↦ grind (arith, nat_tests) | in_default-via-else-sources-lt1+else-sources-lt2 w ↦ grind (arith, nat_tests) ]
    in
    if_ok c.tuple_type.result c.tuple_type.ensures
    (λ o is. is ∙ (ap (option_map tuple) (rw c.in-Some.is at c.in_ok-values-in_default.ensures) ∙ many_sources (numbered_table c.args.types.now) c.args.sources.now apart))

pub returns-in-None : goal.returns-in-None
returns-in-None c =
    let apart : length c.args.sources.now ≡ 1 → ⊥ =
    λ one. elim c.in_default.branch [ in_default-via-then-sources-lt1 w ↦ grind (arith, nat_tests) | in_default-via-else-sources-lt1+else-sources-lt2 w ↦ grind (arith, nat_tests) ]
    in
    ap (option_map tuple) (rw c.in-None.is at c.in_ok-values-in_default.ensures) ∙ many_sources (numbered_table c.args.types.now) c.args.sources.now apart
