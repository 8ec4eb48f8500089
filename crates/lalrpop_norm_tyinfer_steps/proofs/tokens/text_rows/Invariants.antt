use Rattle.std.proofs.Common.{◌≡◌, ◌++◌, drop, map}
use Rattle.lalrpop_norm_tree_parts.specs.Reprs.{input_str}
use Rattle.lalrpop_norm_tyinfer_steps.specs.TokenTypes.{rows_seen}
use Rattle.lalrpop_norm_tyinfer_steps.proofs.tokens.text_rows.Given as goal

abbrev pub invariant-loop-name : goal.invariant-loop-name
invariant-loop-name l = rows_seen l.rows.items ++ map (λ t. (t, input_str)) (drop l.name-index l.names) ≡ map (λ t. (t, input_str)) l.names
