use Rattle.std.proofs.Common.{◌≡◌, ◌++◌, drop, map}
use Rattle.lalrpop_norm_model.specs.Entries.{user_names}
use Rattle.lalrpop_norm_tree_parts.specs.Reprs.{input_str}
use Rattle.lalrpop_norm_tyinfer_steps.specs.TokenTypes.{rows_seen}
use Rattle.lalrpop_norm_tyinfer_steps.proofs.tokens.entry_rows.Given as goal

abbrev pub invariant-loop-entry : goal.invariant-loop-entry
invariant-loop-entry l = rows_seen l.rows.items ++ map (λ t. (t, input_str)) (user_names (drop l.entry-index l.entries)) ≡ map (λ t. (t, input_str)) (user_names l.entries)
