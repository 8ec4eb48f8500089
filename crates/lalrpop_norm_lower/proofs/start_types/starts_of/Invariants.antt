use Rattle.std.proofs.Common.{◌≡◌, ◌++◌, drop, map}
use Rattle.lalrpop_norm_tree.specs.Items.{rule_view}
use Rattle.lalrpop_norm_shared_types.specs.Table.{shared_table}
use Rattle.lalrpop_norm_lower.specs.Lowering.{start_names}
use Rattle.lalrpop_norm_lower.specs.Starts.{start_rule, start_named, start_taken, has_start}
use Rattle.lalrpop_norm_lower.proofs.start_types.starts_of.Given as goal

abbrev pub invariant-loop-rule : goal.invariant-loop-rule
invariant-loop-rule l =
    (map start_rule l.starts.items ++ map (λ r. rule_view r.now) (drop l.rule-index l.public) ≡ map (λ r. rule_view r.now) l.public)
    × (map start_named l.starts.items ++ start_names l.prefix (map (λ r. rule_view r.now) (drop l.rule-index l.public)) ≡ start_names l.prefix (map (λ r. rule_view r.now) l.public))
    × (map start_taken l.starts.items ++ map (has_start l.prefix (shared_table l.types)) (map (λ r. rule_view r.now) (drop l.rule-index l.public)) ≡ map (has_start l.prefix (shared_table l.types)) (map (λ r. rule_view r.now) l.public))
