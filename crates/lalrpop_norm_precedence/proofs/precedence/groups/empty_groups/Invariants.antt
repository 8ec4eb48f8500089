use Rattle.std.proofs.Common.{◌≡◌, ◌++◌, [], map, drop}
use Rattle.lalrpop_norm_precedence.specs.Grouped.{group_view}
use Rattle.lalrpop_norm_precedence.proofs.precedence.groups.empty_groups.Given as goal

abbrev pub invariant-loop-level : goal.invariant-loop-level
invariant-loop-level l = map group_view l.groups.items ++ map (λ k. (k, [])) (drop l.level-index l.levels) ≡ map (λ k. (k, [])) l.levels
