use Rattle.std.proofs.Common.{◌≡◌, ◌++◌, [], drop, map}
use Rattle.lalrpop_norm_origins.specs.Origins.{origin_lists}
use Rattle.lalrpop_norm_precedence.proofs.precedence.lists.empty_groups.Given as goal

abbrev pub invariant-loop : goal.invariant-loop
invariant-loop l = origin_lists l.groups.items ++ map (λ m. []) (drop l.index l.levels) ≡ map (λ m. []) l.levels
