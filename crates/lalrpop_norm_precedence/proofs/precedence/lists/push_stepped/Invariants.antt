use Rattle.std.proofs.Common.{◌≡◌, ◌++◌, false}
use Rattle.lalrpop_norm_origins.specs.Origins.{origin_lists}
use Rattle.lalrpop_norm_precedence.specs.LevelLists.{stepped_lists}
use Rattle.lalrpop_norm_precedence.proofs.precedence.lists.push_stepped.Given as goal

abbrev pub invariant-loop-group : goal.invariant-loop-group
invariant-loop-group l =
    origin_lists l.lists.items ++ stepped_lists l.is_higher (origin_lists l.group-iterator.rest.items)
    ≡ origin_lists l.initial.lists.items ++ stepped_lists false (origin_lists l.fn.groups.items)
