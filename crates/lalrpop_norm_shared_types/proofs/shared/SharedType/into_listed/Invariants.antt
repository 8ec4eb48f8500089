use Rattle.std.proofs.Common.{◌≤◌}
use Rattle.lalrpop_norm_shared_types.specs.declared.shared.TypeNode.TheViews.{size-SharedType}
use Rattle.lalrpop_norm_shared_types.proofs.shared.SharedType.into_listed.Given as goal

abbrev pub invariant-loop-inner : goal.invariant-loop-inner
invariant-loop-inner l = size-SharedType l.self ≤ size-SharedType l.fn.self
