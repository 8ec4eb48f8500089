use Rattle.lalrpop_norm_tree_parts.specs.Reprs.{repr_view}
use Rattle.lalrpop_norm_repr.proofs.TableLemmas.{all_listed}
use Rattle.lalrpop_norm_repr.proofs.types.Types.terminal_types.Goals as goal

pub returns : goal.returns
returns c =
    all_listed repr_view c.loop-ty.types.items _ c.args.self.now.terminal_types.entries c.in-None.ensures.steps.0 c.loop-ty.invariant
