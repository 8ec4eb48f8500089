use Rattle.std.proofs.Common.{rules}
use Rattle.lalrpop_norm_tree_parts.specs.Reprs.{repr_view}
use Rattle.lalrpop_norm_repr.proofs.TableLemmas.{rows_of_clones}
use Rattle.lalrpop_norm_repr.proofs.types.copy.copy_terminals.Goals as goal

pub returns : goal.returns
returns c = rows_of_clones repr_view _ _ c.args.types.now.entries c.in_ok-copy.copy.entries (λ a b h. search rules) (λ x y h. h) c.in_ok-copy.ensures.cases
