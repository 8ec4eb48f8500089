use Rattle.std.proofs.Common.{rules}
use Rattle.std.specs.Map.Iter.{deref_pair}
use Rattle.std.proofs.lemmas.Map.Iter.{rest_more}
use Rattle.lalrpop_norm_tree_parts.specs.Reprs.{repr_view}
use Rattle.lalrpop_norm_shared_types.specs.Shared.{shared_view}
use Rattle.lalrpop_norm_shared_types.proofs.RowCopies.{row_copied}
use Rattle.lalrpop_norm_shared_types.proofs.table.shared_rows_of.Goals as goal

pub loop-name-preserved : goal.loop-name-preserved
loop-name-preserved c =
    rw c.in_ok-insert.ensures
    (row_copied shared_view repr_view c.args.listed.now.entries c.loop-name.name-iterator c.next.new.self c.loop-name.shared.entries
    c.in-Some.name.now c.in_ok-name.name c.in-Some.ty.now c.in_ok-ty.ty c.into_iter-name-iterator.ensures.into_iter_gives.5
    (rest_more deref_pair _ _ _ (c.in-Some.name, c.in-Some.ty) c.in-Some.is c.next.ensures.steps) (search rules) c.in_ok-ty.ensures c.loop-name.invariant)
