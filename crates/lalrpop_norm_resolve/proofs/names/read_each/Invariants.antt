use Rattle.std.proofs.Common.{◌≡◌, drop}
use Rattle.lalrpop_norm_resolve.specs.NameTables.{rows_of}
use Rattle.lalrpop_norm_resolve.specs.NewNames.{with_made, are_new}
use Rattle.lalrpop_norm_resolve.proofs.names.read_each.Given as goal

abbrev pub invariant-loop-name : goal.invariant-loop-name
invariant-loop-name l =
    are_new (with_made (rows_of l.table) l.read) (drop l.name-index l.made) ≡ are_new (with_made (rows_of l.initial.table) l.initial.read) l.made
